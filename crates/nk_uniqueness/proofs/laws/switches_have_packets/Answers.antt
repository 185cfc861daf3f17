use Rattle.nk_uniqueness.proofs.Having.{program_has}
use Rattle.nk_uniqueness.proofs.Texts.{texts_have}
use Rattle.nk_uniqueness.proofs.laws.switches_have_packets.Goals as goal

pub returns-clause-program : goal.returns-clause-program
returns-clause-program c = λ program ok declared. program_has program.fields program.topo ok.table declared

pub returns-clause-texts : goal.returns-clause-texts
returns-clause-texts c = texts_have c.declared_fields_are_writable.ensures c.declared_topologies_are_declarable.ensures
