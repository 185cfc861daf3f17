use Rattle.nk_names.proofs.Topologies.{declares_declarable}
use Rattle.nk_names.proofs.laws.declared_topologies_are_declarable.Goals as goal

pub returns : goal.returns
returns c = declares_declarable
