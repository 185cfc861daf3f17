use Rattle.nk_names.specs.Accepted.{IsStartPacket}
use Rattle.nk_uniqueness.proofs.OneTable.{one_table, one_table_after}
use Rattle.nk_uniqueness.proofs.ByName.{one_compiled}
use Rattle.nk_uniqueness.proofs.laws.one_table_is_printed.Goals as goal

pub returns-clause-policy : goal.returns-clause-policy
returns-clause-policy c = λ fields topo p t u there h k. one_table fields topo (IsStartPacket fields topo) p t u there h k

pub returns-clause-name : goal.returns-clause-name
returns-clause-name c = λ program other name t u same there h k. one_compiled program other same name t u there h k

pub returns-clause-following : goal.returns-clause-following
returns-clause-following c = λ first fields topo p t u there h k. one_table_after first fields topo (IsStartPacket fields topo) p t u there h k
