use Rattle.nk_worked.proofs.Rows.{worked}
use Rattle.nk_worked.proofs.laws.a_drop_row_and_a_group.Goals as goal

pub returns : goal.returns
returns c = worked
