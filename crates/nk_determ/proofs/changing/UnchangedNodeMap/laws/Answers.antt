use Rattle.std.proofs.Common.{arith}
use Rattle.nk_determ.proofs.changing.UnchangedNodeMap.laws.Goals as goal

pub returns-clause-least : goal.returns-clause-least
returns-clause-least c = λ t. omega arith

pub returns-clause-following : goal.returns-clause-following
returns-clause-following c = λ g t a b. omega (arith, a, b)
