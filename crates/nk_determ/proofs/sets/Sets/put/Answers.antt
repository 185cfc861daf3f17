use Rattle.std.proofs.Common.{◌∙◌, ap}
use Rattle.nk_determ.specs.Sets.{holds}
use Rattle.nk_determ.proofs.Interned.{set_there, number_placed}
use Rattle.nk_determ.proofs.sets.Sets.put.Goals as goal

pub returns-clause-is : goal.returns-clause-is
returns-clause-is c = number_placed c.args.self.now c.intern.new.self c.in_ok-s.s c.args.labels c.in_ok-s.ensures.sets c.differ.ensures.differ c.in_ok-s.ensures.ok

pub returns-clause-there : goal.returns-clause-there
returns-clause-there c = ap (λ zs. holds zs c.args.labels) c.in_ok-s.ensures.sets ∙ set_there c.args.self.now c.args.labels
