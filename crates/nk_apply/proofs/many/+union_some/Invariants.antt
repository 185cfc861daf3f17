use Rattle.std.proofs.Common.{◌-◌}
use Rattle.nk_apply.proofs.many.+union_some.Given as goal

abbrev pub decreases-union_some : goal.decreases-union_some
decreases-union_some l = l.to - l.from
