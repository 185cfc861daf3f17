use Rattle.std.proofs.Common.{◌-◌}
use Rattle.nk_algebra.proofs.halves.+choose_some.Given as goal

abbrev pub decreases-choose_some : goal.decreases-choose_some
decreases-choose_some l = l.to - l.from
