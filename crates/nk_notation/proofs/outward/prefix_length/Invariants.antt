use Rattle.std.proofs.Common.{◌≡◌, ◌≤◌}
use Rattle.nk_notation.specs.Outward.{length_below}
use Rattle.nk_notation.proofs.outward.prefix_length.Given as goal

-- no greater length is that of the range
abbrev pub invariant-lengths : goal.invariant-lengths
invariant-lengths l = record {
  within : l.digits ≤ 33;
  none : length_below l.digits l.low l.high ≡ length_below 33 l.low l.high;
}

abbrev pub decreases-lengths : goal.decreases-lengths
decreases-lengths l = l.digits
