use Rattle.std.proofs.Common.{ℕ, ◌+◌, ◌*◌, ◌<◌, get_or}
use Rattle.nk_steps.specs.AllPlain.{HasPlainLeaves, AllHavePlainLeaves}
use Rattle.nk_steps.proofs.plain.+plain.Given as goal

abbrev pub decreases-plain_part : goal.decreases-plain_part
decreases-plain_part l = 3 * l.d + 2

abbrev pub decreases-plain_once : goal.decreases-plain_once
decreases-plain_once l = 3 * l.d + 1

abbrev pub decreases-plain_new : goal.decreases-plain_new
decreases-plain_new l = 3 * l.d

abbrev pub invariant-plain_new-loop-part : goal.invariant-plain_new-loop-part
invariant-plain_new-loop-part l = record {
  seen : AllHavePlainLeaves l.st l.seen.keys;
  done : (k : ℕ) → k < l.part-index → HasPlainLeaves l.st (get_or l.part-items k (0, 0)).1;
}
