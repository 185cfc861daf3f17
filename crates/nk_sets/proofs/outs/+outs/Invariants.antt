use Rattle.std.proofs.Common.{◌+◌, ◌*◌, ◌-◌, ◌≤◌}
use Rattle.nk_store.specs.StoreState.{Grows}
use Rattle.nk_sets.specs.Outs.{AreByOut, IsUpTo}
use Rattle.nk_sets.proofs.outs.+outs.Given as goal

abbrev pub decreases-visit : goal.decreases-visit
decreases-visit l = 5 * l.d + 3

abbrev pub decreases-outs_new : goal.decreases-outs_new
decreases-outs_new l = 5 * l.d + 2

abbrev pub decreases-outs_of_case : goal.decreases-outs_of_case
decreases-outs_of_case l = 5 * l.d + 1

abbrev pub decreases-outs_of_parts : goal.decreases-outs_of_parts
decreases-outs_of_parts l = 5 * l.d

abbrev pub decreases-put_outs : goal.decreases-put_outs
decreases-put_outs l = 5 * l.d + 4

abbrev pub invariant-outs_of_parts-loop-all : goal.invariant-outs_of_parts-loop-all
invariant-outs_of_parts-loop-all l = record {
  grows : Grows l.fn.st l.st;
  seen : AreByOut l.st l.seen;
  within : l.from ≤ l.max;
  made : IsUpTo l.fn.st l.d l.f l.from l.st l.all;
}

abbrev pub decreases-outs_of_parts-loop-all : goal.decreases-outs_of_parts-loop-all
decreases-outs_of_parts-loop-all l = l.max - l.from
