use Rattle.std.proofs.Common.{◌+◌, ◌*◌, drop}
use Rattle.nk_store.specs.StoreState.{Grows}
use Rattle.nk_sets.specs.Forgets.{AreForgotten}
use Rattle.nk_sets.proofs.Forgetting.{Made}
use Rattle.nk_sets.proofs.forgets.+forget.Given as goal

abbrev pub decreases-forget_once : goal.decreases-forget_once
decreases-forget_once l = 4 * l.s + 3

abbrev pub decreases-forget_new : goal.decreases-forget_new
decreases-forget_new l = 4 * l.s + 2

abbrev pub decreases-forget_parts : goal.decreases-forget_parts
decreases-forget_parts l = 4 * l.s

abbrev pub decreases-forget_case : goal.decreases-forget_case
decreases-forget_case l = 4 * l.s + 1

abbrev pub invariant-forget_parts-loop-end : goal.invariant-forget_parts-loop-end
invariant-forget_parts-loop-end l = record {
  grows : Grows l.fn.st l.st;
  seen : AreForgotten l.st l.f l.seen;
  made : Made l.st l.f l.parts l.made (drop l.end-index l.parts);
}
