use Rattle.std.proofs.Common.{◌-◌, ◌≤◌}
use Rattle.nk_store.specs.StoreState.{Grows}
use Rattle.nk_apply.proofs.Built.{Built}
use Rattle.nk_apply.proofs.Intervals.{all_at}
use Rattle.nk_apply.proofs.few.few_parts.Given as goal

abbrev pub invariant-loop-parts : goal.invariant-loop-parts
invariant-loop-parts l = record {
  grows : Grows l.fn.st l.st;
  within : l.from ≤ l.max;
  built : Built (all_at l.fn.st l.fn.f l.fn.ds) l.st l.fn.f l.from l.parts;
}

abbrev pub decreases-loop-parts : goal.decreases-loop-parts
decreases-loop-parts l = l.max - l.from
