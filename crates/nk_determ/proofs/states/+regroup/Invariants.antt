use Rattle.std.proofs.Common.{◌+◌, ◌*◌, ◌-◌, ◌≤◌}
use Rattle.nk_store.specs.StoreState.{Grows}
use Rattle.nk_determ.specs.Sets.{SetsGrow}
use Rattle.nk_determ.specs.States.{AreRegrouped}
use Rattle.nk_determ.proofs.Regroupings.{AreBuilt, AreHeld}
use Rattle.nk_determ.proofs.states.+regroup.Given as goal

abbrev pub decreases-regroup_once : goal.decreases-regroup_once
decreases-regroup_once l = 3 * l.d + 2

abbrev pub decreases-regroup_new : goal.decreases-regroup_new
decreases-regroup_new l = 3 * l.d + 1

abbrev pub decreases-regroup_parts : goal.decreases-regroup_parts
decreases-regroup_parts l = 3 * l.d

-- the parts and the sets of the values so far
abbrev pub invariant-regroup_parts-loop-parts : goal.invariant-regroup_parts-loop-parts
invariant-regroup_parts-loop-parts l = record {
  grows : Grows l.fn.st l.st;
  sets : SetsGrow l.fn.ss l.ss;
  seen : AreRegrouped l.st l.ss l.seen;
  within : l.from ≤ l.max;
  built : AreBuilt l.fn.st l.st l.ss l.f l.d l.from l.parts;
  held : AreHeld l.fn.st l.ss l.f l.d l.from;
}

abbrev pub decreases-regroup_parts-loop-parts : goal.decreases-regroup_parts-loop-parts
decreases-regroup_parts-loop-parts l = l.max - l.from
