use Rattle.std.proofs.Common.{◌+◌, ◌*◌, ◌-◌, ◌≤◌}
use Rattle.nk_store.specs.StoreState.{Grows}
use Rattle.nk_determ.specs.Sets.{SetsGrow}
use Rattle.nk_steps.specs.Single.{AreSingle}
use Rattle.nk_steps.proofs.SingleParts.{AreBuiltSingle, AreSingleUpTo}
use Rattle.nk_steps.proofs.single.+steps_single.Given as goal

abbrev pub decreases-single_once : goal.decreases-single_once
decreases-single_once l = 4 * l.d + 3

abbrev pub decreases-single_new : goal.decreases-single_new
decreases-single_new l = 4 * l.d + 2

abbrev pub decreases-single_case : goal.decreases-single_case
decreases-single_case l = 4 * l.d + 1

abbrev pub decreases-single_parts : goal.decreases-single_parts
decreases-single_parts l = 4 * l.d

-- the parts for the values so far, whose leaves have one label at most
abbrev pub invariant-single_parts-loop-parts : goal.invariant-single_parts-loop-parts
invariant-single_parts-loop-parts l = record {
  grows : Grows l.fn.st l.st;
  sets : SetsGrow l.fn.ss l.ss;
  seen : AreSingle l.st l.ss l.seen;
  within : l.from ≤ l.max;
  built : AreBuiltSingle l.fn.st l.st l.ss l.f l.d l.from l.parts;
  single : AreSingleUpTo l.fn.st l.ss l.f l.d l.from;
}

abbrev pub decreases-single_parts-loop-parts : goal.decreases-single_parts-loop-parts
decreases-single_parts-loop-parts l = l.max - l.from
