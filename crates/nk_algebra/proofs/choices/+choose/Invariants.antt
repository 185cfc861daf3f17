use Rattle.std.proofs.Common.{◌+◌, ◌*◌, ◌-◌, ◌≤◌}
use Rattle.nk_store.specs.StoreState.{Grows}
use Rattle.nk_algebra.specs.Choices.{first_of, AreChosen}
use Rattle.nk_apply.proofs.Built.{Built}
use Rattle.nk_algebra.proofs.Cuts.{cut_leaf}
use Rattle.nk_algebra.proofs.choices.+choose.Given as goal

abbrev pub decreases-choose_by : goal.decreases-choose_by
decreases-choose_by l = 4 * (l.f - first_of l.st.now l.f l.parts) + 3

abbrev pub decreases-choose_once : goal.decreases-choose_once
decreases-choose_once l = 4 * (l.f - l.g) + 2

abbrev pub decreases-choose_before : goal.decreases-choose_before
decreases-choose_before l = 4 * (l.f - l.g) + 1

abbrev pub decreases-choose_parts : goal.decreases-choose_parts
decreases-choose_parts l = 4 * (l.f - l.g)

abbrev pub invariant-choose_parts-loop-pieces : goal.invariant-choose_parts-loop-pieces
invariant-choose_parts-loop-pieces l = record {
  grows : Grows l.fn.st l.st;
  seen : AreChosen l.st l.f l.seen.entries;
  within : l.from ≤ l.max;
  built : Built (cut_leaf l.fn.st l.f l.g l.parts) l.st l.g l.from l.pieces;
}

abbrev pub decreases-choose_parts-loop-pieces : goal.decreases-choose_parts-loop-pieces
decreases-choose_parts-loop-pieces l = l.max - l.from
