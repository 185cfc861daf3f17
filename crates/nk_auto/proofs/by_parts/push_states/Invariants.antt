use Rattle.std.proofs.Common.{◌≡◌, ℕ, List, ◌++◌, take}
use Rattle.nk_store.specs.StoreState.{Grows}
use Rattle.nk_auto.specs.OfParts.{AreOfParts}
use Rattle.nk_auto.proofs.by_parts.push_states.Given as goal

-- the parts so far have their diagrams
abbrev pub invariant-loop-entry : goal.invariant-loop-entry
invariant-loop-entry l = record {
  grows : Grows l.fn.st l.st;
  pushed : (made : List ℕ) × (l.states ≡ l.fn.states ++ made) × AreOfParts l.st made (take l.entry-index l.entries);
}
