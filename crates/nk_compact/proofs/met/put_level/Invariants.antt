use Rattle.std.proofs.Common.{◌≡◌, ◌<◌, ◌++◌, ℕ, List, length, take}
use Rattle.std.specs.Prelude.{slice_index}
use Rattle.nk_store.specs.StoreState.{StoreState, IsId, Grows}
use Rattle.nk_compact.specs.MetPackets.{HaveIds, AreUnder}
use Rattle.nk_compact.proofs.met.put_level.Given as goal

-- the entries so far are put in
abbrev pub invariant-loop-s : goal.invariant-loop-s
invariant-loop-s l = record {
  grows : Grows l.fn.st l.st;
  len : length l.all ≡ length l.fn.all;
  ids : (k : ℕ) → k < length l.all → IsId l.st (slice_index l.all k);
  under : (base : StoreState) (before : List (ℕ × ℕ)) → Grows base l.fn.st → HaveIds base l.level → AreUnder base l.fn.st before l.fn.all → AreUnder base l.st (before ++ take l.s-index l.level) l.all;
}
