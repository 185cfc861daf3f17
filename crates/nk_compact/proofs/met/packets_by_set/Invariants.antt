use Rattle.std.proofs.Common.{◌≡◌, length, take}
use Rattle.nk_store.specs.StoreState.{Grows}
use Rattle.nk_compact.specs.MetPackets.{entries_of, AreUnder}
use Rattle.nk_compact.proofs.met.packets_by_set.Given as goal

-- the levels so far are put in
abbrev pub invariant-loop-level : goal.invariant-loop-level
invariant-loop-level l = record {
  grows : Grows l.fn.st l.st;
  len : length l.all ≡ l.sets;
  under : AreUnder l.fn.st l.st (entries_of (take l.level-index l.level-items)) l.all;
}
