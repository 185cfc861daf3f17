use Rattle.std.proofs.Common.{take}
use Rattle.nk_store.specs.StoreState.{Grows}
use Rattle.nk_determ.specs.Sets.{SetsGrow}
use Rattle.nk_reach.specs.Rounds.{IsSoFar}
use Rattle.nk_reach.proofs.follow.follow_level.Given as goal

abbrev pub invariant-loop-k : goal.invariant-loop-k
invariant-loop-k l = record {
  grows : Grows l.fn.st l.st;
  sets : SetsGrow l.fn.ss l.ss;
  made : IsSoFar l.fn.st l.fn.ss l.states (take l.k l.last) l.st l.ss l.raw;
}
