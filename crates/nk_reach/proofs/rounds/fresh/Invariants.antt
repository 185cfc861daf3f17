use Rattle.std.proofs.Common.{take}
use Rattle.nk_store.specs.StoreState.{Grows}
use Rattle.nk_reach.specs.Rounds.{IsFresh}
use Rattle.nk_reach.proofs.rounds.fresh.Given as goal

abbrev pub invariant-loop-k : goal.invariant-loop-k
invariant-loop-k l = record {
  grows : Grows l.fn.st l.st;
  made : IsFresh l.fn.st l.visited (take l.k l.raw) l.st l.level;
}
