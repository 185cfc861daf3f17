use Rattle.nk_store.specs.StoreState.{Grows}
use Rattle.nk_reach.specs.Rounds.{IsAllSent}
use Rattle.nk_reach.proofs.follow.send_all.Given as goal

abbrev pub invariant-loop-i : goal.invariant-loop-i
invariant-loop-i l = record {
  grows : Grows l.fn.st l.st;
  sent : IsAllSent l.fn.st l.outs l.i l.fn.raw l.st l.raw;
}
