use Rattle.std.proofs.Common.{take}
use Rattle.nk_store.specs.StoreState.{Grows}
use Rattle.nk_goal.specs.Entries.{IsMerged}
use Rattle.nk_goal.proofs.entries.Entries.add_level.Given as goal

abbrev pub invariant-loop-k : goal.invariant-loop-k
invariant-loop-k l = record {
  grows : Grows l.fn.st l.st;
  merged : IsMerged l.fn.st l.fn.self (take l.k l.level) l.st l.self;
}
