use Rattle.std.proofs.Common.{drop}
use Rattle.nk_store.specs.Nodes.{Each}
use Rattle.nk_store.specs.StoreState.{IsChild}
use Rattle.nk_algebra.proofs.choices.are_later.Given as goal

abbrev pub invariant-loop-i : goal.invariant-loop-i
invariant-loop-i l = Each (IsChild l.st l.f) (drop l.i l.parts) → Each (IsChild l.st l.f) l.parts
