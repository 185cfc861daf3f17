use Rattle.nk_store.specs.StoreState.{HasLeaves}
use Rattle.nk_apply.specs.Unions.{unions}
use Rattle.nk_apply.proofs.unions.alone.Given as goal

abbrev pub invariant-loop-i : goal.invariant-loop-i
invariant-loop-i l = HasLeaves l.st l.found (λ pk. unions l.st l.ds 0 l.i pk)
