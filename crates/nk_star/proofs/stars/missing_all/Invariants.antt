use Rattle.nk_store.specs.StoreState.{Grows, HasLeaves, look}
use Rattle.nk_store.specs.Operations.{lacking}
use Rattle.nk_apply.specs.Unions.{unions}
use Rattle.nk_star.proofs.stars.missing_all.Given as goal

abbrev pub invariant-loop-k : goal.invariant-loop-k
invariant-loop-k l = record {
  grows : Grows l.fn.st l.st;
  less : HasLeaves l.st l.rest (λ pk. lacking (look l.fn.st l.fn.d pk) (unions l.fn.st l.all 0 l.k pk));
}
