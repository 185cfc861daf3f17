-- What holds of a call that comes a second time.
use Rattle.std.specs.Prelude.{◌≡◌, ℕ, Some}
use Rattle.std.specs.declared.alloc.AllocError.{AllocError}
use Rattle.std.specs.declared.result.Result.{Result}
use Rattle.std.specs.declared.result.Result.TheVariants.{Ok}
use Rattle.nk_store.specs.declared.operation.Operation.{Operation}
use Rattle.nk_store.specs.StoreState.{StoreState, recalled, Grows}
use Rattle.nk_store.specs.KeptAnswers.{GivesKept}

-- an operation that gave d in the store first gives it again in the store before, which grew from that one, and leaves that as it is
abbrev pub SecondCalls : Type 0
SecondCalls = (operation : Operation) (a b d : ℕ) (first before after : StoreState) (again : Result ℕ AllocError) →
    recalled first operation a b ≡ Some d → Grows first before → GivesKept before after operation a b again →
    (again ≡ Ok d) × (after ≡ before)
