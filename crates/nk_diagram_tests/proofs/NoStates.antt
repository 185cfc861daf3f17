-- No states.
use Rattle.std.proofs.Common.{◌≡◌, ℕ, List, [], sym, subst, arith}
use Rattle.nk_store.specs.StoreState.{StoreState}
use Rattle.nk_determ.specs.Pairs.{AreStates}

-- no states
pub no_states : (st : StoreState) (states : List ℕ) → states ≡ [] → AreStates st states
no_states st states is = subst (AreStates st) (sym is) none
  where
    none : AreStates st []
    none = record {
      ids = λ k lt. absurd (omega (arith, lt));
      targets = λ l pk y t lt r s. absurd (omega (arith, lt));
    }
