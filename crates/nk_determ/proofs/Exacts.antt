-- Diagrams whose acts assign exactly the fields that they change.
use Rattle.std.proofs.Common.{ℕ, ◌+◌, ◌≤◌, min, Bool, true, false, cond, eqb, List, [], ◌∷◌, arith, get_or}
use Rattle.nk_store.specs.Leaves.{IsActFrom}
use Rattle.nk_determ.specs.Exact.{exact}

-- an act from a field on is one from an earlier field on
pub weaker_from : (maxes : List ℕ) (low high : ℕ) (g : List (ℕ × ℕ)) → low ≤ high → IsActFrom maxes high g →
    IsActFrom maxes low g
weaker_from maxes low high [] l a = tt
weaker_from maxes low high (s ∷ ss) l a = (omega (arith, a.0), a.1, a.2, a.3)

-- fewer assignments ascend too
pub exact_acts : (maxes pk : List ℕ) (low : ℕ) (g : List (ℕ × ℕ)) → IsActFrom maxes low g →
    IsActFrom maxes low (exact maxes pk g)
exact_acts maxes pk low [] a = tt
exact_acts maxes pk low (s ∷ ss) a = by (exact_acts maxes pk (s.0 + 1) ss a.3) (eqb (min (get_or pk s.0 0) (get_or maxes s.0 0)) s.1)
  where
    by : IsActFrom maxes (s.0 + 1) (exact maxes pk ss) → (b : Bool) →
        IsActFrom maxes low (cond b (exact maxes pk ss) (s ∷ exact maxes pk ss))
    by rest true = weaker_from maxes low (s.0 + 1) (exact maxes pk ss) (omega (arith, a.0)) rest
    by rest false = (a.0, a.1, a.2, rest)
