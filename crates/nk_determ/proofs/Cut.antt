-- The values from one on among values that ascend.
use Rattle.std.proofs.Common.{◌≡◌, ℕ, ◌<◌, ◌≤◌, List, length, arith, get_or, inl, inr, ◌∙◌}
use Rattle.std.specs.List.{Contains}
use Rattle.std.specs.List.Sorted.{IsNonDecreasing}
use Rattle.std.proofs.lemmas.Bool.Decides.{leb_tells}
use Rattle.std.proofs.lemmas.List.{get_or_default}

-- where all values are less than one, none from it on is among them
pub none_after : (vs : List ℕ) (from place v : ℕ) →
    ((k e : ℕ) → k < length vs → k < place → get_or vs k e < from) → length vs ≤ place → Contains vs v → from ≤ v → ⊥
none_after vs from place v below l h m =
    let less = below h.0 v h.1 (omega (arith, h.1, l)) in
    let is = h.2 in
    omega (arith, less, is, m)

-- where those before a place are less than one, each from it on is not less than the one at the place
pub some_after : (vs : List ℕ) (from place v : ℕ) → IsNonDecreasing vs →
    ((k e : ℕ) → k < length vs → k < place → get_or vs k e < from) → Contains vs v → from ≤ v → get_or vs place 0 ≤ v
some_after vs from place v up below h m =
    elim (leb_tells place h.0) [
      | inr before ↦
          let less = below h.0 v h.1 (omega (arith, before.1)) in
          let is = h.2 in
          absurd (omega (arith, less, is, m))
      | inl on ↦
          let rises = up place h.0 0 on.1 h.1 in
          let is : get_or vs h.0 0 ≡ v = get_or_default vs h.0 0 v h.1 ∙ h.2 in
          omega (arith, rises, is)
    ]
