-- A choice by a field between diagrams that test any fields.
use Rattle.std.specs.Prelude.{◌≡◌, ◌==◌, ℕ, ◌<◌, ◌≤◌, min, Bool, ◌&&◌, List, [], ◌∷◌, Some, slice_index}
use Rattle.std.specs.Map.{lookup}
use Rattle.std.specs.Cmp.Lexicographic.{pointwise}
use Rattle.nk_store.specs.Nodes.{child_at, Rises, Each}
use Rattle.nk_store.specs.StoreState.{StoreState, IsId, IsChild, HasLeaves, look, root_field}
use Rattle.nk_apply.specs.Cofactors.{cofactor}

-- parts of a field's values, each with a diagram
pub record AreChoices (st : StoreState) (f : ℕ) (parts : List (ℕ × ℕ)) : Type 0 where
  pub field : f < 18
  pub rise : Rises (slice_index st.maxes f) 0 parts
  pub ids : Each (IsId st) parts

-- the field f, or the least one before it that a part's diagram tests first
abbrev pub first_of : StoreState → ℕ → List (ℕ × ℕ) → ℕ
first_of st f [] = f
first_of st f (p ∷ ps) = first_of st (min f (root_field st p.1)) ps

-- the parts, each with what its diagram is at the value v of g
abbrev pub part_cofactors : StoreState → ℕ → ℕ → List (ℕ × ℕ) → List (ℕ × ℕ)
part_cofactors st g v [] = []
part_cofactors st g v (p ∷ ps) = (p.0, cofactor st g v p.1) ∷ part_cofactors st g v ps

-- what the parts are at the value v of g: the parts p.1, up to the value p.0
pub record IsCut (st : StoreState) (g v : ℕ) (parts : List (ℕ × ℕ)) (p : ℕ × List (ℕ × ℕ)) : Type 0 where
  pub from : v ≤ p.0
  pub within : p.0 ≤ slice_index st.maxes g
  pub same : (w : ℕ) → v ≤ w → w ≤ p.0 → part_cofactors st g w parts ≡ p.1
  pub children : Each (IsChild st g) p.1

-- d is the choice by f between the parts; it tests no field before the first of f and those that they test
pub record IsChosen (st : StoreState) (f : ℕ) (parts : List (ℕ × ℕ)) (d : ℕ) : Type 0 where
  pub choices : AreChoices st f parts
  pub leaves : HasLeaves st d (λ pk. look st (child_at 0 parts (slice_index pk f)) pk)
  pub later : first_of st f parts ≤ root_field st d

-- whether two lists of parts are one
abbrev pub parts_eq : List (ℕ × ℕ) → List (ℕ × ℕ) → Bool
parts_eq ps qs = pointwise (λ p q. p.0 == q.0 && p.1 == q.1) ps qs

-- each entry leads from parts to the choice by f between them
abbrev pub AreChosen : StoreState → ℕ → List (List (ℕ × ℕ) × ℕ) → Type 0
AreChosen st f entries = (parts : List (ℕ × ℕ)) (d : ℕ) → lookup (parts_eq parts) entries ≡ Some d → IsChosen st f parts d
