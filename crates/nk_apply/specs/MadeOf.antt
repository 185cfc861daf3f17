-- What is made of one diagram, node by node.
use Rattle.std.specs.Prelude.{◌≡◌, ℕ, ◌≤◌, nat_eq, List, Some}
use Rattle.std.specs.Map.{lookup}
use Rattle.nk_store.specs.declared.node.Out.{Out}
use Rattle.nk_store.specs.StoreState.{StoreState, IsId, look, root_field, HasLeaves}

-- at each packet r has what M makes of the leaf that d has at the packet that P makes; it tests no field before those that F leaves
-- of the first one of d
pub record IsMadeOf
    (P : List ℕ → List ℕ) (M : List ℕ → List ℕ → List Out → List Out) (F : ℕ → ℕ) (st : StoreState) (d r : ℕ) : Type 0 where
  pub id : IsId st d
  pub leaves : HasLeaves st r (λ pk. M st.maxes pk (look st d (P pk)))
  pub later : F (root_field st d) ≤ root_field st r

-- each entry leads from a diagram to what is made of it
abbrev pub AreMadeOf : (List ℕ → List ℕ) → (List ℕ → List ℕ → List Out → List Out) → (ℕ → ℕ) → StoreState → List (ℕ × ℕ) → Type 0
AreMadeOf P M F st entries = (d r : ℕ) → lookup (nat_eq d) entries ≡ Some r → IsMadeOf P M F st d r
