-- The steps of diagrams whose leaves have one label each at most.
use Rattle.std.specs.Prelude.{◌≡◌, ◌==◌, ℕ, ◌+◌, ◌<◌, ◌≤◌, true, nat_eq, Some, List, [], ◌∷◌, if◌then◌else◌, flat_map, Contains}
use Rattle.std.specs.Map.{lookup}
use Rattle.nk_store.specs.declared.node.Out.{Out}
use Rattle.nk_store.specs.Leaves.{Strict, Every, Suits}
use Rattle.nk_store.specs.Nodes.{child_at}
use Rattle.nk_store.specs.StoreState.{StoreState, IsId, IsWhole, look, root_field, HasLeaves, AreParts}
use Rattle.nk_apply.specs.Cofactors.{cofactor}
use Rattle.nk_determ.specs.Sets.{SetsGrow, holds, place_in}

-- the out to that target, unless it is a final
abbrev pub step_to : ℕ → Out → List Out
step_to target o = if o.target == 0 then [] else record { act = o.act; target = target } ∷ []

-- the outs that are no finals, each to 1 + the number of the set of its label alone
abbrev pub single_to : List (List ℕ) → List Out → List Out
single_to sets outs = flat_map (λ o. step_to (place_in sets (o.target ∷ []) + 1) o) outs

-- the first label among the targets; 0 where all are finals
abbrev pub first_label : List Out → ℕ
first_label [] = 0
first_label (o ∷ os) = if o.target == 0 then first_label os else o.target

-- the leaf has one label at most, and the set of it alone is one of the sets
pub record IsSingleIn (sets : List (List ℕ)) (outs : List Out) : Type 0 where
  pub one : (o p : Out) → Contains outs o → Contains outs p → 0 < o.target → 0 < p.target → o.target ≡ p.target
  pub there : (o : Out) → Contains outs o → 0 < o.target → holds sets (o.target ∷ []) ≡ true

-- those are the steps among the outs, whatever sets come later
pub record AreSteps (sets : List (List ℕ)) (outs r : List Out) : Type 0 where
  pub steps : (later : List (List ℕ)) → SetsGrow sets later → r ≡ single_to later outs
  pub single : IsSingleIn sets outs

-- the diagram is a leaf, and those are its steps, which can be made a leaf
pub record AreLeafSteps (st : StoreState) (d : ℕ) (sets : List (List ℕ)) (r : List Out) : Type 0 where
  pub leaf : root_field st d ≡ 18
  pub steps : (pk : List ℕ) → AreSteps sets (look st d pk) r
  pub sorted : Strict r
  pub suits : Every (Suits st.maxes) r

-- each leaf of d has one label at most, and r has the steps of d, whatever sets come later; it tests no field before those
-- that d tests
pub record IsSingle (old : StoreState) (d : ℕ) (new : StoreState) (sets : List (List ℕ)) (r : ℕ) : Type 0 where
  pub leaves : (later : List (List ℕ)) → SetsGrow sets later → HasLeaves new r (λ pk. single_to later (look old d pk))
  pub single : (pk : List ℕ) → IsSingleIn sets (look old d pk)
  pub later : root_field old d ≤ root_field new r

-- each leaf of d has one label at most, and the parts by the field f have the steps of d, whatever sets come later
pub record AreSingleBy (old : StoreState) (f d : ℕ) (new : StoreState) (sets : List (List ℕ)) (ps : List (ℕ × ℕ)) : Type 0 where
  pub parts : AreParts new f ps
  pub leaves : (later : List (List ℕ)) → SetsGrow sets later → (v : ℕ) (pk : List ℕ) → IsWhole pk →
      look new (child_at 0 ps v) pk ≡ single_to later (look old (cofactor old f v d) pk)
  pub single : (pk : List ℕ) → IsSingleIn sets (look old d pk)

-- each entry leads from a diagram to its steps
abbrev pub AreSingle : StoreState → List (List ℕ) → List (ℕ × ℕ) → Type 0
AreSingle st sets entries = (d r : ℕ) → lookup (nat_eq d) entries ≡ Some r → IsId st d × IsSingle st d st sets r
