-- The diagram of a set state.
use Rattle.std.specs.Prelude.{◌≡◌, ◌==◌, ◌↔◌, ℕ, ◌+◌, ◌<◌, ◌≤◌, true, nat_eq, Some, List, [], ◌∷◌, ◌++◌, if◌then◌else◌, length, flat_map, slice_index, slice_index_or}
use Rattle.std.specs.List.{Contains, list_any}
use Rattle.std.specs.Map.{lookup}
use Rattle.nk_store.specs.declared.node.Out.{Out}
use Rattle.nk_store.specs.Leaves.{Strict}
use Rattle.nk_store.specs.StoreState.{StoreState, IsId, IsWhole, look, root_field, HasLeaves}
use Rattle.nk_apply.specs.Leaves.{gathered}
use Rattle.nk_determ.specs.Exact.{split_leaf, Sends}
use Rattle.nk_determ.specs.Sets.{SetsGrow, holds, place_in}
use Rattle.nk_determ.specs.Branches.{Branch, branches, labels, labels_of}

-- one of these diagrams, split, sends the packet by that act to that target
abbrev pub SomeSends : StoreState → List ℕ → List ℕ → List (ℕ × ℕ) → ℕ → Type 0
SomeSends st ds pk g target = (d : ℕ) × Contains ds d × Contains (split_leaf st.maxes pk (look st d pk)) (record { act = g; target = target })

-- one of these diagrams sends the packet, made y, to that target
abbrev pub SomeLeads : StoreState → List ℕ → List ℕ → List ℕ → ℕ → Type 0
SomeLeads st ds pk y target = (d : ℕ) × Contains ds d × Sends st d pk y target

-- the state at one of these labels, split, sends the packet by that act to that target
abbrev pub StateSends : StoreState → List ℕ → List ℕ → List ℕ → List (ℕ × ℕ) → ℕ → Type 0
StateSends st states labels pk g target = (l : ℕ) × Contains labels l × Contains (split_leaf st.maxes pk (look st (slice_index states l) pk)) (record { act = g; target = target })

-- and of these states as they are
abbrev pub StateLeads : StoreState → List ℕ → List ℕ → List ℕ → List ℕ → ℕ → Type 0
StateLeads st states labels pk y target = (l : ℕ) × Contains labels l × Sends st (slice_index states l) pk y target

-- the set of that number has exactly the labels, 0 being none, that are met, and there are some
pub record IsSetOfMet (sets : List (List ℕ)) (i : ℕ) (Met : ℕ → Type 0) : Type 0 where
  pub within : i < length sets
  pub some : slice_index_or sets i [] ≡ [] → ⊥
  pub every : (l : ℕ) → Contains (slice_index_or sets i []) l ↔ ((0 < l) × Met l)

-- those labels are all with which some diagram records what the act makes of the packet
abbrev pub AreFollowed : List (List ℕ) → StoreState → List ℕ → List ℕ → List (ℕ × ℕ) → ℕ → Type 0
AreFollowed sets st ds pk g i = IsSetOfMet sets i (λ l. SomeSends st ds pk g l)

-- those labels are all with which some diagram records the packet, made y
abbrev pub AreLedTo : List (List ℕ) → StoreState → List ℕ → List ℕ → List ℕ → ℕ → Type 0
AreLedTo sets st ds pk y i = IsSetOfMet sets i (λ l. SomeLeads st ds pk y l)

-- those labels are all with which some state records what the act makes of the packet
abbrev pub IsLedByAct : List (List ℕ) → StoreState → List ℕ → List ℕ → List ℕ → List (ℕ × ℕ) → ℕ → Type 0
IsLedByAct sets st states labels pk g i = IsSetOfMet sets i (λ l. StateSends st states labels pk g l)

-- those labels are all with which some state records the packet, made y
abbrev pub IsLedTo : List (List ℕ) → StoreState → List ℕ → List ℕ → List ℕ → List ℕ → ℕ → Type 0
IsLedTo sets st states labels pk y i = IsSetOfMet sets i (λ l. StateLeads st states labels pk y l)

-- the first n of these diagrams have the leaves that the function gives for their places
abbrev pub HaveEach : StoreState → List ℕ → (ℕ → List ℕ → List Out) → ℕ → Type 0
HaveEach st ds F n = (k : ℕ) → k < n → HasLeaves st (slice_index ds k) (F k)

-- the diagram has all that these diagrams, split, have
pub record IsTogether (old : StoreState) (ds : List ℕ) (new : StoreState) (d : ℕ) : Type 0 where
  pub id : IsId new d
  pub sends : (pk : List ℕ) (g : List (ℕ × ℕ)) (t : ℕ) → IsWhole pk →
      Contains (look new d pk) (record { act = g; target = t }) ↔ SomeSends old ds pk g t

-- the labels are one of the sets, if there are any
abbrev pub IsThere : List (List ℕ) → List ℕ → Type 0
IsThere sets [] = Unit {0}
IsThere sets (l ∷ ls) = holds sets (l ∷ ls) ≡ true

-- the labels of each act of the leaf are one of the sets
abbrev pub HasAll : List (List ℕ) → List Out → Type 0
HasAll sets outs = (g : List (ℕ × ℕ)) → IsThere sets (labels_of g outs)

-- the labels of each act of each leaf of the diagram are one of the sets
abbrev pub HasSets : List (List ℕ) → StoreState → ℕ → Type 0
HasSets sets st d = (pk : List ℕ) → HasAll sets (look st d pk)

-- the final act, where a target is 0
abbrev pub final_of : List (ℕ × ℕ) → List ℕ → List Out
final_of g targets = if list_any (λ t. t == 0) targets then record { act = g; target = 0 } ∷ [] else []

-- the act to 1 + the number of the set of these labels, if there are any
abbrev pub out_to_set : List (List ℕ) → List (ℕ × ℕ) → List ℕ → List Out
out_to_set sets g [] = []
out_to_set sets g (l ∷ ls) = record { act = g; target = place_in sets (l ∷ ls) + 1 } ∷ []

-- what is made of a branch
abbrev pub branch_outs : List (List ℕ) → Branch → List Out
branch_outs sets b = final_of b.act b.targets ++ out_to_set sets b.act (labels b.targets)

-- what is made of each branch of a leaf, as one ascending list
abbrev pub regrouped : List (List ℕ) → List Out → List Out
regrouped sets outs = gathered (λ o. o ∷ []) (flat_map (branch_outs sets) (branches outs))

-- what a set state's diagram was made of
pub record IsStateOf (old mid new : StoreState) (sets : List (List ℕ)) (ds : List ℕ) (d r : ℕ) : Type 0 where
  pub together : IsTogether old ds mid d
  pub sorted : (pk : List ℕ) → Strict (look mid d pk)
  pub leaves : HasLeaves new r (λ pk. regrouped sets (look mid d pk))
  pub held : HasSets sets mid d
  pub maxes : new.maxes ≡ old.maxes

-- whatever sets come later, the diagram r has what is made of each leaf of d; and the sets of the labels of its acts are there
pub record IsRegrouped (old : StoreState) (d : ℕ) (new : StoreState) (sets : List (List ℕ)) (r : ℕ) : Type 0 where
  pub leaves : (later : List (List ℕ)) → SetsGrow sets later → HasLeaves new r (λ pk. regrouped later (look old d pk))
  pub held : HasSets sets old d

-- of each entry the second diagram is what is made of the first, and tests no field before those that the first tests
abbrev pub AreRegrouped : StoreState → List (List ℕ) → List (ℕ × ℕ) → Type 0
AreRegrouped st sets entries = (d r : ℕ) → lookup (nat_eq d) entries ≡ Some r →
    IsId st d × IsRegrouped st d st sets r × (root_field st d ≤ root_field st r)
