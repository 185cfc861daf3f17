-- The packets that start a history which breaks a goal.
use Rattle.std.specs.Prelude.{◌≡◌, ℕ, ◌↔◌, true, Some, None, List, [], ◌∷◌, slice_index_or}
use Rattle.nk_field.specs.Order.{Found}
use Rattle.nk_store.specs.declared.node.Out.{Out}
use Rattle.nk_store.specs.StoreState.{StoreState, IsStorePacket}
use Rattle.nk_sets.specs.PacketSets.{is_in, IsSet}
use Rattle.nk_determ.specs.Targets.{retargeted}
use Rattle.nk_determ.specs.Pairs.{Under}
use Rattle.nk_determ.specs.Levels.{IsViolation}
use Rattle.nk_determ.specs.Counterexamples.{IsCounterexampleWithTarget}
use Rattle.nk_witness.specs.declared.found.Side.{Side}
use Rattle.nk_witness.specs.declared.found.Side.TheVariants.{Left, Right}
use Rattle.nk_backward.specs.declared.transitions.Transitions.{Transitions}
use Rattle.nk_backward.specs.Transitions.{LeadsInto}

-- some history from the packet breaks the goal with that target
abbrev pub StartsCounterexample : StoreState → List ℕ → List ℕ → ℕ → (List ℕ → List ℕ → List Out) → ℕ → List ℕ → Type 0
StartsCounterexample st states set start bad target y = (f : Found) × (f.start ≡ y) × IsCounterexampleWithTarget st states set start bad target f

-- exactly these packets start a history that breaks the goal with that target
pub record AreCounterexampleStarts (old : StoreState) (states set : List ℕ) (start : ℕ) (bad : List ℕ → List ℕ → List Out) (target : ℕ) (new : StoreState) (r : ℕ) : Type 0 where
  pub packets : IsSet new r
  pub exactly : (y : List ℕ) → IsStorePacket old y → (is_in new r y ≡ true) ↔ StartsCounterexample old states set start bad target y

-- the violations of one side alone
abbrev pub of_side : Side → List Out → List Out
of_side Left outs = retargeted (Some 0 ∷ []) outs
of_side Right outs = retargeted (None ∷ Some 0 ∷ []) outs

-- the packet under the set is one of these entries, and the side has a violation there
abbrev pub IsSideViolation : StoreState → List (List ℕ) → List (ℕ × ℕ) → (List ℕ → List ℕ → List Out) → Side → ℕ → List ℕ → Type 0
IsSideViolation st ss entries bad side i z = Under st entries i z × IsViolation (λ set pk. of_side side (bad set pk)) (slice_index_or ss i [], z)

-- exactly the packets of x under the set from where transitions lead to a violation of the side
pub record LeadToSide (st : StoreState) (ss : List (List ℕ)) (ts : List Transitions) (entries : List (ℕ × ℕ)) (bad : List ℕ → List ℕ → List Out) (side : Side) (s x : ℕ) (new : StoreState) (r : ℕ) : Type 0 where
  pub packets : IsSet new r
  pub goes : (y : List ℕ) → IsStorePacket st y → is_in new r y ≡ true → (is_in st x y ≡ true) × ((n : ℕ) × LeadsInto st ts (IsSideViolation st ss entries bad side) n s y)
  pub comes : (n : ℕ) (y : List ℕ) → IsStorePacket st y → is_in st x y ≡ true → LeadsInto st ts (IsSideViolation st ss entries bad side) n s y → is_in new r y ≡ true

-- exactly the packets of x that stand under the set
pub record StandUnder (st : StoreState) (back : List (ℕ × ℕ)) (s x : ℕ) (new : StoreState) (r : ℕ) : Type 0 where
  pub packets : IsSet new r
  pub goes : (y : List ℕ) → IsStorePacket st y → is_in new r y ≡ true → (is_in st x y ≡ true) × Under st back s y
  pub comes : (y : List ℕ) → IsStorePacket st y → is_in st x y ≡ true → Under st back s y → is_in new r y ≡ true
