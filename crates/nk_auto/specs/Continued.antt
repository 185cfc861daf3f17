-- What a policy does up to its first record, as a diagram: it ends without one, or goes on as another diagram says, or it
-- records (Foster et al., POPL 2015: the derivative of a policy before its first dup, in continuation passing form).
use Rattle.std.specs.Prelude.{◌≡◌, ℕ, ◌+◌, ◌-◌, ◌<◌, ◌≤◌, ◌↔◌, ◌⊎◌, true, false, List, [], length, slice_index, slice_set}
use Rattle.nk_policy.specs.Policy.{Policy, Policies}
use Rattle.nk_policy.specs.Meaning.{Gives}
use Rattle.nk_policy.specs.Progress.{RecordsAt}
use Rattle.nk_policy.specs.After.{has_dup, after}
use Rattle.nk_policy.specs.Ranges.{AllAssignOnly}
use Rattle.nk_store.specs.StoreState.{StoreState, IsId, IsStorePacket, look}
use Rattle.nk_apply.specs.Predicates.{HasOnlyFinals}
use Rattle.nk_auto.specs.Complements.{NegatesPredicates, AllNegatePredicates}
use Rattle.nk_auto.specs.Plain.{AssignsWithin, Sends}

-- each complement is over a predicate, and each assignment outside complements is to a value in range
abbrev pub IsFit : List ℕ → Policy → Type 0
IsFit maxes p = NegatesPredicates p × AssignsWithin maxes p

-- each complement in the parts is over a predicate, and each assignment outside complements is to a value in range
abbrev pub AreFit : List ℕ → Policies → Type 0
AreFit maxes ps = AllNegatePredicates ps × AllAssignOnly (λ f n. n ≤ slice_index maxes f) ps

-- the diagram of the runs without a record: all its outs end, and from a packet in range it sends to y exactly where the
-- policy can end at y having recorded nothing
pub record IsSilent (st : StoreState) (d : ℕ) (p : Policy) : Type 0 where
  pub id : IsId st d
  pub ends : HasOnlyFinals (look st d)
  pub sends : IsFit st.maxes p → (pk y : List ℕ) (t : ℕ) → IsStorePacket st pk →
      Sends st d pk y t ↔ ((t ≡ 0) × Gives p pk [] y)

-- without a record the policy ends at a packet from which the diagram k sends to y with target t, or the first that it
-- records is y at its dup t
abbrev pub GoesOn : StoreState → Policy → ℕ → List ℕ → List ℕ → ℕ → Type 0
GoesOn st p k pk y t = ((z : List ℕ) × Gives p pk [] z × Sends st k z y t) ⊎ RecordsAt p pk [] y t

-- the diagram of the policy, continued by the diagram k
pub record IsContinued (st : StoreState) (d : ℕ) (p : Policy) (k : ℕ) : Type 0 where
  pub id : IsId st d
  pub next : IsId st k
  pub sends : IsFit st.maxes p → (pk y : List ℕ) (t : ℕ) → IsStorePacket st pk → Sends st d pk y t ↔ GoesOn st p k pk y t

-- the state of each dup that has a place is the diagram of what is left after it, continued by k; the state of the dup l stands
-- at the place l - base
abbrev pub AreStatesOfDups : StoreState → List ℕ → ℕ → Policy → ℕ → Type 0
AreStatesOfDups st states base p k =
    NegatesPredicates p → (l : ℕ) → base ≤ l → l < base + length states → has_dup p l ≡ true →
    IsContinued st (slice_index states (l - base)) (after p l) k

-- the states of the policy's dups were written, and the others stayed
pub record AreWritten (st : StoreState) (old new : List ℕ) (base : ℕ) (p : Policy) (k : ℕ) : Type 0 where
  pub count : length new ≡ length old
  pub states : AreStatesOfDups st new base p k
  pub others : (l : ℕ) → base ≤ l → has_dup p l ≡ false → slice_index new (l - base) ≡ slice_index old (l - base)

-- d was written at the place of the label l, if it has one
pub record IsPut (old new : List ℕ) (base l d : ℕ) : Type 0 where
  pub from : base ≤ l → new ≡ slice_set old (l - base) d
  pub before : l < base → new ≡ old
