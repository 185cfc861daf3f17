-- The automaton of a policy, as diagrams: one state for the start and one for each dup (Foster et al., POPL 2015).
use Rattle.std.specs.Prelude.{◌≡◌, ℕ, ◌+◌, ◌<◌, ◌≤◌, ◌↔◌, ◌⊎◌, true, List, [], length, slice_index}
use Rattle.nk_policy.specs.Policy.{Policy, dups_of}
use Rattle.nk_policy.specs.Meaning.{Gives}
use Rattle.nk_policy.specs.Progress.{RecordsAt}
use Rattle.nk_policy.specs.After.{has_dup, after}
use Rattle.nk_store.specs.StoreState.{StoreState, IsId, IsStorePacket}
use Rattle.nk_determ.specs.Exact.{Sends}

-- the diagram of what the policy does next, from packets in range: to target 0 it sends to the packets at which the policy
-- ends without a record, and to target l to those that the policy records first, at its dup l
pub record IsState (st : StoreState) (d : ℕ) (p : Policy) : Type 0 where
  pub id : IsId st d
  pub ends : (pk y : List ℕ) → IsStorePacket st pk → Sends st d pk y 0 ↔ Gives p pk [] y
  pub records : (pk y : List ℕ) (l : ℕ) → IsStorePacket st pk → 1 ≤ l → Sends st d pk y l ↔ RecordsAt p pk [] y l

-- the start stands at place 0, and what is left after the dup first + i at place 1 + i; the policy has these dups and no
-- others, and each target is 0 or one of them
pub record IsAutomaton (st : StoreState) (states : List ℕ) (first : ℕ) (p : Policy) : Type 0 where
  pub count : length states ≡ 1 + dups_of p
  pub labels : (i : ℕ) → i < dups_of p → has_dup p (first + i) ≡ true
  pub start : IsState st (slice_index states 0) p
  pub rest : (i : ℕ) → i < dups_of p → IsState st (slice_index states (1 + i)) (after p (first + i))
  pub targets : (i : ℕ) (pk y : List ℕ) (t : ℕ) → i < length states → IsStorePacket st pk → Sends st (slice_index states i) pk y t →
      (t ≡ 0) ⊎ ((first ≤ t) × (t < first + dups_of p))
