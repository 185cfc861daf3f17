-- What some states of an automaton do together at one switch (Smolka et al., ICFP 2015: the automaton's states at a switch).
use Rattle.std.specs.Prelude.{◌≡◌, ◌↔◌, ℕ, ◌+◌, ◌<◌, ◌≤◌, List, slice_index, slice_set}
use Rattle.nk_store.specs.StoreState.{StoreState, IsId, IsStorePacket}
use Rattle.nk_determ.specs.Exact.{AreExact, Sends}
use Rattle.nk_determ.specs.States.{StateLeads, IsLedTo}

-- The diagram of these states at the packets of a switch: to target 0 it sends where one of them does, and what they send to
-- labels it sends once, to 1 + the number of the set of all these labels.
pub record IsStateAtSwitch (st : StoreState) (ss : List (List ℕ)) (states members : List ℕ) (sw d : ℕ) : Type 0 where
  pub id : IsId st d
  pub exact : AreExact st d
  pub ends : (pk y : List ℕ) → IsStorePacket st pk → slice_index pk 0 ≡ sw → Sends st d pk y 0 ↔ StateLeads st states members pk y 0
  pub leads : (pk y : List ℕ) (i : ℕ) → IsStorePacket st pk → slice_index pk 0 ≡ sw → Sends st d pk y (i + 1) → IsLedTo ss st states members pk y i
  pub led : (pk y : List ℕ) (l : ℕ) → IsStorePacket st pk → slice_index pk 0 ≡ sw → 0 < l → StateLeads st states members pk y l → (i : ℕ) × Sends st d pk y (i + 1)

-- At the packets of a switch these states keep the switch and the tag, and they send packets that differ in the tag alone
-- alike.
pub record StayAt (st : StoreState) (tag sw : ℕ) (states members : List ℕ) : Type 0 where
  pub keeps : (pk y : List ℕ) (t : ℕ) → IsStorePacket st pk → slice_index pk 0 ≡ sw → StateLeads st states members pk y t → (slice_index y 0 ≡ sw) × (slice_index y tag ≡ slice_index pk tag)
  pub free : (pk y : List ℕ) (t n : ℕ) → IsStorePacket st pk → slice_index pk 0 ≡ sw → n ≤ slice_index st.maxes tag → StateLeads st states members pk y t → StateLeads st states members (slice_set pk tag n) (slice_set y tag n) t
