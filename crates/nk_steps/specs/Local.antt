-- The diagram of a set state at some packets alone.
use Rattle.std.specs.Prelude.{◌≡◌, ℕ, ◌+◌, ◌<◌, true, List, [], length, slice_index_or, Contains}
use Rattle.nk_field.specs.Act.{applied}
use Rattle.nk_store.specs.StoreState.{StoreState, IsId, IsStorePacket, look}
use Rattle.nk_sets.specs.PacketSets.{is_in}
use Rattle.nk_sets.specs.Outs.{sent_to}
use Rattle.nk_determ.specs.Pairs.{Node, IsStep}

-- its outs but the finals are the steps of the set at the packets of x
pub record IsStateAt (st : StoreState) (states set : List ℕ) (x : ℕ) (new : StoreState) (nss : List (List ℕ)) (d : ℕ) : Type 0 where
  pub id : IsId new d
  pub goes : (z : List ℕ) (g : List (ℕ × ℕ)) (i : ℕ) → IsStorePacket st z → Contains (look new d z) (sent_to g (i + 1)) →
      (is_in st x z ≡ true) × (i < length nss) × IsStep st states (set, z) (slice_index_or nss i [], applied g z)
  pub comes : (z : List ℕ) (n : Node) → IsStorePacket st z → is_in st x z ≡ true → IsStep st states (set, z) n →
      (g : List (ℕ × ℕ)) × (i : ℕ) × Contains (look new d z) (sent_to g (i + 1)) × (applied g z ≡ n.1) × (i < length nss) × (slice_index_or nss i [] ≡ n.0)
