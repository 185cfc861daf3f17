-- Diagrams as sets of packets: a packet is in the set where its leaf is not empty.
pub use Rattle.nk_sets.specs.PacketSets.{has_some_out}
use Rattle.std.specs.Prelude.{◌≡◌, ℕ, ◌<◌, Bool, List}
use Rattle.nk_store.specs.StoreState.{StoreState, IsId, IsStorePacket, look, root_field}

-- the diagram's set is that of the packets in range that pass the test
pub record IsSetInRange (st : StoreState) (d : ℕ) (test : List ℕ → Bool) : Type 0 where
  pub id : IsId st d
  pub at : (pk : List ℕ) → IsStorePacket st pk → has_some_out (look st d pk) ≡ test pk

-- the set of all packets, or the set of none, as a leaf
pub record IsConstantSet (st : StoreState) (d : ℕ) (all : Bool) : Type 0 where
  pub set : IsSetInRange st d (λ pk. all)
  pub root_field_is : root_field st d ≡ 18

-- the set of the packets in range that pass the test, as a child of a node that tests f
pub record IsChildSet (st : StoreState) (f d : ℕ) (test : List ℕ → Bool) : Type 0 where
  pub set : IsSetInRange st d test
  pub later : f < root_field st d
