-- Sets of packets by a test, images of sets, and least packets.
pub use Rattle.nk_apply.specs.PacketSets.{has_some_out, is_in, IsSet}
use Rattle.std.specs.Prelude.{◌≡◌, ℕ, ◌⊎◌, Bool, true, List}
use Rattle.nk_field.specs.Act.{applied}
use Rattle.nk_field.specs.Order.{Precedes}
use Rattle.nk_store.specs.StoreState.{StoreState, IsWhole, IsStorePacket}

-- the packets of the set are those that pass the test
pub record IsPacketSetOf (st : StoreState) (s : ℕ) (test : List ℕ → Bool) : Type 0 where
  pub set : IsSet st s
  pub at : (pk : List ℕ) → IsWhole pk → is_in st s pk ≡ test pk

-- the packets of r are those that the act g makes of the packets of s
pub record IsImage (old : StoreState) (g : List (ℕ × ℕ)) (s : ℕ) (new : StoreState) (r : ℕ) : Type 0 where
  pub set : IsSet new r
  pub comes :
      (y : List ℕ) → IsStorePacket old y → is_in new r y ≡ true
      → (x : List ℕ) × IsStorePacket old x × (is_in old s x ≡ true) × (applied g x ≡ y)
  pub goes : (x : List ℕ) → IsStorePacket old x → is_in old s x ≡ true → is_in new r (applied g x) ≡ true

-- a packet of the set before all others of it, by the first field where they differ
pub record IsLeastPacket (st : StoreState) (s : ℕ) (pk : List ℕ) : Type 0 where
  pub packet : IsStorePacket st pk
  pub inside : is_in st s pk ≡ true
  pub first : (y : List ℕ) → IsStorePacket st y → is_in st s y ≡ true → (pk ≡ y) ⊎ Precedes pk y
