-- What a policy does between two link crossings, and on a crossing.
use Rattle.std.specs.Prelude.{◌≡◌, ℕ, ◌+◌, [], slice_index}
use Rattle.nk_field.specs.declared.packet.Packet.{Packet}
use Rattle.nk_policy.specs.Policy.{Policy}
use Rattle.nk_policy.specs.Meaning.{way_of}
use Rattle.nk_policy.specs.Progress.{numbered, RecordsAt}
use Rattle.nk_policy.specs.Literals.{Literal, IsAtSource, moved_by}

-- what records next does so at the source of one of these literals, by its first dup
pub record RecordsAtSources (Held : Literal → Type 0) (q : Policy) : Type 0 where
  pub at_source : (y x : Packet) (l : ℕ) → RecordsAt q y [] x l
      → (k : Literal) × Held k × IsAtSource k x × (k.mark ≡ l)

-- so it is, and the packet stays at its switch till then, and also where it ends without a record
pub record IsBetween (Held : Literal → Type 0) (q : Policy) : Type 0 where
  pub records : (y x : Packet) (l : ℕ) → RecordsAt q y [] x l
      → (k : Literal) × Held k × IsAtSource k x × (k.mark ≡ l) × (slice_index x 0 ≡ slice_index y 0)
  pub ends : (y z : Packet) → way_of q numbered y [] z → slice_index z 0 ≡ slice_index y 0

-- nothing ends without a record, and all that is recorded next is the packet at the literal's target, by its second dup
pub record IsOnLink (k : Literal) (q : Policy) : Type 0 where
  pub silent : (y z : Packet) → way_of q numbered y [] z → ⊥
  pub only : (y x : Packet) (l : ℕ) → RecordsAt q y [] x l → (l ≡ k.mark + 1) × (x ≡ moved_by k y)
  pub there : (y : Packet) → RecordsAt q y [] (moved_by k y) (k.mark + 1)
