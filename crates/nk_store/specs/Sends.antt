-- Where a diagram sends a packet.
use Rattle.std.specs.Prelude.{◌≡◌, ℕ, List, Contains}
use Rattle.nk_field.specs.Act.{applied}
use Rattle.nk_store.specs.StoreState.{StoreState, look}

-- the diagram sends the packet, made y, to the target
abbrev pub Sends : StoreState → ℕ → List ℕ → List ℕ → ℕ → Type 0
Sends st d pk y target = (g : List (ℕ × ℕ)) × Contains (look st d pk) (record { act = g; target = target }) × (y ≡ applied g pk)
