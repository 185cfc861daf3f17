-- The histories that a policy has from an injected packet, which have left or are owed.
use Rattle.std.specs.Prelude.{◌≡◌, ℕ, ◌*◌, ◌⊎◌, Some, List, length, slice_get, Contains}
use Rattle.nk_policy.specs.Policy.{Policy}
use Rattle.nk_policy.specs.Meaning.{Gives}
use Rattle.nk_table.specs.declared.Tables.{Tables}
use Rattle.nk_table.specs.Hops.{Copy}
use Rattle.nk_flight.specs.Owed.{owed_by}
use Rattle.nk_flight.specs.Once.{IsWithoutDoubles, all_erased, Owes, IsOwedByOne}
use Rattle.nk_flight.specs.declared.versions.Version.{Version}
use Rattle.nk_flight.specs.declared.versions.Version.TheVariants.{Old, New}

-- a history of k crossings that the policy has from the packet
abbrev pub IsOf : Policy → List ℕ → ℕ → Copy → Type 0
IsOf p pk k h = Gives p pk h.records h.packet × (length h.records ≡ 2 * k)

-- Of the histories of k crossings: none but the policy's has left, and none twice; each of the policy's has left, or else is
-- owed by one copy alone; and what a copy owes is the policy's, and it owes it once.
pub record IsEachOnceOf (p : Policy) (pk : List ℕ) (t : Tables) (k : ℕ) (left copies : List Copy) : Type 0 where
  pub known : (h : Copy) → Contains left h → IsOf p pk k h
  pub once : IsWithoutDoubles left
  pub each : (h : Copy) → IsOf p pk k h → (Contains left h × ((i : ℕ) → ¬ Owes t k copies i h)) ⊎ ((¬ Contains left h) × IsOwedByOne t k copies h)
  pub due : (i : ℕ) (c : Copy) → slice_get copies i ≡ Some c → (h : Copy) → Contains (all_erased t (owed_by t k c)) h → IsOf p pk k h
  pub due_once : (i : ℕ) (c : Copy) → slice_get copies i ≡ Some c → IsWithoutDoubles (all_erased t (owed_by t k c))

-- these are histories that the policy has from the packet, and none stands twice
pub record IsNoOther (p : Policy) (pk : List ℕ) (left : List Copy) : Type 0 where
  pub known : (h : Copy) → Contains left h → Gives p pk h.records h.packet
  pub once : IsWithoutDoubles left

-- of an old and a new policy the one by which a version goes
abbrev pub policy_by : Policy → Policy → Version → Policy
policy_by p q Old = p
policy_by p q New = q
