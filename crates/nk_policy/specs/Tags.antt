-- The tag sets of a policy in their order: shorter shortest records first, then as ascending lists in dictionary order.
use Rattle.std.specs.Prelude.{◌≡◌, ℕ, ◌+◌, ◌*◌, ◌<◌, ◌⊎◌, ◌↔◌, List, length, Contains, AllPairs}
use Rattle.nk_field.specs.declared.packet.Packet.{Packet}
use Rattle.nk_field.specs.Order.{IsListedBefore}
use Rattle.nk_policy.specs.Policy.{Policy}
use Rattle.nk_policy.specs.Labels.{IsLabelSet, IsTagSet}

-- the least number of records with which a tag set comes
abbrev pub IsShortest : Policy → (Packet → Type 0) → List ℕ → ℕ → Type 0
IsShortest p Start s n =
    ((pk : Packet) × (u : List Packet) × (j : ℕ) × Start pk × (length u ≡ 2 * j + 1) × IsLabelSet p pk u s × (length u ≡ n))
    × ((pk : Packet) (u : List Packet) (j : ℕ) → Start pk → length u ≡ 2 * j + 1 → IsLabelSet p pk u s → length u < n → ⊥)

-- the first tag set comes before the second: with fewer records, or with as many and first in dictionary order
abbrev pub IsTagBefore : Policy → (Packet → Type 0) → List ℕ → List ℕ → Type 0
IsTagBefore p Start s t =
    (m : ℕ) × (n : ℕ) × IsShortest p Start s m × IsShortest p Start t n × ((m < n) ⊎ ((m ≡ n) × IsListedBefore s t))

-- the tag sets of a policy in order: tag t stands for the one at index t - 1
pub record AreTags (p : Policy) (Start : Packet → Type 0) (tags : List (List ℕ)) : Type 0 where
  pub exactly : (s : List ℕ) → Contains tags s ↔ IsTagSet p Start s
  pub in_order : AllPairs (IsTagBefore p Start) tags
