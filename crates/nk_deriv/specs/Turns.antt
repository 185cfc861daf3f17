-- Policies and parts one after the other: what a state does, and then what comes next.
use Rattle.std.specs.Prelude.{◌≡◌, ℕ, ◌⊎◌, ◌↔◌, Bool, true, false, List, [], ◌∷◌, ◌++◌, map, All}
use Rattle.nk_field.specs.declared.packet.Packet.{Packet}
use Rattle.nk_field.specs.Packet.{FieldTable}
use Rattle.nk_policy.specs.declared.policy.Pol.{Pol}
use Rattle.nk_policy.specs.Policy.{Policy, Policies, sum_of, seq_of, star_of, no_part, part}
use Rattle.nk_policy.specs.Tree.{tree_of}
use Rattle.nk_policy.specs.Meaning.{Gives}
use Rattle.nk_policy.specs.Progress.{RecordsAt}
use Rattle.nk_policy.specs.After.{has_dup}
use Rattle.nk_policy.specs.Ranges.{IsOverFields}
use Rattle.nk_deriv.specs.declared.values.Part.{Part}
use Rattle.nk_deriv.specs.Part.{IsBuiltOf, IsLegOf, IsWithin, LegsGive, IsPartOfDerivative}

-- the policy that drops each packet, written as the empty sum
abbrev pub is_drop : Policy → Bool
is_drop (sum_of no_part) = true
is_drop _ = false

-- the parts of a sequence, and any other policy as the one part of one
abbrev pub steps_of : Policy → Policies
steps_of (seq_of ps) = ps
steps_of p = part p no_part

-- the fields and the dups of s are p's
pub record IsPlacedIn (p s : Policy) : Type 0 where
  pub over : (fields : FieldTable) → IsOverFields fields p → IsOverFields fields s
  pub dups : (l : ℕ) → has_dup s l ≡ true → has_dup p l ≡ true

-- without a record, r does what p and then q does
pub record IsTurn (r p q : Policy) : Type 0 where
  pub ends : (pk x : Packet) → Gives r pk [] x ↔ ((z : Packet) × Gives p pk [] z × Gives q z [] x)
  pub within : (s : Policy) → IsBuiltOf s p → IsBuiltOf s q → IsBuiltOf s r

-- without a record, r does what any number of rounds of p does
pub record IsRounds (r p : Policy) : Type 0 where
  pub ends : (pk x : Packet) → Gives r pk [] x ↔ Gives (star_of p) pk [] x
  pub within : (s : Policy) → IsBuiltOf s p → IsBuiltOf s r

-- without a record, r does what p does, and what q does
pub record IsEither (r p q : Policy) : Type 0 where
  pub ends : (pk x : Packet) → Gives r pk [] x ↔ (Gives p pk [] x ⊎ Gives q pk [] x)
  pub within : (s : Policy) → IsBuiltOf s p → IsBuiltOf s q → IsBuiltOf s r

-- the legs record what the legs before do, and what a free policy and then the legs after it do
pub record ArePutAfter (old new : List (Pol × ℕ)) (free : Policy) (legs : List (Pol × ℕ)) : Type 0 where
  pub records : (pk y : Packet) (l : ℕ)
      → LegsGive new pk y l ↔ (LegsGive old pk y l ⊎ ((z : Packet) × Gives free pk [] z × LegsGive legs z y l))
  pub within : (s : Policy) → All (IsLegOf s) old → IsBuiltOf s free → All (IsLegOf s) legs → All (IsLegOf s) new

-- from pk, these parts in turn end at x without a record
abbrev pub AllEnd : List Part → Packet → Packet → Type 0
AllEnd [] pk x = x ≡ pk
AllEnd (s ∷ states) pk x = (z : Packet) × Gives (tree_of s.free) pk [] z × AllEnd states z x

-- they record first y at l
abbrev pub AllRecord : List Part → Packet → Packet → ℕ → Type 0
AllRecord [] pk y l = ⊥
AllRecord (s ∷ states) pk y l =
    LegsGive s.legs pk y l ⊎ ((z : Packet) × Gives (tree_of s.free) pk [] z × AllRecord states z y l)

-- the free policy is that of the parts in turn, and their legs are put after those before
pub record AreInTurn (old new : List (Pol × ℕ)) (free : Policy) (states : List Part) : Type 0 where
  pub ends : (pk x : Packet) → Gives free pk [] x ↔ AllEnd states pk x
  pub records : (pk y : Packet) (l : ℕ) → LegsGive new pk y l ↔ (LegsGive old pk y l ⊎ AllRecord states pk y l)
  pub within : (s : Policy) → All (IsLegOf s) old → All (IsWithin s) states
      → IsBuiltOf s free × All (IsLegOf s) new

-- the free policy is that of the state p, and its legs are put after those before
pub record IsCollected (old new : List (Pol × ℕ)) (free p : Policy) : Type 0 where
  pub ends : (pk x : Packet) → Gives free pk [] x ↔ Gives p pk [] x
  pub records : (pk y : Packet) (l : ℕ) → LegsGive new pk y l ↔ (LegsGive old pk y l ⊎ RecordsAt p pk [] y l)
  pub within : (s : Policy) → IsPlacedIn s p → All (IsLegOf s) old → IsBuiltOf s free × All (IsLegOf s) new

-- the parts are those of the policies, one by one
abbrev pub ArePartsOf : List Part → Policies → Type 0
ArePartsOf [] no_part = Unit {0}
ArePartsOf [] (part p ps) = ⊥
ArePartsOf (s ∷ states) no_part = ⊥
ArePartsOf (s ∷ states) (part p ps) = IsPartOfDerivative s p × ArePartsOf states ps

-- the part is that of the parts in turn, and then of the next one
pub record IsSequencedBefore (r : Part) (states : List Part) (next : Part) : Type 0 where
  pub ends : (pk x : Packet)
      → Gives (tree_of r.free) pk [] x ↔ ((z : Packet) × AllEnd states pk z × Gives (tree_of next.free) z [] x)
  pub records : (pk y : Packet) (l : ℕ)
      → LegsGive r.legs pk y l ↔ (AllRecord states pk y l ⊎ ((z : Packet) × AllEnd states pk z × LegsGive next.legs z y l))
  pub within : (s : Policy) → All (IsWithin s) states → IsWithin s next → IsWithin s r

-- the part is that of the state s, and then of the next one
pub record IsFollowed (r : Part) (s : Policy) (next : Part) : Type 0 where
  pub ends : (pk x : Packet)
      → Gives (tree_of r.free) pk [] x ↔ ((z : Packet) × Gives s pk [] z × Gives (tree_of next.free) z [] x)
  pub records : (pk y : Packet) (l : ℕ)
      → LegsGive r.legs pk y l ↔ (RecordsAt s pk [] y l ⊎ ((z : Packet) × Gives s pk [] z × LegsGive next.legs z y l))
  pub within : (p : Policy) → IsPlacedIn p s → IsWithin p next → IsWithin p r

-- after the entries before stand new ones with these labels, each the part of what is left after its label, and then of
-- the next one
pub record AreRests (old new : List (ℕ × Part)) (rest : ℕ → Policy) (labels : List ℕ) (next : Part) : Type 0 where
  pub added : List (ℕ × Part)
  pub is : new ≡ old ++ added
  pub labelled : map (λ e. e.0) added ≡ labels
  pub follow : All (λ e. IsFollowed e.1 (rest e.0) next) added
