-- Where runs can be after what was recorded, as sets of positions, set by set: the subset construction on the automaton
-- whose states are the dups (Foster et al., POPL 2015). Position 0 is the start; position l is after the dup with number l.
use Rattle.std.specs.Prelude.{◌≡◌, ℕ, zero, suc, ◌⊎◌, true, false, List, [], ◌∷◌, Contains}
use Rattle.nk_field.specs.declared.packet.Packet.{Packet}
use Rattle.nk_policy.specs.Policy.{Policy}
use Rattle.nk_policy.specs.Progress.{RecordsAt}
use Rattle.nk_policy.specs.After.{has_dup, after}
use Rattle.nk_policy.specs.Distinct.{HasDistinct}
use Rattle.nk_policy.specs.Labels.{HasRecorded, HasExactly}

-- what is left of a policy at a position
abbrev pub at_position : Policy → ℕ → Policy
at_position p zero = p
at_position p (suc l) = after p (suc l)

-- some run from pk that has recorded exactly u is at this position
abbrev pub IsPosition : Policy → Packet → List Packet → ℕ → Type 0
IsPosition p pk [] l = l ≡ 0
IsPosition p pk (y ∷ u) l = HasRecorded p pk (y ∷ u) l

-- the last of the recorded packets, or the start packet
abbrev pub last_from : Packet → List Packet → Packet
last_from pk [] = pk
last_from pk (y ∷ u) = last_from y u

-- the position is the start or one of the policy's own
abbrev pub IsOwn : Policy → ℕ → Type 0
IsOwn p l = (l ≡ 0) ⊎ (has_dup p l ≡ true)

-- from packet x, some member of the set records y next, at this position
abbrev pub IsRecordedNext : Policy → List ℕ → Packet → Packet → ℕ → Type 0
IsRecordedNext p s x y l' = (l : ℕ) × Contains s l × RecordsAt (at_position p l) x [] y l'

-- from packet x, some member of the set records y next, at this position of one of two policies
abbrev pub IsNextOfEither : Policy → Policy → List ℕ → Packet → Packet → ℕ → Type 0
IsNextOfEither p q s x y l' = IsRecordedNext p s x y l' ⊎ IsRecordedNext q s x y l'

-- a position of either of two policies
abbrev pub IsPositionOfEither : Policy → Policy → Packet → List Packet → ℕ → Type 0
IsPositionOfEither p q pk u l = IsPosition p pk u l ⊎ IsPosition q pk u l

-- from set s at packet x, stepping set by set along the recorded packets leads to set t
abbrev pub StepsTo : (List ℕ → Packet → Packet → ℕ → Type 0) → List ℕ → Packet → List Packet
    → List ℕ → Type 0
StepsTo Next s x [] t = s ≡ t
StepsTo Next s x (y ∷ u) t = (next : List ℕ) × HasExactly (Next s x y) next × StepsTo Next next y u t

-- the dups of a policy have different numbers, from 1 on
pub record IsNumbered (p : Policy) : Type 0 where
  pub distinct : HasDistinct p
  pub from_one : has_dup p 0 ≡ false

-- two policies that are numbered so and share no number
pub record AreSides (p q : Policy) : Type 0 where
  pub left : IsNumbered p
  pub right : IsNumbered q
  pub apart : (l : ℕ) → has_dup p l ≡ true → has_dup q l ≡ true → ⊥
