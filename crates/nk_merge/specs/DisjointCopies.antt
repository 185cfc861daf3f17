-- The states of an automaton with each label twice.
use Rattle.std.specs.Prelude.{◌≡◌, ℕ, zero, suc, ◌+◌, ◌-◌, ◌^◌, ◌<◌, ◌↔◌, nat_eq, Option, Some, List, length, slice_index}
use Rattle.std.specs.Map.{lookup}
use Rattle.nk_store.specs.StoreState.{StoreState, IsId, IsStorePacket, look, HasLeaves}
use Rattle.nk_apply.specs.Unions.{AreIds}
use Rattle.nk_determ.specs.Exact.{Sends}
use Rattle.nk_determ.specs.Targets.{retargeted}
use Rattle.nk_determ.specs.Pairs.{AreLabelsBelow, AreStates}
use Rattle.nk_reach.specs.Sides.{alone, ends_of, AreOneSided, IsPropertyOfEnds}
use Rattle.nk_merge.specs.declared.disjoint_copy.DisjointCopy.{DisjointCopy}

-- the label marked again after n labels; 0 is none
abbrev pub again : ℕ → ℕ → ℕ
again n zero = zero
again n (suc l) = suc l + n

-- how many labels an automaton with these states has, 0 being none
abbrev pub label_count : List ℕ → ℕ
label_count states = length states - 1

-- the states, and after them for each label again a state that does what the label's does, to labels marked again
pub record AreDisjointCopies (st : StoreState) (states rows : List ℕ) : Type 0 where
  pub some : 0 < length states
  pub count : length rows + 1 ≡ length states + length states
  pub ids : AreIds st rows
  pub once : (l : ℕ) → l < length states → slice_index rows l ≡ slice_index states l
  pub disjoint : (l : ℕ) (pk y : List ℕ) (t : ℕ) → 0 < l → l < length states → IsStorePacket st pk →
      Sends st (slice_index rows (again (label_count states) l)) pk y t
      ↔ ((u : ℕ) × Sends st (slice_index states l) pk y u × (t ≡ again (label_count states) u))

-- such rows of these states, and the goal of ends of one copy alone
pub record IsDisjointCopy (st : StoreState) (states : List ℕ) (t : DisjointCopy) : Type 0 where
  pub states_are : AreStates st states
  pub few : length states + length states < 2 ^ 64
  pub rows : AreDisjointCopies st states t.rows
  pub fits : IsPropertyOfEnds st t.goal.ends t.goal.seen.entries
  pub labels : length t.goal.ends ≡ length t.rows
  pub sides : (set pk : List ℕ) → AreLabelsBelow (length t.rows) set → IsStorePacket st pk →
      AreOneSided st t.rows (slice_index states 0) (slice_index states 0) (length states) set pk (alone (ends_of st t.goal.ends set pk))

-- the states, and after them those of the labels before n again, each label with its row as it is made
pub record IsDisjointCopyUpTo (old new : StoreState) (states rows : List ℕ) (n : ℕ) : Type 0 where
  pub count : length rows + 1 ≡ length states + n
  pub once : (l : ℕ) → l < length states → slice_index rows l ≡ slice_index states l
  pub ids : (l : ℕ) → 0 < l → l < n → IsId new (slice_index rows (again (label_count states) l))
  pub disjoint : (l : ℕ) (pk y : List ℕ) (t : ℕ) → 0 < l → l < n → IsStorePacket old pk →
      Sends new (slice_index rows (again (label_count states) l)) pk y t
      ↔ ((u : ℕ) × Sends old (slice_index states l) pk y u × (t ≡ again (label_count states) u))

-- the second diagram sends where the first one does, to targets by the table
pub record IsMadeBy (st : StoreState) (table : List (Option ℕ)) (state r : ℕ) : Type 0 where
  pub state_id : IsId st state
  pub leaves : HasLeaves st r (λ pk. retargeted table (look st state pk))

-- each entry leads from a state to what is made of it
abbrev pub AreMadeBy : StoreState → List (Option ℕ) → List (ℕ × ℕ) → Type 0
AreMadeBy st table entries = (state r : ℕ) → lookup (nat_eq state) entries ≡ Some r → IsMadeBy st table state r
