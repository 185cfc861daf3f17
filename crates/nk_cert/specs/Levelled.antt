-- Two policies on the levels of their common automaton.
use Rattle.std.specs.Prelude.{◌≡◌, ℕ, ◌+◌, ◌<◌, ◌⊎◌, Bool, true, List, [], ◌∷◌, length, slice_index, slice_index_or, Contains}
use Rattle.nk_field.specs.Packet.{FieldTable}
use Rattle.nk_policy.specs.Policy.{Policy, dups_of}
use Rattle.nk_store.specs.declared.node.Out.{Out}
use Rattle.nk_store.specs.StoreState.{StoreState, IsId, Grows, IsOver, IsStorePacket, AreTidy}
use Rattle.nk_apply.specs.Unions.{AreIds}
use Rattle.nk_sets.specs.PacketSets.{is_in}
use Rattle.nk_auto.specs.Automaton.{IsState, IsAutomaton}
use Rattle.nk_determ.specs.Pairs.{AreLabelsBelow}
use Rattle.nk_determ.specs.Levels.{AreLevels}
use Rattle.nk_reach.specs.Sides.{alone, ends_of, AreOneSided}
use Rattle.nk_cert.specs.Equality.{Side, on_left, on_right}
use Rattle.nk_cert.specs.Together.{AreNumbered, either_of}

-- The states are the automaton of both policies together, of which the left one has the labels up to its number of dups and
-- the right one those above; and each has a diagram of its own start.
pub record IsAutomatonOfBoth (fields : FieldTable) (st : StoreState) (states : List ℕ) (left right : ℕ) (p q : Policy) : Type 0 where
  pub over : IsOver fields st
  pub tidy : AreTidy st
  pub numbered : AreNumbered p q
  pub states_are : IsAutomaton st states 1 (either_of p q)
  pub left_start : IsState st left p
  pub right_start : IsState st right q

-- the set has all packets
abbrev pub HasEach : StoreState → ℕ → Type 0
HasEach st start = (pk : List ℕ) → IsStorePacket st pk → is_in st start pk ≡ true

-- what is bad of a set at a packet is what one of the two policies alone ends with there
pub record IsOneSided (st : StoreState) (states : List ℕ) (left right bound : ℕ) (bad : List ℕ → List ℕ → List Out) : Type 0 where
  pub sides : (set pk : List ℕ) → AreLabelsBelow (length states) set → IsStorePacket st pk →
      AreOneSided st states left right bound set pk (bad set pk)
  pub targets : (set pk : List ℕ) (o : Out) → Contains (bad set pk) o → (o.target ≡ 0) ⊎ (o.target ≡ 1)

-- The levels of both policies together, from all packets, up to an end of one policy alone. The automaton and the goal are
-- said in the store in which they were made, starts and steps in the one in which the levels began.
pub record AreLevelsOfBoth (fields : FieldTable) (p q : Policy) (states : List ℕ) (left right : ℕ) (first old new : StoreState) (ss : List (List ℕ)) (set start : ℕ) (bad : List ℕ → List ℕ → List Out) (ls : List (List (ℕ × ℕ))) (broken : Bool) : Type 0 where
  pub automaton : IsAutomatonOfBoth fields first states left right p q
  pub goal : IsOneSided first states left right (1 + dups_of p) bad
  pub grown : Grows first old
  pub tidy : AreTidy old
  pub set_is : slice_index_or ss set [] ≡ 0 ∷ []
  pub start_is : HasEach old start
  pub levels : AreLevels old new ss states set start bad ls broken

-- after the start stand the states of the left policy's dups, and after these the right one's
pub record AreJoined (of_left of_right states : List ℕ) (p q : Policy) : Type 0 where
  pub count : length states ≡ 1 + (dups_of p + dups_of q)
  pub left : (i : ℕ) → i < dups_of p → slice_index states (1 + i) ≡ slice_index of_left (1 + i)
  pub right : (i : ℕ) → i < dups_of q → slice_index states (1 + (dups_of p + i)) ≡ slice_index of_right (1 + i)

-- the target of a violation of that side
abbrev pub target_of_side : Side → ℕ
target_of_side on_left = 0
target_of_side on_right = 1

-- Levels of states from all packets up to an end of one side alone, as they are made in a store that has grown since `first`:
-- the labels below the bound are the left side's and the others the right one's, and each side has its own start. The ends
-- are those by which the goal tells, read in the store as it is now.
pub record AreSideLevels (first : StoreState) (states : List ℕ) (left right bound : ℕ) (new : StoreState) (ss : List (List ℕ)) (ends : List ℕ) (ls : List (List (ℕ × ℕ))) (broken : Bool) : Type 0 where
  pub old : StoreState
  pub begun : Grows first old
  pub grown : Grows old new
  pub tidy : AreTidy old
  pub set : ℕ
  pub set_is : slice_index_or ss set [] ≡ 0 ∷ []
  pub start : ℕ
  pub start_id : IsId old start
  pub start_is : HasEach old start
  pub bad : List ℕ → List ℕ → List Out
  pub sided : IsOneSided first states left right bound bad
  pub ids : AreIds new ends
  pub count : length ends ≡ length states
  pub read : (set pk : List ℕ) → AreLabelsBelow (length states) set → alone (ends_of new ends set pk) ≡ bad set pk
  pub levels : AreLevels old new ss states set start bad ls broken
