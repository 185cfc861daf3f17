-- What the levels of states are: every set state at every packet by the least number of records with which it comes.
use Rattle.std.specs.Prelude.{◌≡◌, ℕ, ◌+◌, ◌-◌, ◌<◌, ◌≤◌, Bool, true, false, List, [], ◌∷◌, length, slice_index_or}
use Rattle.nk_store.specs.declared.node.Out.{Out}
use Rattle.nk_store.specs.StoreState.{StoreState, IsStorePacket}
use Rattle.nk_apply.specs.PacketSets.{is_in}
use Rattle.nk_determ.specs.Reach.{Reach, Exact}
use Rattle.nk_determ.specs.Pairs.{Node, Within, EachPair, ArePairs, IsStart, IsStep, IsGood}

-- a set is reached at a packet in exactly so many records
abbrev pub At : StoreState → List ℕ → List ℕ → ℕ → ℕ → Node → Type 0
At st states set start i n = Reach (IsStart st set start) (IsStep st states) i n

-- level i has the set at the packet
abbrev pub InLevel : StoreState → List (List ℕ) → List (List (ℕ × ℕ)) → ℕ → Node → Type 0
InLevel st ss ls i n = Within st ss (slice_index_or ls i []) n

-- some packet in range is in the set
abbrev pub IsFilled : StoreState → ℕ → Type 0
IsFilled st x = (pk : List ℕ) × IsStorePacket st pk × (is_in st x pk ≡ true)

-- a level that is not the first one: not empty, with packets under each set
pub record IsLaterLevel (st : StoreState) (l : List (ℕ × ℕ)) : Type 0 where
  pub some : 0 < length l
  pub filled : EachPair (λ p. IsFilled st p.1) l

-- some violation is met
abbrev pub IsViolation : (List ℕ → List ℕ → List Out) → Node → Type 0
IsViolation bad n = bad n.0 n.1 ≡ [] → ⊥

-- The levels of these states from this set at these packets, with these violations; starts and steps are said in the store
-- of the beginning. They end with the first level that has a violation, which is broken, or where nothing new comes.
pub record AreLevels (old : StoreState) (st : StoreState) (ss : List (List ℕ)) (states : List ℕ) (set start : ℕ) (bad : List ℕ → List ℕ → List Out) (ls : List (List (ℕ × ℕ))) (broken : Bool) : Type 0 where
  pub exact : Exact (IsStart old (slice_index_or ss set []) start) (IsStep old states) (IsGood old) (InLevel st ss ls) (length ls)
  pub some : 0 < length ls
  pub start_is : slice_index_or ls 0 [] ≡ (set, start) ∷ []
  pub pairs : (i : ℕ) → i < length ls → ArePairs st ss (length states) (slice_index_or ls i [])
  pub shape : (i : ℕ) → 1 ≤ i → i < length ls → IsLaterLevel st (slice_index_or ls i [])
  pub goal : (i : ℕ) (n : Node) → i + 1 < length ls → IsGood old n → InLevel st ss ls i n → IsViolation bad n → ⊥
  pub broken_at : broken ≡ true → (n : Node) × IsGood old n × InLevel st ss ls (length ls - 1) n × IsViolation bad n
  pub not_broken : broken ≡ false → (n : Node) → IsGood old n → InLevel st ss ls (length ls - 1) n → IsViolation bad n → ⊥
  pub complete : broken ≡ false → (i : ℕ) (n : Node) → At old states (slice_index_or ss set []) start i n → (j : ℕ) × (j ≤ i) × (j < length ls) × InLevel st ss ls j n
