-- The packets that levels have under a set, whatever the level.
use Rattle.std.specs.Prelude.{◌≡◌, ◌↔◌, ℕ, ◌<◌, true, List, [], ◌∷◌, ◌++◌, length, slice_index}
use Rattle.nk_store.specs.StoreState.{StoreState, IsId, IsWhole}
use Rattle.nk_apply.specs.PacketSets.{is_in}
use Rattle.nk_determ.specs.Pairs.{Under, EachPair}
use Rattle.nk_determ.specs.Levels.{InLevel}

-- the entries of all levels
abbrev pub entries_of : List (List (ℕ × ℕ)) → List (ℕ × ℕ)
entries_of [] = []
entries_of (l ∷ levels) = l ++ entries_of levels

-- the packets of each entry are a diagram of the store
abbrev pub HaveIds : StoreState → List (ℕ × ℕ) → Type 0
HaveIds st entries = EachPair (λ e. IsId st e.1) entries

-- by the number of a set: the packets that stand under it in these entries, whose packets are diagrams of a store that grew
pub record AreUnder (base st : StoreState) (entries : List (ℕ × ℕ)) (all : List ℕ) : Type 0 where
  pub ids : (s : ℕ) → s < length all → IsId st (slice_index all s)
  pub under : (s : ℕ) (x : List ℕ) → s < length all → IsWhole x → (is_in st (slice_index all s) x ≡ true) ↔ Under base entries s x

-- the packets that some level has under a set with these members
pub record AreMet (base : StoreState) (ss : List (List ℕ)) (levels : List (List (ℕ × ℕ))) (set : List ℕ) (st : StoreState) (d : ℕ) : Type 0 where
  pub id : IsId st d
  pub met : (x : List ℕ) → IsWhole x → (is_in st d x ≡ true) ↔ ((j : ℕ) × InLevel base ss levels j (set, x))
