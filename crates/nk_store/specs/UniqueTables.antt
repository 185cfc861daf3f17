-- What a unique table keeps: items, each once, and for each item which one before it has the same digest (Brace, Rudell, Bryant,
-- "Efficient implementation of a BDD package", DAC 1990).
use Rattle.std.specs.Prelude.{◌≡◌, ℕ, ◌+◌, ◌<◌, ◌≤◌, Bool, eqb, false, List, [], ◌∷◌, ◌++◌, Some, if◌then◌else◌, length, map, slice_get}
use Rattle.std.specs.List.{list_any, position_or_len, IsDistinct}
use Rattle.std.specs.Map.{lookup}
use Rattle.std.specs.Option.{unwrap_or}
use Rattle.nk_store.specs.declared.unique_table.Entry.{Entry}

module _ {T : Type 0} where
  -- the items of entries, in order
  abbrev pub items_of : List (Entry T) → List T
  items_of es = map (λ (e : Entry T). e.item) es

  module _ (eq : T → T → Bool) where
    -- whether an item is one of these
    abbrev pub holds_item : List T → T → Bool
    holds_item xs x = list_any (eq x) xs

    -- the items with this one, which goes last where it is none of them
    abbrev pub with_item : List T → T → List T
    with_item xs x = if list_any (eq x) xs then xs else xs ++ x ∷ []

    -- the index of the first item that is equal to this one, or how many items there are
    abbrev pub item_place : List T → T → ℕ
    item_place xs x = position_or_len (eq x) xs

    -- no two items are equal
    abbrev pub HasItemsOnce : List T → Type 0
    HasItemsOnce xs = IsDistinct eq xs

  module _ (number : T → ℕ) where
    -- m is the index plus one of the last of the first n items that has the digest d, or 0 where none has it
    pub record IsLast (es : List (Entry T)) (n d m : ℕ) : Type 0 where
      pub within : m ≤ n
      pub has : (j : ℕ) (e : Entry T) → m ≡ j + 1 → slice_get es j ≡ Some e → number e.item ≡ d
      pub later : (k : ℕ) (e : Entry T) → m ≤ k → k < n → slice_get es k ≡ Some e → eqb (number e.item) d ≡ false

    -- each entry leads to the last one before it with its digest
    abbrev pub AreChained : List (Entry T) → Type 0
    AreChained es = (i : ℕ) (e : Entry T) → slice_get es i ≡ Some e → IsLast es i (number e.item) e.earlier

    -- what is kept for each digest is the last entry that has it
    abbrev pub AreLatest : List (Entry T) → List (ℕ × ℕ) → Type 0
    AreLatest es latest = (d : ℕ) → IsLast es (length es) d (unwrap_or (lookup (eqb d) latest) 0)

-- no two items are equal, and each chain is right
pub record IsUniqueTable {T : Type 0} (eq : T → T → Bool) (number : T → ℕ) (es : List (Entry T)) (latest : List (ℕ × ℕ)) : Type 0 where
  pub once : IsDistinct eq (items_of es)
  pub chained : AreChained number es
  pub last : AreLatest number es latest

-- a look for an item along the chain of its digest has come to index m, less one: no entry from there on has the item
pub record IsWalk {T : Type 0} (eq : T → T → Bool) (number : T → ℕ) (es : List (Entry T)) (x : T) (m : ℕ) : Type 0 where
  pub within : m ≤ length es
  pub has : (j : ℕ) (e : Entry T) → m ≡ j + 1 → slice_get es j ≡ Some e → number e.item ≡ number x
  pub passed : (k : ℕ) (e : Entry T) → m ≤ k → slice_get es k ≡ Some e → eq x e.item ≡ false
