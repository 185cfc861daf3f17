-- Unique tables: chains of entries with one digest gone along, and entries that are put in.
use Rattle.std.proofs.Common.{◌≡◌, ℕ, zero, suc, ◌+◌, ◌≤◌, Bool, true, false, ◌||◌, eqb, inl, inr, List, [], ◌∷◌, ◌++◌, length, Some, slice_get, refl, sym, ap, subst, ◌∙◌, arith, if◌then◌else◌}
use Rattle.std.specs.Prelude.{◌⊎◌}
use Rattle.std.specs.Cmp.{IsEquivalence}
use Rattle.std.specs.List.{list_any, IsDistinct, AllByRecursion}
use Rattle.std.specs.Map.{lookup}
use Rattle.std.specs.Option.{unwrap_or}
use Rattle.std.proofs.lemmas.Bool.Decides.{eqb_tells}
use Rattle.std.proofs.lemmas.Option.{slice_get_within, same_Some}
use Rattle.std.proofs.lemmas.Map.Keys.{IsDistinct-push, IsDistinct-head, IsDistinct-tail, any_passes_from_place}
use Rattle.nk_store.specs.declared.unique_table.Entry.{Entry}
use Rattle.nk_store.specs.UniqueTables.{items_of, with_item, item_place, IsLast, AreChained, AreLatest, IsUniqueTable}

-- one entry more at the end: what stands at a place
pub pushed_at : {A : Type 0} (xs : List A) (y x : A) (i : ℕ) → slice_get (xs ++ y ∷ []) i ≡ Some x → (slice_get xs i ≡ Some x) ⊎ ((i ≡ length xs) × (y ≡ x))
pushed_at [] y x zero h = inr (refl, same_Some y x h)
pushed_at [] y x (suc i) h = cc
pushed_at (z ∷ xs) y x zero h = inl h
pushed_at (z ∷ xs) y x (suc i) h = elim (pushed_at xs y x i h) [
  | inl old ↦ inl old
  | inr new ↦ inr (omega (arith, new.0), new.1)
]

-- the last of the entries
pub last_at : {A : Type 0} (xs : List A) (y : A) → slice_get (xs ++ y ∷ []) (length xs) ≡ Some y
last_at [] y = refl
last_at (x ∷ xs) y = last_at xs y

-- how many there are with one more
pub pushed_length : {A : Type 0} (xs : List A) (y : A) → length (xs ++ y ∷ []) ≡ length xs + 1
pushed_length [] y = refl
pushed_length (x ∷ xs) y = omega (arith, pushed_length xs y)

-- the items with one entry more
pub items_pushed : {T : Type 0} (es : List (Entry T)) (y : Entry T) → items_of (es ++ y ∷ []) ≡ items_of es ++ y.item ∷ []
items_pushed [] y = refl
items_pushed (e ∷ es) y = ap (λ xs. e.item ∷ xs) (items_pushed es y)

-- there are as many items as entries
pub items_length : {T : Type 0} (es : List (Entry T)) → length (items_of es) ≡ length es
items_length [] = refl
items_length (e ∷ es) = omega (arith, items_length es)

-- the item of an entry stands at its place
pub item_at : {T : Type 0} (es : List (Entry T)) (i : ℕ) (e : Entry T) → slice_get es i ≡ Some e → slice_get (items_of es) i ≡ Some e.item
item_at [] i e h = cc
item_at {T = T} (x ∷ es) zero e h = ap (λ (y : Entry T). Some y.item) (same_Some x e h)
item_at (x ∷ es) (suc i) e h = item_at es i e h

-- an item that no entry has is none of the items
pub none_has : {T : Type 0} (test : T → Bool) (es : List (Entry T)) → ((k : ℕ) (e : Entry T) → slice_get es k ≡ Some e → test e.item ≡ false) → list_any test (items_of es) ≡ false
none_has test [] h = refl
none_has test (e ∷ es) h = ap (λ b. b || list_any test (items_of es)) (h 0 e refl) ∙ none_has test es (λ k. h (suc k))

-- what holds of each item holds of the one at a place
each_at : {A : Type 0} (P : A → Type 0) (xs : List A) (i : ℕ) (x : A) → AllByRecursion P xs → slice_get xs i ≡ Some x → P x
each_at P [] i x a h = cc
each_at P (y ∷ xs) zero x a h = subst P (same_Some y x h) a.0
each_at P (y ∷ xs) (suc i) x a h = each_at P xs i x a.1 h

module _ {T : Type 0} {eq : T → T → Bool} (laws : IsEquivalence eq) where
  -- an item that is equal to one stands where that one does
  pub place_is : (xs : List T) (i : ℕ) (k x : T) → IsDistinct eq xs → slice_get xs i ≡ Some k → eq x k ≡ true → i ≡ item_place eq xs x
  place_is [] i k x d h same = cc
  place_is (y ∷ xs) zero k x d h same =
      let e : eq x y ≡ true = ap (λ z. eq x z) (same_Some y k h) ∙ same in
      let f : item_place eq (y ∷ xs) x ≡ 0 = rw e refl in
      sym f
  place_is (y ∷ xs) (suc i) k x d h same = by (eq x y) refl (place_is xs i k x (IsDistinct-tail eq y xs d) h same)
    where
      apart : eq y k ≡ false
      apart = each_at (λ z. eq y z ≡ false) xs i k (IsDistinct-head eq y xs d) h

      differs : true ≡ false → ⊥
      differs f = cc

      by : (b : Bool) → eq x y ≡ b → i ≡ item_place eq xs x → suc i ≡ item_place eq (y ∷ xs) x
      by true e rest = absurd (differs (sym same ∙ laws.congr x y k e ∙ apart))
      by false e rest =
          let f : item_place eq (y ∷ xs) x ≡ 1 + item_place eq xs x = rw e refl in
          omega (arith, f, rest)

-- an item that is none of these has the place after them
pub place_after : {T : Type 0} (eq : T → T → Bool) (xs : List T) (x : T) → list_any (eq x) xs ≡ false → length xs ≡ item_place eq xs x
place_after eq [] x h = refl
place_after eq (y ∷ xs) x h = by (eq x y) refl h (place_after eq xs x)
  where
    by : (b : Bool) → eq x y ≡ b → (b || list_any (eq x) xs) ≡ false → (list_any (eq x) xs ≡ false → length xs ≡ item_place eq xs x) →
        length (y ∷ xs) ≡ item_place eq (y ∷ xs) x
    by true e k rest = cc
    by false e k rest =
        let f : item_place eq (y ∷ xs) x ≡ 1 + item_place eq xs x = rw e refl in
        omega (arith, f, rest k)

module _ {T : Type 0} (number : T → ℕ) where
  -- the last entry of a digest among the first n stays so with one entry more after them
  pub last_stays : (es : List (Entry T)) (y : Entry T) (n d m : ℕ) → n ≤ length es → IsLast number es n d m → IsLast number (es ++ y ∷ []) n d m
  last_stays es y n d m few s = record {
    within = s.within;
    has = λ j e at h. elim (pushed_at es y e j h) [
      | inl old ↦ s.has j e at old
      | inr new ↦ absurd (omega (arith, s.within, few, at, new.0))
    ];
    later = λ k e from below h. elim (pushed_at es y e k h) [
      | inl old ↦ s.later k e from below old
      | inr new ↦ absurd (omega (arith, below, few, new.0))
    ];
  }

  -- an entry that comes is the last one of its digest
  pub last_comes : (es : List (Entry T)) (y : Entry T) → IsLast number (es ++ y ∷ []) (length es + 1) (number y.item) (length es + 1)
  last_comes es y = record {
    within = omega arith;
    has = λ j e at h. elim (pushed_at es y e j h) [
      | inl old ↦ absurd (let within = slice_get_within es j e old in omega (arith, within, at))
      | inr new ↦ ap (λ (z : Entry T). number z.item) (sym new.1)
    ];
    later = λ k e from below h. absurd (omega (arith, from, below));
  }

  -- the last entry of another digest stays so
  pub last_other : (es : List (Entry T)) (y : Entry T) (d m : ℕ) → eqb (number y.item) d ≡ false → IsLast number es (length es) d m → IsLast number (es ++ y ∷ []) (length es + 1) d m
  last_other es y d m other s = record {
    within = omega (arith, s.within);
    has = λ j e at h. elim (pushed_at es y e j h) [
      | inl old ↦ s.has j e at old
      | inr new ↦ absurd (omega (arith, s.within, at, new.0))
    ];
    later = λ k e from below h. elim (pushed_at es y e k h) [
      | inl old ↦ s.later k e from (slice_get_within es k e old) old
      | inr new ↦ ap (λ (z : Entry T). eqb (number z.item) d) (sym new.1) ∙ other
    ];
  }

  -- chains stay right where an entry comes that leads to the last one of its digest
  pub chained_more : (es : List (Entry T)) (y : Entry T) → AreChained number es → IsLast number es (length es) (number y.item) y.earlier → AreChained number (es ++ y ∷ [])
  chained_more es y c s i e h = elim (pushed_at es y e i h) [
    | inl old ↦ last_stays es y i (number e.item) e.earlier (within i e old) (c i e old)
    | inr new ↦ subst (λ (z : Entry T). IsLast number (es ++ y ∷ []) i (number z.item) z.earlier) new.1
        (subst (λ n. IsLast number (es ++ y ∷ []) n (number y.item) y.earlier) (sym new.0)
        (last_stays es y (length es) (number y.item) y.earlier (omega arith) s))
  ]
    where
      within : (j : ℕ) (z : Entry T) → slice_get es j ≡ Some z → j ≤ length es
      within j z at = omega (arith, slice_get_within es j z at)

  -- what is kept stays right where the entry that comes is kept for its digest
  pub latest_more : (es : List (Entry T)) (y : Entry T) (old new : List (ℕ × ℕ)) → AreLatest number es old →
      ((d : ℕ) → lookup (eqb d) new ≡ (if eqb (number y.item) d then Some (length es + 1) else lookup (eqb d) old)) →
      AreLatest number (es ++ y ∷ []) new
  latest_more es y old new l put d = elim (eqb_tells (number y.item) d) [
    | inl same ↦
        let is : unwrap_or (lookup (eqb d) new) 0 ≡ length es + 1 =
        ap (λ o. unwrap_or o 0) (put d ∙ ap (λ b. if b then Some (length es + 1) else lookup (eqb d) old) same.0) in
        fits (length es + 1) is (subst (λ n. IsLast number (es ++ y ∷ []) (length es + 1) n (length es + 1)) same.1 (last_comes es y))
    | inr other ↦
        let is : unwrap_or (lookup (eqb d) new) 0 ≡ unwrap_or (lookup (eqb d) old) 0 =
        ap (λ o. unwrap_or o 0) (put d ∙ ap (λ b. if b then Some (length es + 1) else lookup (eqb d) old) other.0) in
        fits (unwrap_or (lookup (eqb d) old) 0) is (last_other es y d (unwrap_or (lookup (eqb d) old) 0) other.0 (l d))
  ]
    where
      fits : (m : ℕ) → unwrap_or (lookup (eqb d) new) 0 ≡ m → IsLast number (es ++ y ∷ []) (length es + 1) d m →
          IsLast number (es ++ y ∷ []) (length (es ++ y ∷ [])) d (unwrap_or (lookup (eqb d) new) 0)
      fits m is s =
          subst (λ n. IsLast number (es ++ y ∷ []) n d (unwrap_or (lookup (eqb d) new) 0)) (sym (pushed_length es y))
          (subst (λ k. IsLast number (es ++ y ∷ []) (length es + 1) d k) (sym is) s)

-- a table with one entry more
pub table_more : {T : Type 0} {eq : T → T → Bool} (laws : IsEquivalence eq) (number : T → ℕ) (es : List (Entry T)) (y : Entry T) (old new : List (ℕ × ℕ)) →
    IsUniqueTable eq number es old → list_any (eq y.item) (items_of es) ≡ false → IsLast number es (length es) (number y.item) y.earlier →
    ((d : ℕ) → lookup (eqb d) new ≡ (if eqb (number y.item) d then Some (length es + 1) else lookup (eqb d) old)) →
    IsUniqueTable eq number (es ++ y ∷ []) new
table_more {eq = eq} laws number es y old new t absent s put = record {
  once = subst (IsDistinct eq) (sym (items_pushed es y)) (IsDistinct-push laws (items_of es) y.item t.once absent);
  chained = chained_more number es y t.chained s;
  last = latest_more number es y old new t.last put;
}

-- items one of which is equal to an item stay as they are
pub found_keeps : {T : Type 0} (eq : T → T → Bool) (xs : List T) (i : ℕ) (k x : T) → slice_get xs i ≡ Some k → eq x k ≡ true → xs ≡ with_item eq xs x
found_keeps eq xs i k x h same = sym (ap (λ b. if b then xs else xs ++ x ∷ []) (any_passes_from_place (eq x) xs i k h same))

-- what a look for an item found of the entries holds of the items that contracts see
pub found_in : {T : Type 0} (eq : T → T → Bool) (shown : List (Entry T)) (es : List (Entry T)) (xs : List T) (i : ℕ) (x : T) → shown ≡ es → items_of es ≡ xs →
    (k : T) × (slice_get (items_of shown) i ≡ Some k) × (eq x k ≡ true) → (k : T) × (slice_get xs i ≡ Some k) × (eq x k ≡ true)
found_in eq shown es xs i x s v f = (f.0, subst (λ ys. slice_get ys i ≡ Some f.0) (ap items_of s ∙ v) f.1, f.2)

-- the item that came stands at the end
pub stored_last : {T : Type 0} {eq : T → T → Bool} (laws : IsEquivalence eq) (es new : List (Entry T)) (y : Entry T) → new ≡ es ++ y ∷ [] →
    (k : T) × (slice_get (items_of new) (length es) ≡ Some k) × (eq y.item k ≡ true)
stored_last laws es new y e = (y.item, subst (λ zs. slice_get (items_of zs) (length es) ≡ Some y.item) (sym e) (item_at (es ++ y ∷ []) (length es) y (last_at es y)), laws.refl y.item)

-- a table with no entry
pub no_table : {T : Type 0} (eq : T → T → Bool) (number : T → ℕ) (es : List (Entry T)) (latest : List (ℕ × ℕ)) → es ≡ [] → latest ≡ [] → IsUniqueTable eq number es latest
unfolding IsDistinct
no_table {T = T} eq number es latest e l = subst (λ zs. IsUniqueTable eq number zs latest) (sym e) (subst (λ zs. IsUniqueTable eq number [] zs) (sym l) none)
  where
    none : IsUniqueTable eq number [] []
    none = record {
      once = tt;
      chained = λ i e h. cc;
      last = λ d. record {
        within = omega arith;
        has = λ j e at h. cc;
        later = λ k e from below h. cc;
      };
    }
