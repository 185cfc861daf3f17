-- The outs of a leaf that another one lacks.
use Rattle.std.proofs.Common.{◌≡◌, ℕ, zero, suc, ◌<◌, ◌≤◌, Bool, true, false, cond, not, ◌||◌, List, [], ◌∷◌, length, refl, sym, ◌∙◌, ap, subst, arith, get_or, inl, inr, Result, Ok, Err, is_ok}
use Rattle.std.proofs.lemmas.Bool.Decides.{leb_tells}
use Rattle.std.specs.List.{HoldsAt}
use Rattle.std.specs.List.Sorted.{IsNonDecreasingBy, IsPartitionPoint, IsSearchInRange, IsBinarySearchResult}
use Rattle.std.specs.Ordering.{ordering_reverse, ordering_index}
use Rattle.std.specs.declared.cmp.Ordering.{Ordering}
use Rattle.std.specs.declared.cmp.Ordering.TheVariants.{Less, Equal, Greater}
use Rattle.nk_store.specs.declared.node.Out.{Out}
use Rattle.nk_store.specs.Leaves.{out_cmp, Every, Strict}
use Rattle.nk_store.specs.StoreState.{StoreState, IsId, look, HasLeaves}
use Rattle.nk_store.proofs.NodeEq.{out_decides}
use Rattle.nk_algebra.proofs.Acts.{every_at}
use Rattle.nk_apply.proofs.Sorted.{out_order}
use Rattle.nk_apply.proofs.Members.{Has, has_contains, contains_has, tied_same, not_before_itself}
use Rattle.nk_store.specs.Operations.{out_eq, has_out, lacking}

-- an out that the test finds is one of the leaf's
pub found_has : (ys : List Out) (o : Out) → has_out ys o ≡ true → Has ys o
found_has [] o e = cc
found_has (y ∷ ys) o e = by (out_eq o y) refl (found_has ys o)
  where
    by : (b : Bool) → out_eq o y ≡ b → (has_out ys o ≡ true → Has ys o) → Has (y ∷ ys) o
    by true k ih = inl (sym ((out_decides o y).0 k))
    by false k ih = inr (ih (sym (ap (λ b. b || has_out ys o) k) ∙ e))

-- the test finds each out of the leaf
pub has_found : (ys : List Out) (o : Out) → Has ys o → has_out ys o ≡ true
has_found [] o h = absurd h
has_found (y ∷ ys) o (inl e) = ap (λ b. b || has_out ys o) ((out_decides o y).1 (sym e))
has_found (y ∷ ys) o (inr h) = by (out_eq o y) (has_found ys o h)
  where
    by : (b : Bool) → has_out ys o ≡ true → (b || has_out ys o) ≡ true
    by true k = refl
    by false k = k

-- an out that the second leaf lacks stays
pub lacking_has : (xs ys : List Out) (o : Out) → Has xs o → has_out ys o ≡ false → Has (lacking xs ys) o
lacking_has [] ys o h e = absurd h
lacking_has (x ∷ xs) ys o (inl is) e =
    let k : not (has_out ys x) ≡ true = ap (λ z. not (has_out ys z)) is ∙ ap not e in
    subst (λ b. Has (cond b (x ∷ lacking xs ys) (lacking xs ys)) o) (sym k) (inl is)
lacking_has (x ∷ xs) ys o (inr h) e = by (not (has_out ys x)) (lacking_has xs ys o h e)
  where
    by : (b : Bool) → Has (lacking xs ys) o → Has (cond b (x ∷ lacking xs ys) (lacking xs ys)) o
    by true k = inr k
    by false k = k

-- what holds of each out of the first leaf holds of those that stay
pub lacking_every : (P : Out → Type 0) (xs ys : List Out) → Every P xs → Every P (lacking xs ys)
lacking_every P [] ys e = tt
lacking_every P (x ∷ xs) ys e = by (not (has_out ys x)) (lacking_every P xs ys e.1)
  where
    by : (b : Bool) → Every P (lacking xs ys) → Every P (cond b (x ∷ lacking xs ys) (lacking xs ys))
    by true k = (e.0, k)
    by false k = k

-- what stays is of the first leaf
pub has_lacking : (xs ys : List Out) (o : Out) → Has (lacking xs ys) o → Has xs o
has_lacking [] ys o h = h
has_lacking (x ∷ xs) ys o h = by (not (has_out ys x)) (has_lacking xs ys o) h
  where
    by : (b : Bool) → (Has (lacking xs ys) o → Has xs o) → Has (cond b (x ∷ lacking xs ys) (lacking xs ys)) o → Has (x ∷ xs) o
    by true ih (inl e) = inl e
    by true ih (inr k) = inr (ih k)
    by false ih k = inr (ih k)

-- what stays of a leaf that ascends ascends
pub lacking_strict : (xs ys : List Out) → Strict xs → Strict (lacking xs ys)
lacking_strict [] ys s = tt
lacking_strict (x ∷ xs) ys s = by (not (has_out ys x)) (lacking_strict xs ys s.1)
  where
    by : (b : Bool) → Strict (lacking xs ys) → Strict (cond b (x ∷ lacking xs ys) (lacking xs ys))
    by true k = (lacking_every (λ y. out_cmp x y ≡ Less) xs ys s.0, k)
    by false k = k

-- a leaf without outs lacks each
pub lacking_none : (xs : List Out) → lacking xs [] ≡ xs
lacking_none [] = refl
lacking_none (x ∷ xs) = ap (λ zs. x ∷ zs) (lacking_none xs)

-- a diagram that drops each packet has no out that another one lacks
pub missing_left : (st : StoreState) (a b : ℕ) → IsId st a → ((pk : List ℕ) → look st a pk ≡ []) →
    HasLeaves st a (λ pk. lacking (look st a pk) (look st b pk))
missing_left st a b ia e = record { id = ia; leaf = λ pk w. e pk ∙ sym (ap (λ xs. lacking xs (look st b pk)) (e pk)) }

-- a diagram that drops each packet lacks each out
pub missing_right : (st : StoreState) (a b : ℕ) → IsId st a → ((pk : List ℕ) → look st b pk ≡ []) →
    HasLeaves st a (λ pk. lacking (look st a pk) (look st b pk))
missing_right st a b ia e = record { id = ia; leaf = λ pk w. sym (ap (λ ys. lacking (look st a pk) ys) (e pk) ∙ lacking_none (look st a pk)) }

-- an out after one that isn't before o comes after o
after : (a b o : Out) → out_cmp a b ≡ Less → (out_cmp a o ≡ Less → ⊥) → out_cmp b o ≡ Greater
after a b o l n = by (out_cmp a o) refl
  where
    turned : out_cmp o b ≡ Less → out_cmp b o ≡ Greater
    turned k = out_order.antisymm b o ∙ ap ordering_reverse k

    by : (r : Ordering) → out_cmp a o ≡ r → out_cmp b o ≡ Greater
    by Less e = absurd (n e)
    by Equal e = turned (subst (λ z. out_cmp z b ≡ Less) (tied_same a o e) l)
    by Greater e = turned (out_order.trans o a b (out_order.antisymm o a ∙ ap ordering_reverse e) l)

-- of a leaf that ascends, an out at a later place comes after
pub strict_before : (xs : List Out) (i j : ℕ) (d : Out) → Strict xs → i < j → j < length xs →
    out_cmp (get_or xs i d) (get_or xs j d) ≡ Less
strict_before [] i j d s l m = absurd (omega arith)
strict_before (x ∷ xs) zero zero d s l m = absurd (omega arith)
strict_before (x ∷ xs) zero (suc j) d s l m = every_at (λ y. out_cmp x y ≡ Less) xs j d s.0 (omega arith)
strict_before (x ∷ xs) (suc i) zero d s l m = absurd (omega arith)
strict_before (x ∷ xs) (suc i) (suc j) d s l m = strict_before xs i j d s.1 (omega arith) (omega arith)

-- the outs of a leaf that ascends are before, at and then after any out
pub ascend_by : (xs : List Out) (o : Out) → Strict xs → IsNonDecreasingBy (λ y. ordering_index (out_cmp y o)) xs
ascend_by xs o s i j d l m = elim (leb_tells j i) [
  | inl same ↦ let e : i ≡ j = omega (arith, l, same.1) in subst (λ k. ordering_index (out_cmp (get_or xs i d) o) ≤ ordering_index (out_cmp (get_or xs k d) o)) e (omega arith)
  | inr less ↦ by (out_cmp (get_or xs i d) o) refl (strict_before xs i j d s less.1 m)
]
  where
    by : (r : Ordering) → out_cmp (get_or xs i d) o ≡ r → out_cmp (get_or xs i d) (get_or xs j d) ≡ Less →
        ordering_index (out_cmp (get_or xs i d) o) ≤ ordering_index (out_cmp (get_or xs j d) o)
    by Less e k = subst (λ r. ordering_index r ≤ ordering_index (out_cmp (get_or xs j d) o)) (sym e) (omega arith)
    by Equal e k =
        let f : out_cmp (get_or xs j d) o ≡ Greater = after (get_or xs i d) (get_or xs j d) o k (λ q. let z : Less ≡ Equal = sym q ∙ e in cc) in
        let g : ordering_index (out_cmp (get_or xs i d) o) ≡ 1 = ap ordering_index e in
        let h : ordering_index (out_cmp (get_or xs j d) o) ≡ 2 = ap ordering_index f in
        omega (arith, g, h)
    by Greater e k =
        let f : out_cmp (get_or xs j d) o ≡ Greater = after (get_or xs i d) (get_or xs j d) o k (λ q. let z : Less ≡ Greater = sym q ∙ e in cc) in
        let g : ordering_index (out_cmp (get_or xs i d) o) ≡ 2 = ap ordering_index e in
        let h : ordering_index (out_cmp (get_or xs j d) o) ≡ 2 = ap ordering_index f in
        omega (arith, g, h)

-- what a search finds is there
pub searched_found : (xs : List Out) (o : Out) (i : ℕ) → i < length xs → HoldsAt (λ y. out_cmp y o ≡ Equal) xs i →
    has_out xs o ≡ true
searched_found xs o i l h = has_found xs o (contains_has xs o (i, l, tied_same (get_or xs i o) o (h o)))

-- what a search doesn't find isn't there
pub searched_none : (xs : List Out) (o : Out) (i : ℕ) →
    IsPartitionPoint (λ y. out_cmp y o ≡ Less) (λ y. out_cmp y o ≡ Greater) xs i → has_out xs o ≡ false
searched_none xs o i h = by (has_out xs o) refl
  where
    no : Has xs o → ⊥
    no k =
        let c = has_contains xs o k in
        elim (leb_tells i c.0) [
          | inl following ↦
              let g : out_cmp o o ≡ Greater = subst (λ z. out_cmp z o ≡ Greater) c.2 (h.1 c.0 o following.1 c.1) in
              not_before_itself o (out_order.antisymm o o ∙ ap ordering_reverse g)
          | inr front ↦ not_before_itself o (subst (λ z. out_cmp z o ≡ Less) c.2 (h.0 c.0 o (omega arith) front.1))
        ]

    by : (b : Bool) → has_out xs o ≡ b → has_out xs o ≡ false
    by true e = absurd (no (found_has xs o e))
    by false e = e

-- a search tells whether the out is there
pub searched : (xs : List Out) (o : Out) (r : Result ℕ ℕ) → Strict xs → IsSearchInRange r (length xs) →
    IsBinarySearchResult (λ y. out_cmp y o) xs r → is_ok r ≡ has_out xs o
searched xs o (Ok i) s l h = sym (searched_found xs o i l h)
searched xs o (Err i) s l h = sym (searched_none xs o i (h (ascend_by xs o s)))
