-- What the leaves of a diagram have, collected node by node.
use Rattle.std.proofs.Common.{◌≡◌, ℕ, ◌+◌, ◌<◌, ◌≤◌, true, cond, eqb, List, [], ◌∷◌, ◌++◌, length, take, append-nil, sym, ◌∙◌, ap, subst, arith, get_or, inl, inr}
use Rattle.std.specs.List.{Contains, list_any, flat_map}
use Rattle.std.specs.List.Sorted.{IsPermutation}
use Rattle.std.proofs.lemmas.List.Elements.{Contains-append_right, Contains-append_cases}
use Rattle.std.proofs.lemmas.List.Sorted.{Contains-permutation}
use Rattle.std.proofs.lemmas.List.{take_more, take_all}
use Rattle.std.proofs.lemmas.List.Concat.{flat_map-append}
use Rattle.std.proofs.lemmas.Bool.Decides.{leb_tells, eqb_tells}
use Rattle.nk_store.specs.declared.node.Out.{Out}
use Rattle.nk_store.specs.StoreState.{StoreState, look, IsCase}
use Rattle.nk_store.proofs.Looks.{joined_some}
use Rattle.nk_determ.specs.Unchanged.{AreAmong, HasItems, AllHaveItems}
use Rattle.nk_determ.proofs.HaveSets.{child_place}

-- the items put after are there
pub among_back : (xs ys zs : List ℕ) → zs ≡ xs ++ ys → AreAmong ys zs
among_back xs ys zs e v c = subst (λ l. Contains l v) (sym e) (Contains-append_right xs ys v c)

-- items among items among others
pub among_on : (xs ys zs : List ℕ) → AreAmong xs ys → AreAmong ys zs → AreAmong xs zs
among_on xs ys zs a b v c = b v (a v c)

-- items of two lists
pub among_both : (xs ys zs : List ℕ) → AreAmong xs zs → AreAmong ys zs → AreAmong (xs ++ ys) zs
among_both xs ys zs a b v c = elim (Contains-append_cases xs ys v c) [ inl k ↦ a v k | inr k ↦ b v k ]

-- what one element more has
pub element_more : {X : Type 0} (F : X → List ℕ) (xs : List X) (i : ℕ) (x : X) (old new : List ℕ) → i < length xs → x ≡ get_or xs i x →
    AreAmong (flat_map F (take i xs)) old → AreAmong old new → AreAmong (F x) new → AreAmong (flat_map F (take (i + 1) xs)) new
element_more F xs i x old new l is before more here =
    let one : flat_map F (get_or xs i x ∷ []) ≡ F x = append-nil (F (get_or xs i x)) ∙ ap F (sym is) in
    let all : flat_map F (take (i + 1) xs) ≡ flat_map F (take i xs) ++ F x =
    ap (flat_map F) (take_more xs i x l) ∙ flat_map-append F (take i xs) (get_or xs i x ∷ []) ∙ ap (λ ys. flat_map F (take i xs) ++ ys) one in
    subst (λ ys. AreAmong ys new) (sym all) (among_both (flat_map F (take i xs)) (F x) new (among_on (flat_map F (take i xs)) old new before more) here)

-- what all elements have
pub elements_all : {X : Type 0} (F : X → List ℕ) (xs : List X) (i : ℕ) (new : List ℕ) → length xs ≤ i →
    AreAmong (flat_map F (take i xs)) new → AreAmong (flat_map F xs) new
elements_all F xs i new l has = subst (λ ys. AreAmong (flat_map F ys) new) (take_all i xs l) has

-- a diagram whose items are among some has them among more
pub items_grow : (F : List Out → List ℕ) (old new : List ℕ) (st : StoreState) (d : ℕ) → AreAmong old new → HasItems F old st d → HasItems F new st d
items_grow F old new st d g h pk v c = g v (h pk v c)

-- and so do several
pub all_items_grow : (F : List Out → List ℕ) (old new : List ℕ) (st : StoreState) (ds : List ℕ) → AreAmong old new → AllHaveItems F old st ds → AllHaveItems F new st ds
all_items_grow F old new st ds g h d e = items_grow F old new st d g (h d e)

-- one more does
pub one_more_has : (F : List Out → List ℕ) (vs : List ℕ) (st : StoreState) (old new : List ℕ) (d : ℕ) → AllHaveItems F vs st old → HasItems F vs st d →
    ((q : ℕ) → list_any (eqb q) new ≡ cond (eqb d q) true (list_any (eqb q) old)) → AllHaveItems F vs st new
one_more_has F vs st old new d all one put q e =
    elim (eqb_tells d q) [
      | inl same ↦ subst (HasItems F vs st) same.1 one
      | inr other ↦ all q (sym (put q ∙ ap (λ b. cond b true (list_any (eqb q) old)) other.0) ∙ e)
    ]

-- the items of a leaf
pub leaf_has_items : (F : List Out → List ℕ) (new : List ℕ) (st : StoreState) (d : ℕ) (outs : List Out) → ((pk : List ℕ) → look st d pk ≡ outs) →
    AreAmong (F outs) new → HasItems F new st d
leaf_has_items F new st d outs is has pk = subst (λ os. AreAmong (F os) new) (sym (is pk)) has

-- one part more
pub parts_more_have : (F : List Out → List ℕ) (old new : List ℕ) (st : StoreState) (ps : List (ℕ × ℕ)) (i d : ℕ) → AreAmong old new →
    ((k : ℕ) → k < i → HasItems F old st (get_or ps k (0, 0)).1) → d ≡ (get_or ps i (0, 0)).1 → HasItems F new st d →
    (k : ℕ) → k < i + 1 → HasItems F new st (get_or ps k (0, 0)).1
parts_more_have F old new st ps i d g done is h k m = elim (leb_tells i k) [
  | inr before ↦ items_grow F old new st (get_or ps k (0, 0)).1 g (done k before.1)
  | inl here ↦
      let same : k ≡ i = omega (arith, here.1, m) in
      subst (HasItems F new st) (is ∙ ap (λ j. (get_or ps j (0, 0)).1) (sym same)) h
]

-- where all parts' diagrams have their items, the diagram has them
pub case_has_items : (F : List Out → List ℕ) (vs : List ℕ) (st : StoreState) (d g : ℕ) (ps items : List (ℕ × ℕ)) (i : ℕ) → IsCase st d g ps →
    items ≡ ps → length items ≤ i → ((k : ℕ) → k < i → HasItems F vs st (get_or items k (0, 0)).1) → HasItems F vs st d
case_has_items F vs st d g ps items i c is l all = λ pk.
    let at = child_place ps 0 (get_or pk g 0) (joined_some ps c.joined) in
    let within : length items ≡ length ps = ap (λ k. length k) is in
    let had = subst (λ (qs : List (ℕ × ℕ)). HasItems F vs st (get_or qs at.0 (0, 0)).1) is (all at.0 (omega (arith, at.1, l, within))) in
    subst (λ os. AreAmong (F os) vs) (sym (c.leaf pk ∙ ap (λ k. look st k pk) at.2)) (had pk)

-- items in another order
pub moved_items : (F : List Out → List ℕ) (old new : List ℕ) (st : StoreState) (d : ℕ) → IsPermutation old new → HasItems F old st d → HasItems F new st d
moved_items F old new st d moved h = items_grow F old new st d (λ v c. Contains-permutation old new v moved c) h
