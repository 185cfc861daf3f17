-- Many diagrams together, by halves.
use Rattle.std.proofs.Common.{◌≡◌, ℕ, zero, suc, ◌+◌, ◌-◌, ◌<◌, ◌≤◌, min, List, length, refl, sym, ◌∙◌, ap, subst, arith, get_or, inl, inr}
use Rattle.nk_store.specs.declared.node.Out.{Out}
use Rattle.nk_store.specs.Leaves.{Strict}
use Rattle.nk_store.specs.StoreState.{StoreState, IsId, look, root_field, Grows, HasLeaves, AreTidy}
use Rattle.nk_apply.specs.Leaves.{merged}
use Rattle.nk_apply.specs.Unions.{AreIds, AreFrom, unions}
use Rattle.nk_apply.proofs.Sorted.{merged_strict}
use Rattle.nk_apply.proofs.Members.{Has, merged_left, merged_right, merged_has, strict_same}
use Rattle.nk_apply.proofs.Weaves.{merged-nil}

-- three strictly ascending lists together
pub merged_assoc : (a b c : List Out) → Strict a → Strict b → Strict c →
    merged (merged a b) c ≡ merged a (merged b c)
merged_assoc a b c sa sb sc = strict_same (merged (merged a b) c) (merged a (merged b c)) (merged_strict (merged a b) c (merged_strict a b sa sb) sc) (merged_strict a (merged b c) sa (merged_strict b c sb sc)) to back
  where
    to : (o : Out) → Has (merged (merged a b) c) o → Has (merged a (merged b c)) o
    to o h = elim (merged_has o (merged a b) c h) [
      | inl k ↦ elim (merged_has o a b k) [ inl x ↦ merged_left o a (merged b c) x | inr y ↦ merged_right o a (merged b c) (merged_left o b c y) ]
      | inr z ↦ merged_right o a (merged b c) (merged_right o b c z)
    ]

    back : (o : Out) → Has (merged a (merged b c)) o → Has (merged (merged a b) c) o
    back o h = elim (merged_has o a (merged b c) h) [
      | inl x ↦ merged_left o (merged a b) c (merged_left o a b x)
      | inr k ↦ elim (merged_has o b c k) [ inl y ↦ merged_left o (merged a b) c (merged_right o a b y) | inr z ↦ merged_right o (merged a b) c z ]
    ]

-- many leaves together ascend strictly
unions_strict : (st : StoreState) (ds : List ℕ) (from n : ℕ) (pk : List ℕ) → AreTidy st →
    Strict (unions st ds from n pk)
unions_strict st ds from zero pk t = tt
unions_strict st ds from (suc n) pk t = merged_strict (look st (get_or ds from 0) pk) (unions st ds (from + 1) n pk) ((t (get_or ds from 0)).sorted pk) (unions_strict st ds (from + 1) n pk t)

-- two halves together are the whole
pub unions_halves : (st : StoreState) (ds : List ℕ) (from m n : ℕ) (pk : List ℕ) → AreTidy st →
    merged (unions st ds from m pk) (unions st ds (from + m) n pk) ≡ unions st ds from (m + n) pk
unions_halves st ds from zero n pk t =
    let e : from + 0 ≡ from = omega arith in
    let c : n ≡ 0 + n = omega arith in
    ap (λ k. unions st ds k n pk) e ∙ ap (λ m. unions st ds from m pk) c
unions_halves st ds from (suc m) n pk t =
    let next : from + suc m ≡ (from + 1) + m = omega arith in
    let rest = unions st ds ((from + 1) + m) n pk in
    let count : (suc m) + n ≡ suc (m + n) = omega arith in
    ap (λ k. merged (unions st ds from (suc m) pk) (unions st ds k n pk)) next
    ∙ merged_assoc (look st (get_or ds from 0) pk) (unions st ds (from + 1) m pk) rest ((t (get_or ds from 0)).sorted pk) (unions_strict st ds (from + 1) m pk t) (unions_strict st ds ((from + 1) + m) n pk t)
    ∙ ap (λ zs. merged (look st (get_or ds from 0) pk) zs) (unions_halves st ds (from + 1) m n pk t)
    ∙ ap (λ k. unions st ds from k pk) (sym count)

-- many leaves together stay in a store that grew
unions_grow : (old new : StoreState) (ds : List ℕ) (from n : ℕ) (pk : List ℕ) → Grows old new → AreIds old ds →
    from + n ≤ length ds → unions new ds from n pk ≡ unions old ds from n pk
unions_grow old new ds from zero pk g ids l = refl
unions_grow old new ds from (suc n) pk g ids l =
    ap (λ x. merged x (unions new ds (from + 1) n pk)) (g.leaves (get_or ds from 0) pk (ids from (omega arith)))
    ∙ ap (λ y. merged (look old (get_or ds from 0) pk) y) (unions_grow old new ds (from + 1) n pk g ids (omega arith))

-- both halves together
pub halves_have_leaves : (old s1 s2 s3 : StoreState) (ds : List ℕ) (from middle to left right new : ℕ) →
    Grows old s1 → Grows s1 s2 → AreIds old ds → AreTidy old → from ≤ middle → middle ≤ to → to ≤ length ds →
    HasLeaves s1 left (λ pk. unions old ds from (middle - from) pk) →
    HasLeaves s2 right (λ pk. unions s1 ds middle (to - middle) pk) →
    HasLeaves s3 new (λ pk. merged (look s2 left pk) (look s2 right pk)) →
    HasLeaves s3 new (λ pk. unions old ds from (to - from) pk)
halves_have_leaves old s1 s2 s3 ds from middle to left right new g h ids t a b e gl gr gn = record {
  id = gn.id;
  leaf = λ pk w.
      let at : from + (middle - from) ≡ middle = omega arith in
      let count : (middle - from) + (to - middle) ≡ to - from = omega arith in
      let is_left : look s2 left pk ≡ unions old ds from (middle - from) pk = h.leaves left pk gl.id ∙ gl.leaf pk w in
      let is_right : look s2 right pk ≡ unions old ds (from + (middle - from)) (to - middle) pk = gr.leaf pk w ∙ unions_grow old s1 ds middle (to - middle) pk g ids (omega arith) ∙ ap (λ k. unions old ds k (to - middle) pk) (sym at) in
      gn.leaf pk w ∙ ap (λ x. merged x (look s2 right pk)) is_left ∙ ap (λ y. merged (unions old ds from (middle - from) pk) y) is_right
      ∙ unions_halves old ds from (middle - from) (to - middle) pk t ∙ ap (λ n. unions old ds from n pk) count;
}

-- a single diagram
pub one_has_leaves : (st : StoreState) (ds : List ℕ) (from n d : ℕ) → n ≡ 1 → d ≡ get_or ds from 0 →
    from < length ds → AreIds st ds → HasLeaves st d (λ pk. unions st ds from n pk)
one_has_leaves st ds from n d is e l ids = record {
  id = subst (IsId st) (sym e) (ids from l);
  leaf = λ pk w. ap (λ k. look st k pk) e ∙ sym (merged-nil (look st (get_or ds from 0) pk)) ∙ ap (λ m. unions st ds from m pk) (sym is);
}

-- a single diagram tests no field before those of all
pub one_later : (st : StoreState) (ds : List ℕ) (from d p : ℕ) → d ≡ get_or ds from 0 → from < length ds → AreFrom st p ds →
    p ≤ root_field st d
one_later st ds from d p e l first = subst (λ k. p ≤ root_field st k) (sym e) (first from l)

-- both halves together test no field before those of all
pub halves_later : (old s1 s2 s3 : StoreState) (ds : List ℕ) (left right new p : ℕ) → Grows old s1 → Grows s1 s2 →
    AreIds old ds → AreFrom old p ds → IsId s1 left → p ≤ root_field s1 left →
    (AreFrom s1 p ds → p ≤ root_field s2 right) → min (root_field s2 left) (root_field s2 right) ≤ root_field s3 new → p ≤ root_field s3 new
halves_later old s1 s2 s3 ds left right new p g h ids first id a b u =
    let grown : AreFrom s1 p ds = λ k l. subst (λ t. p ≤ t) (sym (g.root_fields (get_or ds k 0) (ids k l))) (first k l) in
    let below = b grown in
    let same : root_field s2 left ≡ root_field s1 left = h.root_fields left id in
    omega (arith, u, a, below, same)
