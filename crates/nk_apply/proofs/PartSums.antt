-- Parts of many diagrams together.
use Rattle.std.proofs.Common.{◌≡◌, ℕ, zero, suc, ◌+◌, ◌-◌, ◌<◌, ◌≤◌, min, List, [], ◌∷◌, ◌++◌, length, refl, sym, ◌∙◌, ap, subst, arith, get_or}
use Rattle.nk_store.specs.declared.node.Node.TheVariants.{Case}
use Rattle.nk_store.specs.declared.node.Out.{Out}
use Rattle.nk_store.specs.Nodes.{child_at, Rises}
use Rattle.nk_store.specs.StoreState.{StoreState, IsId, node_of, look, root_field, Grows, HasLeaves, IsChild, AreParts, IsCase, IsNodeOf, AreTidy}
use Rattle.nk_store.proofs.Looks.{each_child, each_weaker}
use Rattle.nk_apply.specs.Leaves.{merged}
use Rattle.nk_apply.specs.Cofactors.{cofactor, found_in, IsSplit}
use Rattle.nk_apply.specs.Unions.{AreIds, AreFrom, HaveParts, cofactor_leaf, over_places, unions}
use Rattle.nk_apply.proofs.Built.{Built, built_push, built_parts, built_leaf, child_grows, cofactor_grows}
use Rattle.nk_apply.proofs.OverPlaces.{places_halves}
use Rattle.nk_apply.proofs.Parts.{Serves, found_serves, child_past, split_at, cofactor-case}
use Rattle.nk_apply.proofs.Weaves.{merged-nil}

-- parts that rise to a highest value are some
pub rising_some : (high : ℕ) (ps : List (ℕ × ℕ)) → Rises high 0 ps → 0 < length ps
rising_some high [] r = absurd (omega (arith, r))
rising_some high (p ∷ ps) r = omega arith

-- each value's child is one
pub child_of : (st : StoreState) (f : ℕ) (ps : List (ℕ × ℕ)) (v : ℕ) → AreParts st f ps → IsChild st f (child_at 0 ps v)
child_of st f ps v p = each_child (IsChild st f) 0 ps v (rising_some (get_or st.maxes f 0) ps p.rise) p.children

-- parts stay parts in a store that grew
pub parts_grow : (old new : StoreState) (f : ℕ) (ps : List (ℕ × ℕ)) → Grows old new → AreParts old f ps → AreParts new f ps
parts_grow old new f ps g p = record {
  field = p.field;
  rise = subst (λ ms. Rises (get_or ms f 0) 0 ps) (sym g.maxes) p.rise;
  children = each_weaker (IsChild old f) (IsChild new f) ps (λ c k. child_grows old new f c g k) p.children;
}

-- the leaves of both parts at a value, together
abbrev pub both_at : StoreState → List (ℕ × ℕ) → List (ℕ × ℕ) → ℕ → List ℕ → List Out
both_at old xs ys v pk = merged (look old (child_at 0 xs v) pk) (look old (child_at 0 ys v) pk)

-- one part more of both together
pub both_push : (old st new : StoreState) (f from : ℕ) (xs ys ps : List (ℕ × ℕ)) (p q : ℕ × ℕ) (d e : ℕ) →
    Built (both_at old xs ys) st f from ps → Grows old st → Grows st new → AreParts old f xs → AreParts old f ys →
    from ≤ get_or old.maxes f 0 → p ≡ found_in (0, 0) xs from → q ≡ found_in (0, 0) ys from → e ≡ min p.0 q.0 →
    HasLeaves new d (λ pk. merged (look st p.1 pk) (look st q.1 pk)) → min (root_field st p.1) (root_field st q.1) ≤ root_field new d →
    Built (both_at old xs ys) new f (e + 1) (ps ++ (e, d) ∷ [])
both_push old st new f from xs ys ps p q d e built g h ax ay low ip iq is leaves later =
    let high = get_or old.maxes f 0 in
    let sx = subst (λ r. Serves high 0 from xs r) (sym ip) (found_serves high 0 0 from (0, 0) xs ax.rise (omega arith) low) in
    let sy = subst (λ r. Serves high 0 from ys r) (sym iq) (found_serves high 0 0 from (0, 0) ys ay.rise (omega arith) low) in
    let cx : IsChild old f p.1 = subst (IsChild old f) (sx.same from (omega arith) sx.from) (child_of old f xs from ax) in
    let cy : IsChild old f q.1 = subst (IsChild old f) (sy.same from (omega arith) sy.from) (child_of old f ys from ay) in
    let tx : root_field st p.1 ≡ root_field old p.1 = g.root_fields p.1 cx.id in
    let ty : root_field st q.1 ≡ root_field old q.1 = g.root_fields q.1 cy.id in
    built_push (both_at old xs ys) st new f from ps d e built h (omega (arith, is, sx.from, sy.from))
    (record { id = leaves.id; later = omega (arith, later, tx, ty, cx.later, cy.later) })
    (λ v pk w l m. leaves.leaf pk w
    ∙ ap (λ x. merged x (look st q.1 pk)) (g.leaves p.1 pk cx.id ∙ ap (λ k. look old k pk) (sym (sx.same v l (omega (arith, is, m)))))
    ∙ ap (λ y. merged (look old (child_at 0 xs v) pk) y) (g.leaves q.1 pk cy.id ∙ ap (λ k. look old k pk) (sym (sy.same v l (omega (arith, is, m))))))

-- values past the highest count as the highest
both_past : (old : StoreState) (f e : ℕ) (xs ys : List (ℕ × ℕ)) → AreParts old f xs → AreParts old f ys →
    e ≡ get_or old.maxes f 0 → (v : ℕ) (pk : List ℕ) → e ≤ v → both_at old xs ys v pk ≡ both_at old xs ys e pk
both_past old f e xs ys ax ay is v pk l =
    let high = get_or old.maxes f 0 in
    let far : high ≤ v = omega (arith, l, is) in
    ap (λ k. merged (look old k pk) (look old (child_at 0 ys v) pk)) (child_past high 0 0 v xs ax.rise far)
    ∙ ap (λ k. merged (look old (child_at 0 xs high) pk) (look old k pk)) (child_past high 0 0 v ys ay.rise far)
    ∙ ap (λ w. both_at old xs ys w pk) (sym is)

-- parts up to the highest value are those of both together
pub both_all : (old st : StoreState) (f e : ℕ) (xs ys ps : List (ℕ × ℕ)) → Built (both_at old xs ys) st f (e + 1) ps →
    Grows old st → AreParts old f xs → AreParts old f ys → e ≡ get_or old.maxes f 0 →
    HaveParts st f (both_at old xs ys) ps
both_all old st f e xs ys ps built g ax ay is = record {
  parts = built_parts (both_at old xs ys) st f e ps built ax.field (is ∙ ap (λ ms. get_or ms f 0) (sym g.maxes));
  leaf = built_leaf (both_at old xs ys) st f e ps built (both_past old f e xs ys ax ay is);
}

-- what is made of places is the same where it is the same at each
pub places_same : (F G : ℕ → List Out) (from n : ℕ) → ((k : ℕ) → from ≤ k → k < from + n → F k ≡ G k) →
    over_places F from n ≡ over_places G from n
places_same F G from zero h = refl
places_same F G from (suc n) h =
    ap (λ x. merged x (over_places F (from + 1) n)) (h from (omega arith) (omega arith))
    ∙ ap (λ y. merged (G from) y) (places_same F G (from + 1) n (λ k a b. h k (omega (arith, a)) (omega (arith, b))))

-- what holds of all nodes of a store
abbrev pub AreNodes : StoreState → Type 0
AreNodes st = (d : ℕ) → IsId st d → IsNodeOf st d (node_of st d)

-- each of the diagrams splits by the field
pub from_split : (st : StoreState) (f : ℕ) (ds : List ℕ) (k : ℕ) → AreNodes st → AreIds st ds → AreFrom st f ds → f < 18 →
    k < length ds → IsSplit st f (get_or ds k 0)
from_split st f ds k nodes ids from h l =
    let d = get_or ds k 0 in
    split_at st f d (node_of st d) (ids k l) refl (nodes d (ids k l)) (from k l) h

-- a leaf at a value stays in a store that grew
pub leaf_grows : (old new : StoreState) (f : ℕ) (ds : List ℕ) (v : ℕ) (pk : List ℕ) (k : ℕ) → Grows old new →
    IsId old (get_or ds k 0) → IsSplit old f (get_or ds k 0) → cofactor_leaf new f ds v pk k ≡ cofactor_leaf old f ds v pk k
leaf_grows old new f ds v pk k g i s =
    let d = get_or ds k 0 in
    ap (λ c. look new c pk) (cofactor_grows old new f v d g i) ∙ g.leaves (cofactor old f v d) pk (s.child v).id

-- the parts of a single diagram
pub one_sum : (st : StoreState) (f : ℕ) (ds : List ℕ) (from n d : ℕ) (ps : List (ℕ × ℕ)) → n ≡ 1 → d ≡ get_or ds from 0 →
    HaveParts st f (λ v pk. look st (cofactor st f v d) pk) ps →
    HaveParts st f (λ v pk. over_places (cofactor_leaf st f ds v pk) from n) ps
one_sum st f ds from n d ps e is h = record {
  parts = h.parts;
  leaf = λ v pk w.
      h.leaf v pk w ∙ ap (λ k. look st (cofactor st f v k) pk) is ∙ sym (merged-nil (cofactor_leaf st f ds v pk from))
      ∙ ap (λ m. over_places (cofactor_leaf st f ds v pk) from m) (sym e);
}

-- the parts of two halves together are those of the whole
pub halves_sum : (old s1 s2 s3 : StoreState) (f : ℕ) (ds : List ℕ) (from middle to : ℕ) (left right ps : List (ℕ × ℕ)) →
    Grows old s1 → Grows s1 s2 → AreNodes old → AreTidy old → AreIds old ds → AreFrom old f ds → f < 18 →
    from ≤ middle → middle ≤ to → to ≤ length ds →
    HaveParts s1 f (λ v pk. over_places (cofactor_leaf old f ds v pk) from (middle - from)) left →
    HaveParts s2 f (λ v pk. over_places (cofactor_leaf s1 f ds v pk) middle (to - middle)) right →
    HaveParts s3 f (both_at s2 left right) ps →
    HaveParts s3 f (λ v pk. over_places (cofactor_leaf old f ds v pk) from (to - from)) ps
halves_sum old s1 s2 s3 f ds from middle to left right ps g h nodes tidy ids first lt a b e hl hr hp = record {
  parts = hp.parts;
  leaf = λ v pk w.
      let F = cofactor_leaf old f ds v pk in
      let at : middle ≡ from + (middle - from) = omega arith in
      let count : (middle - from) + (to - middle) ≡ to - from = omega arith in
      hp.leaf v pk w
      ∙ ap (λ x. merged x (look s2 (child_at 0 right v) pk)) (h.leaves (child_at 0 left v) pk (child_of s1 f left v hl.parts).id ∙ hl.leaf v pk w)
      ∙ ap (λ y. merged (over_places F from (middle - from)) y)
      (hr.leaf v pk w
      ∙ places_same (cofactor_leaf s1 f ds v pk) F middle (to - middle)
      (λ k x y. leaf_grows old s1 f ds v pk k g (ids k (omega (arith, y))) (from_split old f ds k nodes ids first lt (omega (arith, y))))
      ∙ ap (λ k. over_places F k (to - middle)) at)
      ∙ places_halves F from (middle - from) (to - middle) (λ k. (tidy (cofactor old f v (get_or ds k 0))).sorted pk)
      ∙ ap (λ n. over_places F from n) count;
}

-- the leaves at a packet's own value are the diagrams' leaves
over_unions : (old : StoreState) (f : ℕ) (ds : List ℕ) (pk : List ℕ) (from n : ℕ) → AreNodes old → AreIds old ds →
    AreFrom old f ds → f < 18 → from + n ≤ length ds →
    over_places (cofactor_leaf old f ds (get_or pk f 0) pk) from n ≡ unions old ds from n pk
over_unions old f ds pk from zero nodes ids first lt l = refl
over_unions old f ds pk from (suc n) nodes ids first lt l =
    ap (λ x. merged x (over_places (cofactor_leaf old f ds (get_or pk f 0) pk) (from + 1) n))
    (sym ((from_split old f ds from nodes ids first lt (omega (arith, l))).leaf pk))
    ∙ ap (λ y. merged (look old (get_or ds from 0) pk) y) (over_unions old f ds pk (from + 1) n nodes ids first lt (omega (arith, l)))

-- the node of all parts has all leaves together
pub sum_all : (old st new : StoreState) (f : ℕ) (ds : List ℕ) (ps : List (ℕ × ℕ)) (n d : ℕ) → AreNodes old →
    AreIds old ds → AreFrom old f ds → f < 18 → n ≡ length ds →
    HaveParts st f (λ v pk. over_places (cofactor_leaf old f ds v pk) 0 n) ps →
    HasLeaves new d (λ pk. look st (child_at 0 ps (get_or pk f 0)) pk) →
    HasLeaves new d (λ pk. unions old ds 0 (length ds) pk)
sum_all old st new f ds ps n d nodes ids first lt is hp gd = record {
  id = gd.id;
  leaf = λ pk w.
      gd.leaf pk w ∙ hp.leaf (get_or pk f 0) pk w ∙ over_unions old f ds pk 0 n nodes ids first lt (omega (arith, is))
      ∙ ap (λ m. unions old ds 0 m pk) is;
}

-- the parts of a diagram that tests the field first
pub case_parts : (st : StoreState) (f d : ℕ) (ps : List (ℕ × ℕ)) → node_of st d ≡ Case f ps → IsCase st d f ps →
    HaveParts st f (λ v pk. look st (cofactor st f v d) pk) ps
case_parts st f d ps n c =
    record { parts = c.parts_ok; leaf = λ v pk w. ap (λ k. look st k pk) (sym (cofactor-case st f v d ps n)) }

-- the one part of a diagram that is itself at each value
pub whole_parts : (st : StoreState) (f d : ℕ) (ps : List (ℕ × ℕ)) → ((w : ℕ) → cofactor st f w d ≡ d) →
    HaveParts st f (λ v pk. look st d pk) ps → HaveParts st f (λ v pk. look st (cofactor st f v d) pk) ps
whole_parts st f d ps s h =
    record { parts = h.parts; leaf = λ v pk w. h.leaf v pk w ∙ ap (λ k. look st k pk) (sym (s v)) }

-- none of the first n diagrams tests a field before f
abbrev pub AreFromTo : StoreState → ℕ → List ℕ → ℕ → Type 0
AreFromTo st f ds n = (k : ℕ) → k < n → f ≤ root_field st (get_or ds k 0)

-- the part that is found has a child by the field
pub found_child : (old : StoreState) (f from : ℕ) (xs : List (ℕ × ℕ)) (p : ℕ × ℕ) → AreParts old f xs →
    from ≤ get_or old.maxes f 0 → p ≡ found_in (0, 0) xs from → IsChild old f p.1
found_child old f from xs p a low is =
    let s = found_serves (get_or old.maxes f 0) 0 0 from (0, 0) xs a.rise (omega arith) low in
    subst (λ (q : ℕ × ℕ). IsChild old f q.1) (sym is) (subst (IsChild old f) (s.same from (omega arith) s.from) (child_of old f xs from a))
