-- A choice between diagrams, value by value of the first field that it tests.
use Rattle.std.proofs.Common.{◌≡◌, ℕ, suc, ◌+◌, ◌<◌, ◌≤◌, min, Bool, true, false, cond, leb, List, [], ◌∷◌, ◌++◌, length, refl, sym, ◌∙◌, ap, subst, arith, get_or, take, Option, Some}
use Rattle.std.specs.Map.{lookup}
use Rattle.std.specs.Option.{unwrap_or}
use Rattle.std.specs.Cmp.Lexicographic.{pointwise_decides}
use Rattle.std.proofs.Math.Seq.{take-suc}
use Rattle.nk_store.specs.declared.node.Out.{Out}
use Rattle.nk_store.specs.Nodes.{child_at, joined, Rises, Each}
use Rattle.nk_store.specs.StoreState.{StoreState, IsId, node_of, look, root_field, Grows, HasLeaves, IsChild, IsNodeOf}
use Rattle.nk_store.proofs.Looks.{each_child, each_weaker}
use Rattle.nk_store.proofs.NodeEq.{pair_decides}
use Rattle.nk_store.proofs.Joins.{joined_child, joined_rises, joined_each}
use Rattle.nk_store.proofs.Stores.{grows_same}
use Rattle.nk_apply.specs.Cofactors.{cofactor, found_in, IsPart, IsSplit}
use Rattle.nk_algebra.specs.Choices.{AreChoices, first_of, part_cofactors, IsCut, IsChosen, parts_eq, AreChosen}
use Rattle.nk_apply.proofs.Parts.{Serves, found_serves, child_past, split_at}
use Rattle.nk_apply.proofs.Built.{Built, built_push, each_push, cofactor_grows}
use Rattle.nk_algebra.proofs.Chosen.{choices_some, choices_grown}

-- the first field is not after the choice's own
pub first_most : (st : StoreState) (f : ℕ) (ps : List (ℕ × ℕ)) → first_of st f ps ≤ f
first_most st f [] = omega arith
first_most st f (p ∷ ps) = omega (arith, first_most st (min f (root_field st p.1)) ps)

-- no part tests a field before the first one
pub first_each : (st : StoreState) (f g : ℕ) (ps : List (ℕ × ℕ)) → g ≡ first_of st f ps → Each (λ c. g ≤ root_field st c) ps
first_each st f g [] e = tt
first_each st f g (p ∷ ps) e =
    (omega (arith, e, first_most st (min f (root_field st p.1)) ps), first_each st (min f (root_field st p.1)) g ps e)

-- where all parts test later fields than one before the choice's, the first one is later
pub first_later : (st : StoreState) (f g : ℕ) (ps : List (ℕ × ℕ)) → g < f → Each (IsChild st g) ps → g < first_of st f ps
first_later st f g [] l e = l
first_later st f g (p ∷ ps) l e = first_later st (min f (root_field st p.1)) g ps (omega (arith, l, e.0.later)) e.1

-- at a value of a field the parts end where they did
cofactors_rise : (st : StoreState) (g v high low : ℕ) (ps : List (ℕ × ℕ)) → Rises high low ps → Rises high low (part_cofactors st g v ps)
cofactors_rise st g v high low [] r = r
cofactors_rise st g v high low (p ∷ ps) r = (r.0, r.1, cofactors_rise st g v high (p.0 + 1) ps r.2)

-- their child is what the child was at that value
cofactors_child : (st : StoreState) (g v d w : ℕ) (ps : List (ℕ × ℕ)) →
    child_at (cofactor st g v d) (part_cofactors st g v ps) w ≡ cofactor st g v (child_at d ps w)
cofactors_child st g v d w [] = refl
cofactors_child st g v d w (p ∷ ps) =
    elim (leb w p.0) as (λ b. cond b (cofactor st g v p.1) (child_at (cofactor st g v p.1) (part_cofactors st g v ps) w) ≡ cofactor st g v (cond b p.1 (child_at p.1 ps w))) [
      | true ↦ refl
      | false ↦ cofactors_child st g v p.1 w ps
    ]

-- the child of parts that are some is what the child was at that value
cofactors_at : (st : StoreState) (g v w : ℕ) (ps : List (ℕ × ℕ)) → 0 < length ps →
    child_at 0 (part_cofactors st g v ps) w ≡ cofactor st g v (child_at 0 ps w)
cofactors_at st g v w [] l = absurd (omega (arith, l))
cofactors_at st g v w (p ∷ ps) l =
    elim (leb w p.0) as (λ b. cond b (cofactor st g v p.1) (child_at (cofactor st g v p.1) (part_cofactors st g v ps) w) ≡ cofactor st g v (cond b p.1 (child_at p.1 ps w))) [
      | true ↦ refl
      | false ↦ cofactors_child st g v p.1 w ps
    ]

cofactors_push : (st : StoreState) (g v : ℕ) (p : ℕ × ℕ) (ps : List (ℕ × ℕ)) →
    part_cofactors st g v (ps ++ p ∷ []) ≡ part_cofactors st g v ps ++ (p.0, cofactor st g v p.1) ∷ []
cofactors_push st g v p [] = refl
cofactors_push st g v p (q ∷ ps) = ap (λ qs. (q.0, cofactor st g v q.1) ∷ qs) (cofactors_push st g v p ps)

-- one part more
pub cut_push : (st : StoreState) (g v end e : ℕ) (ps cut : List (ℕ × ℕ)) (p q : ℕ × ℕ) → IsCut st g v ps (end, cut) →
    IsPart st g p.1 v q → e ≡ min end q.0 → IsCut st g v (ps ++ p ∷ []) (e, cut ++ (p.0, q.1) ∷ [])
cut_push st g v end e ps cut p q c part is = record {
  from = omega (arith, is, c.from, part.from);
  within = omega (arith, is, c.within);
  same = λ w l m. cofactors_push st g w p ps
      ∙ ap (λ qs. qs ++ (p.0, cofactor st g w p.1) ∷ []) (c.same w l (omega (arith, is, m)))
      ∙ ap (λ d. cut ++ (p.0, d) ∷ []) (part.same w l (omega (arith, is, m)));
  children = each_push (IsChild st g) p.0 q.1 cut c.children part.child;
}

-- the parts at a value are parts for a choice
pub cut_choices : (st : StoreState) (f g v : ℕ) (ps : List (ℕ × ℕ)) (p : ℕ × List (ℕ × ℕ)) → AreChoices st f ps →
    IsCut st g v ps p → AreChoices st f p.1
cut_choices st f g v ps p c k =
    let high = get_or st.maxes f 0 in
    record {
      field = c.field;
      rise = subst (λ qs. Rises high 0 qs) (k.same v (omega arith) k.from) (cofactors_rise st g v high 0 ps c.rise);
      ids = each_weaker (IsChild st g) (IsId st) p.1 (λ d h. h.id) k.children;
    }

-- neighbours joined are parts for a choice
pub kept_choices : (st : StoreState) (f : ℕ) (ps kept : List (ℕ × ℕ)) → AreChoices st f ps → kept ≡ joined ps →
    AreChoices st f kept
kept_choices st f ps kept c is =
    let high = get_or st.maxes f 0 in
    subst (AreChoices st f) (sym is) (record {
      field = c.field;
      rise = joined_rises high 0 ps c.rise;
      ids = joined_each (IsId st) ps c.ids;
    })

-- they leave the child of each value
pub kept_child : (st : StoreState) (f : ℕ) (ps kept : List (ℕ × ℕ)) (v : ℕ) → AreChoices st f ps → kept ≡ joined ps →
    child_at 0 kept v ≡ child_at 0 ps v
kept_child st f ps kept v c is =
    ap (λ qs. child_at 0 qs v) is ∙ joined_child (get_or st.maxes f 0) 0 0 ps v c.rise

-- and test later fields where all parts do
pub kept_later : (st : StoreState) (f g : ℕ) (ps kept : List (ℕ × ℕ)) → g < f → kept ≡ joined ps →
    Each (IsChild st g) ps → g < first_of st f kept
kept_later st f g ps kept l is e =
    first_later st f g kept l (subst (Each (IsChild st g)) (sym is) (joined_each (IsChild st g) ps e))

-- the choice between them is the choice
pub kept_leaves : (st new : StoreState) (f d : ℕ) (ps kept : List (ℕ × ℕ)) → AreChoices st f ps → kept ≡ joined ps →
    HasLeaves new d (λ pk. look st (child_at 0 kept (get_or pk f 0)) pk) →
    HasLeaves new d (λ pk. look st (child_at 0 ps (get_or pk f 0)) pk)
kept_leaves st new f d ps kept c is h = record {
  id = h.id;
  leaf = λ pk w. h.leaf pk w ∙ ap (λ n. look st n pk) (kept_child st f ps kept (get_or pk f 0) c is);
}

-- each part's diagram is put together from what it is at each value of a field that is not after its first
pub split_child : (st : StoreState) (f g : ℕ) (ps : List (ℕ × ℕ)) (w : ℕ) → AreChoices st f ps → g ≤ f →
    Each (λ c. g ≤ root_field st c) ps → ((d : ℕ) → IsId st d → IsNodeOf st d (node_of st d)) →
    IsSplit st g (child_at 0 ps w)
split_child st f g ps w c l e nodes =
    let d = child_at 0 ps w in
    let i : IsId st d = each_child (IsId st) 0 ps w (choices_some st f ps c) c.ids in
    let low : g ≤ root_field st d = each_child (λ k. g ≤ root_field st k) 0 ps w (choices_some st f ps c) e in
    split_at st g d (node_of st d) i refl (nodes d i) low (omega (arith, l, c.field))

-- the leaf that the choice by f has where g has the value v
abbrev pub cut_leaf : StoreState → ℕ → ℕ → List (ℕ × ℕ) → ℕ → List ℕ → List Out
cut_leaf old f g ps v pk = look old (cofactor old g v (child_at 0 ps (get_or pk f 0))) pk

-- one part more by an earlier field
pub cuts_push : (old st new : StoreState) (f g from : ℕ) (parts ps kept : List (ℕ × ℕ)) (p : ℕ × List (ℕ × ℕ)) (d : ℕ) →
    Built (cut_leaf old f g parts) st g from ps → Grows old st → Grows st new → AreChoices old f parts →
    ((w : ℕ) → IsSplit old g (child_at 0 parts w)) → g < f → IsCut st g from parts p →
    kept ≡ joined p.1 → HasLeaves new d (λ pk. look st (child_at 0 kept (get_or pk f 0)) pk) → first_of st f kept ≤ root_field new d →
    Built (cut_leaf old f g parts) new g (p.0 + 1) (ps ++ (p.0, d) ∷ [])
cuts_push old st new f g from parts ps kept p d built was h c splits less cut is leaves later =
    let now = cut_choices st f g from parts p (choices_grown old st f parts was c) cut in
    let some : 0 < length parts = choices_some old f parts c in
    built_push (cut_leaf old f g parts) st new g from ps d p.0 built h cut.from
    (record { id = leaves.id; later = omega (arith, later, kept_later st f g p.1 kept less is cut.children) })
    (λ v pk w l m.
    let x = get_or pk f 0 in
    let k = child_at 0 parts x in
    let i : IsId old k = each_child (IsId old) 0 parts x some c.ids in
    leaves.leaf pk w
    ∙ ap (λ n. look st n pk) (kept_child st f p.1 kept x now is)
    ∙ ap (λ qs. look st (child_at 0 qs x) pk) (sym (cut.same v l m))
    ∙ ap (λ n. look st n pk) (cofactors_at st g v x parts some ∙ cofactor_grows old st g v k was i)
    ∙ was.leaves (cofactor old g v k) pk ((splits x).child v).id)

-- values past the highest count as the highest
pub cuts_past : (old : StoreState) (f g e : ℕ) (parts : List (ℕ × ℕ)) → ((w : ℕ) → IsSplit old g (child_at 0 parts w)) →
    e ≡ get_or old.maxes g 0 → (v : ℕ) (pk : List ℕ) → e ≤ v →
    cut_leaf old f g parts v pk ≡ cut_leaf old f g parts e pk
cuts_past old f g e parts splits is v pk l =
    let x = get_or pk f 0 in
    ap (λ n. look old n pk) ((splits x).past v (omega (arith, l, is)))
    ∙ ap (λ w. cut_leaf old f g parts w pk) (sym is)

-- the choice by the earlier field is the whole choice
pub cuts_all : (old st new : StoreState) (f g d : ℕ) (parts ps : List (ℕ × ℕ)) →
    ((w : ℕ) → IsSplit old g (child_at 0 parts w)) →
    ((v : ℕ) (pk : List ℕ) → length pk ≡ 18 → look st (child_at 0 ps v) pk ≡ cut_leaf old f g parts v pk) →
    HasLeaves new d (λ pk. look st (child_at 0 ps (get_or pk g 0)) pk) →
    HasLeaves new d (λ pk. look old (child_at 0 parts (get_or pk f 0)) pk)
cuts_all old st new f g d parts ps splits all h = record {
  id = h.id;
  leaf = λ pk w. h.leaf pk w ∙ all (get_or pk g 0) pk w ∙ sym ((splits (get_or pk f 0)).leaf pk);
}

-- the leaf of the part that holds the value v of f, by what its diagram is there
abbrev pub piece_leaf : StoreState → ℕ → List (ℕ × ℕ) → ℕ → List ℕ → List Out
piece_leaf st f parts v pk = look st (cofactor st f v (child_at 0 parts v)) pk

-- one part more of a part's diagram
pub piece_push : (st : StoreState) (f from e : ℕ) (parts ps : List (ℕ × ℕ)) (p q : ℕ × ℕ) →
    Built (piece_leaf st f parts) st f from ps → Serves (get_or st.maxes f 0) 0 from parts p → IsPart st f p.1 from q →
    e ≡ min p.0 q.0 → Built (piece_leaf st f parts) st f (e + 1) (ps ++ (e, q.1) ∷ [])
piece_push st f from e parts ps p q built serves part is =
    built_push (piece_leaf st f parts) st st f from ps q.1 e built (grows_same st) (omega (arith, is, serves.from, part.from)) part.child
    (λ v pk w l m. ap (λ n. look st n pk) (sym (part.same v l (omega (arith, is, m))) ∙ ap (λ c. cofactor st f v c) (sym (serves.same v l (omega (arith, is, m))))))

-- values past the highest count as the highest
pub piece_past : (st : StoreState) (f e : ℕ) (parts : List (ℕ × ℕ)) → AreChoices st f parts →
    ((w : ℕ) → IsSplit st f (child_at 0 parts w)) → e ≡ get_or st.maxes f 0 → (v : ℕ) (pk : List ℕ) → e ≤ v →
    piece_leaf st f parts v pk ≡ piece_leaf st f parts e pk
piece_past st f e parts c splits is v pk l =
    let high = get_or st.maxes f 0 in
    let far : high ≤ v = omega (arith, l, is) in
    ap (λ n. look st n pk) ((splits v).past v far ∙ ap (λ k. cofactor st f high k) (child_past high 0 0 v parts c.rise far))
    ∙ ap (λ w. piece_leaf st f parts w pk) (sym is)

-- the choice between the pieces is the whole choice
pub piece_all : (old new : StoreState) (f d : ℕ) (parts ps : List (ℕ × ℕ)) →
    ((w : ℕ) → IsSplit old f (child_at 0 parts w)) →
    ((v : ℕ) (pk : List ℕ) → length pk ≡ 18 → look old (child_at 0 ps v) pk ≡ piece_leaf old f parts v pk) →
    HasLeaves new d (λ pk. look old (child_at 0 ps (get_or pk f 0)) pk) →
    HasLeaves new d (λ pk. look old (child_at 0 parts (get_or pk f 0)) pk)
piece_all old new f d parts ps splits all h = record {
  id = h.id;
  leaf = λ pk w. h.leaf pk w ∙ all (get_or pk f 0) pk w ∙ sym ((splits (get_or pk f 0)).leaf pk);
}

-- the parts up to the next one
pub taken : (ps : List (ℕ × ℕ)) (i : ℕ) (p : ℕ × ℕ) → i < length ps → p ≡ get_or ps i p →
    take (i + 1) ps ≡ take i ps ++ p ∷ []
taken ps i p l e =
    let up : i + 1 ≡ suc i = omega arith in
    ap (λ n. take n ps) up ∙ take-suc ps i p l ∙ ap (λ q. take i ps ++ q ∷ []) (sym e)

-- in a store that grew no part tests a field before the first one
pub first_grown : (old st : StoreState) (g : ℕ) (ps : List (ℕ × ℕ)) → Grows old st → Each (IsId old) ps →
    Each (λ c. g ≤ root_field old c) ps → Each (λ c. g ≤ root_field st c) ps
first_grown old st g [] h i e = tt
first_grown old st g (p ∷ ps) h i e = (omega (arith, h.root_fields p.1 i.0, e.0), first_grown old st g ps h i.1 e.1)

-- the part that is found serves
pub found_piece : (st : StoreState) (f from max : ℕ) (parts slice : List (ℕ × ℕ)) (p : ℕ × ℕ) → AreChoices st f parts →
    p ≡ found_in (0, 0) slice from → slice ≡ parts → from ≤ max → max ≡ get_or st.maxes f 0 →
    Serves (get_or st.maxes f 0) 0 from parts p
found_piece st f from max parts slice p c is same l m =
    let high = get_or st.maxes f 0 in
    subst (Serves high 0 from parts) (sym (is ∙ ap (λ ps. found_in (0, 0) ps from) same))
    (found_serves high 0 0 from (0, 0) parts c.rise (omega arith) (omega (arith, l, m)))

-- what holds of each part's diagram holds of the one that serves
pub served : (P : ℕ → Type 0) (st : StoreState) (f from : ℕ) (parts : List (ℕ × ℕ)) (p : ℕ × ℕ) → AreChoices st f parts →
    Each P parts → Serves (get_or st.maxes f 0) 0 from parts p → P p.1
served P st f from parts p c e serves =
    subst P (serves.same from (omega arith) serves.from) (each_child P 0 parts from (choices_some st f parts c) e)

-- the first field stays in a store that grew
first_stays : (old new : StoreState) (f : ℕ) (ps : List (ℕ × ℕ)) → Grows old new → Each (IsId old) ps →
    first_of new f ps ≡ first_of old f ps
first_stays old new f [] g i = refl
first_stays old new f (p ∷ ps) g i =
    first_stays old new (min f (root_field new p.1)) ps g i.1
    ∙ ap (λ t. first_of old (min f t) ps) (g.root_fields p.1 i.0)

-- a choice stays one in a store that grew
chosen_grows : (old new : StoreState) (f : ℕ) (ps : List (ℕ × ℕ)) (d : ℕ) → Grows old new → IsChosen old f ps d →
    IsChosen new f ps d
chosen_grows old new f ps d g k = record {
  choices = choices_grown old new f ps g k.choices;
  leaves = record {
    id = g.ids d k.leaves.id;
    leaf = λ pk w.
        let v = get_or pk f 0 in
        g.leaves d pk k.leaves.id ∙ k.leaves.leaf pk w
        ∙ sym (g.leaves (child_at 0 ps v) pk (each_child (IsId old) 0 ps v (choices_some old f ps k.choices) k.choices.ids));
  };
  later = let a = first_stays old new f ps g k.choices.ids in let b = g.root_fields d k.leaves.id in let l = k.later in omega (arith, a, b, l);
}

-- and so does a table of them
pub chosen_stay : (old new : StoreState) (f : ℕ) (entries : List (List (ℕ × ℕ) × ℕ)) → Grows old new → AreChosen old f entries →
    AreChosen new f entries
chosen_stay old new f entries g are ps d e = chosen_grows old new f ps d g (are ps d e)

-- what was made of parts of an earlier store is a choice now
pub chosen_now : (old new : StoreState) (f : ℕ) (ps : List (ℕ × ℕ)) (d : ℕ) → Grows old new → AreChoices old f ps →
    HasLeaves new d (λ pk. look old (child_at 0 ps (get_or pk f 0)) pk) → first_of old f ps ≤ root_field new d →
    IsChosen new f ps d
chosen_now old new f ps d g c h l = record {
  choices = choices_grown old new f ps g c;
  leaves = record {
    id = h.id;
    leaf = λ pk w.
        let v = get_or pk f 0 in
        h.leaf pk w ∙ sym (g.leaves (child_at 0 ps v) pk (each_child (IsId old) 0 ps v (choices_some old f ps c) c.ids));
  };
  later = let a = first_stays old new f ps g c.ids in omega (arith, a, l);
}

-- a table with one more entry
pub chosen_put : (st : StoreState) (f : ℕ) (ps : List (ℕ × ℕ)) (d : ℕ) (old new : List (List (ℕ × ℕ) × ℕ)) →
    AreChosen st f old → IsChosen st f ps d →
    ((qs : List (ℕ × ℕ)) → lookup (parts_eq qs) new ≡ cond (parts_eq ps qs) (Some d) (lookup (parts_eq qs) old)) →
    AreChosen st f new
chosen_put st f ps d old new are one put qs z e = next (parts_eq ps qs) refl
  where
    next : (b : Bool) → parts_eq ps qs ≡ b → IsChosen st f qs z
    next true t =
        let is : Some d ≡ Some z = sym (put qs ∙ ap (λ b. cond b (Some d) (lookup (parts_eq qs) old)) t) ∙ e in
        let z_is : d ≡ z = ap (λ (o : Option ℕ). unwrap_or o d) is in
        let same : ps ≡ qs = (pointwise_decides pair_decides ps qs).0 t in
        subst (λ ks. IsChosen st f ks z) same (subst (IsChosen st f ps) z_is one)
    next false t = are qs z (sym (put qs ∙ ap (λ b. cond b (Some d) (lookup (parts_eq qs) old)) t) ∙ e)
