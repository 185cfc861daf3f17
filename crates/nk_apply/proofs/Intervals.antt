-- What many diagrams are together, interval by interval.
use Rattle.std.proofs.Common.{◌≡◌, ℕ, zero, suc, ◌+◌, ◌<◌, ◌≤◌, min, List, [], ◌∷◌, ◌++◌, length, take, refl, sym, ◌∙◌, ap, subst, arith, get_or, inl, inr}
use Rattle.std.proofs.lemmas.Bool.Decides.{leb_tells}
use Rattle.std.proofs.lemmas.List.{get_or-map, length-map, map_more}
use Rattle.nk_store.specs.declared.node.Out.{Out}
use Rattle.nk_store.specs.StoreState.{StoreState, IsId, look, root_field, Grows, HasLeaves}
use Rattle.nk_apply.specs.Leaves.{merged}
use Rattle.nk_apply.specs.Cofactors.{cofactor, IsPart}
use Rattle.nk_apply.specs.Unions.{AreIds, AreFrom, AreSteady, HaveParts, cofactor_leaf, over_places, cofactors, unions}
use Rattle.nk_apply.proofs.Built.{Built, built_push, built_parts, built_leaf}
use Rattle.nk_apply.proofs.PartSums.{AreNodes, from_split, leaf_grows, places_same}

-- each of the first n diagrams is at the values of f from v to e what it is at v
abbrev pub AreSteadyTo : StoreState → ℕ → List ℕ → ℕ → ℕ → ℕ → Type 0
AreSteadyTo st f ds n v e = (k w : ℕ) → k < n → v ≤ w → w ≤ e → cofactor st f w (get_or ds k 0) ≡ cofactor st f v (get_or ds k 0)

-- up to the end of one diagram's part more
pub steady_more : (st : StoreState) (f : ℕ) (ds : List ℕ) (n d v e next : ℕ) (p : ℕ × ℕ) → AreSteadyTo st f ds n v e →
    d ≡ get_or ds n 0 → IsPart st f d v p → next ≡ min e p.0 → AreSteadyTo st f ds (n + 1) v next
steady_more st f ds n d v e next p so is part to k w l a b =
    elim (leb_tells n k) [
      | inl last ↦
          let here : n ≡ k = omega (arith, l, last.1) in
          let at : d ≡ get_or ds k 0 = is ∙ ap (λ j. get_or ds j 0) here in
          subst (λ c. cofactor st f w c ≡ cofactor st f v c) at
          (part.same w a (omega (arith, b, to)) ∙ sym (part.same v (omega arith) part.from))
      | inr before ↦ so k w before.1 a (omega (arith, b, to))
    ]

-- what one of them is at a value
cofactor_read : (st : StoreState) (f v : ℕ) (ds cs : List ℕ) (k : ℕ) → cs ≡ cofactors st f v ds → k < length ds →
    get_or cs k 0 ≡ cofactor st f v (get_or ds k 0)
cofactor_read st f v ds cs k is l = ap (λ xs. get_or xs k 0) is ∙ get_or-map (cofactor st f v) ds k 0 0 l

-- they are as many as the diagrams
pub cofactors_long : (st : StoreState) (f v : ℕ) (ds cs : List ℕ) → cs ≡ cofactors st f v ds → length cs ≡ length ds
cofactors_long st f v ds cs is = ap (λ xs. length xs) is ∙ length-map ds (cofactor st f v)

-- what a diagram is at a value is one of the store
pub cofactors_ids : (st : StoreState) (f v : ℕ) (ds cs : List ℕ) → AreNodes st → AreIds st ds → AreFrom st f ds → f < 18 →
    cs ≡ cofactors st f v ds → AreIds st cs
cofactors_ids st f v ds cs nodes ids first lt is k l =
    let long = cofactors_long st f v ds cs is in
    subst (IsId st) (sym (cofactor_read st f v ds cs k is (omega (arith, l, long)))) ((from_split st f ds k nodes ids first lt (omega (arith, l, long))).child v).id

-- and tests later fields
pub cofactors_later : (st : StoreState) (f v : ℕ) (ds cs : List ℕ) → AreNodes st → AreIds st ds → AreFrom st f ds → f < 18 →
    cs ≡ cofactors st f v ds → AreFrom st (f + 1) cs
cofactors_later st f v ds cs nodes ids first lt is k l =
    let long = cofactors_long st f v ds cs is in
    subst (λ c. f + 1 ≤ root_field st c) (sym (cofactor_read st f v ds cs k is (omega (arith, l, long)))) (omega (arith, ((from_split st f ds k nodes ids first lt (omega (arith, l, long))).child v).later))

-- they together are what the diagrams are together at the value
cofactors_unions : (st : StoreState) (f v : ℕ) (ds cs : List ℕ) (pk : List ℕ) (from n : ℕ) → cs ≡ cofactors st f v ds → from + n ≤ length ds →
    unions st cs from n pk ≡ over_places (cofactor_leaf st f ds v pk) from n
cofactors_unions st f v ds cs pk from zero is l = refl
cofactors_unions st f v ds cs pk from (suc n) is l =
    ap (λ c. merged (look st c pk) (unions st cs (from + 1) n pk)) (cofactor_read st f v ds cs from is (omega (arith, l)))
    ∙ ap (λ os. merged (cofactor_leaf st f ds v pk from) os) (cofactors_unions st f v ds cs pk (from + 1) n is (omega (arith, l)))

-- and so are the leaves of all of them
pub cofactors_leaves : (st new : StoreState) (f v : ℕ) (ds cs : List ℕ) (d : ℕ) → cs ≡ cofactors st f v ds →
    HasLeaves new d (λ pk. unions st cs 0 (length cs) pk) →
    HasLeaves new d (λ pk. over_places (cofactor_leaf st f ds v pk) 0 (length ds))
cofactors_leaves st new f v ds cs d is h = record {
  id = h.id;
  leaf = λ pk w.
      let long = cofactors_long st f v ds cs is in
      h.leaf pk w ∙ cofactors_unions st f v ds cs pk 0 (length cs) is (omega (arith, long)) ∙ ap (λ n. over_places (cofactor_leaf st f ds v pk) 0 n) long;
}

-- the leaves at the values of f together
abbrev pub all_at : StoreState → ℕ → List ℕ → ℕ → List ℕ → List Out
all_at st f ds v pk = over_places (cofactor_leaf st f ds v pk) 0 (length ds)

-- the diagrams stay in a store that grew
pub ids_grow : (old new : StoreState) (ds : List ℕ) → Grows old new → AreIds old ds → AreIds new ds
ids_grow old new ds g ids k l = g.ids (get_or ds k 0) (ids k l)

-- and test no earlier field
pub first_grows : (old new : StoreState) (f : ℕ) (ds : List ℕ) → Grows old new → AreIds old ds → AreFrom old f ds → AreFrom new f ds
first_grows old new f ds g ids first k l = subst (λ t. f ≤ t) (sym (g.root_fields (get_or ds k 0) (ids k l))) (first k l)

-- a value of the field stays one in a store that grew
pub low_grows : (old new : StoreState) (f from max : ℕ) → Grows old new → max ≡ get_or old.maxes f 0 → from ≤ max →
    from ≤ get_or new.maxes f 0
low_grows old new f from max g is l =
    let same : get_or new.maxes f 0 ≡ get_or old.maxes f 0 = ap (λ ms. get_or ms f 0) g.maxes in
    omega (arith, same, is, l)

-- one interval more
pub all_push : (old st new : StoreState) (f from e d : ℕ) (ds : List ℕ) (ps : List (ℕ × ℕ)) →
    Built (all_at old f ds) st f from ps → Grows old st → Grows st new → AreNodes old → AreIds old ds → AreFrom old f ds →
    f < 18 → from ≤ e → AreSteady st f ds from e → f < root_field new d → HasLeaves new d (λ pk. all_at st f ds from pk) →
    Built (all_at old f ds) new f (e + 1) (ps ++ (e, d) ∷ [])
all_push old st new f from e d ds ps built g h nodes ids first lt low steady later leaves =
    built_push (all_at old f ds) st new f from ps d e built h low (record { id = leaves.id; later = later })
    (λ v pk w l m. leaves.leaf pk w
    ∙ places_same (cofactor_leaf st f ds from pk) (cofactor_leaf old f ds v pk) 0 (length ds)
    (λ k a b. ap (λ c. look st c pk) (sym (steady k v (omega (arith, b)) l m))
    ∙ leaf_grows old st f ds v pk k g (ids k (omega (arith, b))) (from_split old f ds k nodes ids first lt (omega (arith, b)))))

-- values past the highest count as the highest
all_past : (old : StoreState) (f e : ℕ) (ds : List ℕ) → AreNodes old → AreIds old ds → AreFrom old f ds → f < 18 →
    e ≡ get_or old.maxes f 0 → (v : ℕ) (pk : List ℕ) → e ≤ v → all_at old f ds v pk ≡ all_at old f ds e pk
all_past old f e ds nodes ids first lt is v pk l =
    places_same (cofactor_leaf old f ds v pk) (cofactor_leaf old f ds e pk) 0 (length ds)
    (λ k a b. ap (λ c. look old c pk)
    ((from_split old f ds k nodes ids first lt (omega (arith, b))).past v (omega (arith, l, is))
    ∙ ap (λ x. cofactor old f x (get_or ds k 0)) (sym is)))

-- parts up to the highest value are those of all together
pub all_whole : (old st : StoreState) (f e : ℕ) (ds : List ℕ) (ps : List (ℕ × ℕ)) → Built (all_at old f ds) st f (e + 1) ps →
    Grows old st → AreNodes old → AreIds old ds → AreFrom old f ds → f < 18 → e ≡ get_or old.maxes f 0 →
    HaveParts st f (all_at old f ds) ps
all_whole old st f e ds ps built g nodes ids first lt is = record {
  parts = built_parts (all_at old f ds) st f e ps built lt (is ∙ ap (λ ms. get_or ms f 0) (sym g.maxes));
  leaf = built_leaf (all_at old f ds) st f e ps built (all_past old f e ds nodes ids first lt is);
}

-- what one diagram more is at the value
pub cofactors_more : (st : StoreState) (f v i d : ℕ) (ds so_far before : List ℕ) (p : ℕ × ℕ) → i < length ds → d ≡ get_or ds i 0 →
    IsPart st f d v p → before ≡ cofactors st f v (take i ds) → so_far ≡ before ++ p.1 ∷ [] →
    so_far ≡ cofactors st f v (take (i + 1) ds)
cofactors_more st f v i d ds so_far before p l is part e more =
    more ∙ ap (λ xs. xs ++ p.1 ∷ []) e
    ∙ ap (λ c. cofactors st f v (take i ds) ++ c ∷ []) (sym (part.same v (omega arith) part.from) ∙ ap (λ k. cofactor st f v k) is)
    ∙ sym (map_more (cofactor st f v) ds i 0 l)
