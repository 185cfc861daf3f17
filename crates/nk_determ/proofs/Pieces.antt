-- A diagram cut by a field at the values that its acts assign to the field.
use Rattle.std.proofs.Common.{◌≡◌, ℕ, ◌+◌, ◌<◌, ◌≤◌, min, Bool, true, false, cond, List, [], ◌∷◌, ◌++◌, refl, sym, ◌∙◌, ap, subst, arith, get_or, set}
use Rattle.std.specs.List.{Contains}
use Rattle.std.proofs.lemmas.List.{get_or-set_same}
use Rattle.nk_store.specs.declared.node.Out.{Out}
use Rattle.nk_store.specs.Nodes.{child_at}
use Rattle.nk_store.specs.StoreState.{StoreState, IsId, look, root_field, Grows, HasLeaves, IsWhole, IsStill, AreTidy}
use Rattle.nk_apply.specs.Cofactors.{cofactor, IsPart, IsSplit}
use Rattle.nk_apply.proofs.Built.{Built, built_push, part_old}
use Rattle.nk_determ.specs.Unchanged.{leaf_without, leaf_changing, leaf_values, HasValues}
use Rattle.nk_determ.proofs.Withouts.{leaf_stays}

-- the leaf at the value v of f; a value past the highest counts as the highest
abbrev pub piece_leaf : StoreState → ℕ → ℕ → ℕ → List ℕ → List Out
piece_leaf old f d v pk = leaf_without f (min v (get_or old.maxes f 0)) (look old (cofactor old f v d) pk)

-- what a diagram is at a value has the leaf that the diagram has there
at_value : (st : StoreState) (f d v : ℕ) (pk : List ℕ) → IsSplit st f d → IsStill st (cofactor st f v d) → f < 18 → IsWhole pk →
    look st (cofactor st f v d) pk ≡ look st d (set pk f v)
at_value st f d v pk s still h w =
    let is : get_or (set pk f v) f 0 ≡ v = get_or-set_same pk f v 0 (omega (arith, h, w)) in
    sym (still.leaf f v pk (s.child v).later)
    ∙ ap (λ x. look st (cofactor st f x d) (set pk f v)) (sym is)
    ∙ sym (s.leaf (set pk f v))

-- what is known of a diagram whose pieces are made
pub record IsCutBy (old : StoreState) (f d : ℕ) (vs : List ℕ) : Type 0 where
  pub id : IsId old d
  pub field : f < 18
  pub split : IsSplit old f d
  pub values : HasValues f vs old d
  pub tidy : AreTidy old
  pub still : (c : ℕ) → IsId old c → IsStill old c

-- one piece more
pub piece_push : (old st new : StoreState) (f d from end : ℕ) (vs : List ℕ) (parts : List (ℕ × ℕ)) (p : ℕ × ℕ) (r : ℕ)
    (alone : Bool) → Built (piece_leaf old f d) st f from parts → Grows old st → Grows st new → IsCutBy old f d vs →
    IsPart st f d from p →
    HasLeaves new r (λ pk. cond alone (leaf_without f from (look st p.1 pk)) (look st p.1 pk)) → root_field st p.1 ≤ root_field new r →
    from ≤ end → end ≤ p.0 → (alone ≡ true → end ≡ from) →
    (alone ≡ false → (v : ℕ) → Contains vs v → from ≤ v → end < v) →
    Built (piece_leaf old f d) new f (end + 1) (parts ++ (end, r) ∷ [])
piece_push old st new f d from end vs parts p r alone built g h known part leaves later low high one none =
    built_push (piece_leaf old f d) st new f from parts r end built h low
    (record { id = leaves.id; later = omega (arith, later, part.child.later) })
    (λ v pk w l m.
    let most : get_or st.maxes f 0 ≡ get_or old.maxes f 0 = ap (λ ms. get_or ms f 0) g.maxes in
    let is : v ≡ min v (get_or old.maxes f 0) = omega (arith, m, high, part.within, most) in
    let at : look st p.1 pk ≡ look old (cofactor old f v d) pk = part_old old st f d from v p pk g known.id known.split part l (omega (arith, m, high)) in
    leaves.leaf pk w
    ∙ ap (λ os. cond alone (leaf_without f from os) os) at
    ∙ by v pk w l m alone one none
    ∙ ap (λ n. leaf_without f n (look old (cofactor old f v d) pk)) is)
  where
    by : (v : ℕ) (pk : List ℕ) → IsWhole pk → from ≤ v → v ≤ end → (b : Bool) → (b ≡ true → end ≡ from) →
        (b ≡ false → (n : ℕ) → Contains vs n → from ≤ n → end < n) →
        cond b (leaf_without f from (look old (cofactor old f v d) pk)) (look old (cofactor old f v d) pk)
        ≡ leaf_without f v (look old (cofactor old f v d) pk)
    by v pk w l m true is after =
        let e = is refl in
        ap (λ n. leaf_without f n (look old (cofactor old f v d) pk)) (omega (arith, e, l, m))
    by v pk w l m false is after =
        let c = cofactor old f v d in
        let here = at_value old f d v pk known.split (known.still c (known.split.child v).id) known.field w in
        sym (leaf_stays f v (look old c pk) ((known.tidy c).sorted pk)
        (λ k.
        let among = known.values (set pk f v) v (subst (λ os. Contains (leaf_values f os) v) here k) in
        let far = after refl v among l in
        omega (arith, far, m)))

-- values past the highest count as the highest
pub piece_past : (old : StoreState) (f d e : ℕ) → IsSplit old f d → e ≡ get_or old.maxes f 0 → (v : ℕ) (pk : List ℕ) → e ≤ v →
    piece_leaf old f d v pk ≡ piece_leaf old f d e pk
piece_past old f d e s is v pk l =
    ap (λ x. leaf_without f (min v (get_or old.maxes f 0)) (look old x pk)) (s.past v (omega (arith, l, is)))
    ∙ ap (λ n. leaf_without f n (look old (cofactor old f (get_or old.maxes f 0) d) pk)) (omega (arith, l, is))
    ∙ ap (λ x. leaf_without f (min x (get_or old.maxes f 0)) (look old (cofactor old f x d) pk)) (sym is)

-- the pieces put together
pub pieces_made : (old s1 s2 : StoreState) (f d r : ℕ) (ps : List (ℕ × ℕ)) → IsSplit old f d →
    ((v : ℕ) (pk : List ℕ) → IsWhole pk → look s1 (child_at 0 ps v) pk ≡ piece_leaf old f d v pk) →
    HasLeaves s2 r (λ pk. look s1 (child_at 0 ps (get_or pk f 0)) pk) →
    HasLeaves s2 r (λ pk. leaf_changing old.maxes f pk (look old d pk))
pieces_made old s1 s2 f d r ps s all h = record {
  id = h.id;
  leaf = λ pk w. h.leaf pk w ∙ all (get_or pk f 0) pk w ∙ ap (λ os. leaf_changing old.maxes f pk os) (sym (s.leaf pk));
}
