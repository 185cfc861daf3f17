-- Finals that are marked and then made exact: they are those that are made exact and then marked.
use Rattle.std.proofs.Common.{◌≡◌, ℕ, inl, refl, sym, ◌∙◌, ap, subst, List, [], ◌∷◌, Option, None, Some}
use Rattle.nk_store.specs.declared.node.Out.{Out}
use Rattle.nk_store.specs.Leaves.{Strict}
use Rattle.nk_store.specs.StoreState.{StoreState, look, HasLeaves}
use Rattle.nk_apply.proofs.Members.{Has, gathered_has, has_gathered, gathered_strict, strict_same}
use Rattle.nk_determ.specs.Exact.{exact, exact_out, split_leaf}
use Rattle.nk_determ.specs.Targets.{option_out, out_by_table, retargeted}
use Rattle.nk_reach.specs.Sides.{finals_of_side}
use Rattle.nk_reach.proofs.Meanings.{to, only, marked_has, has_marked}

-- at most one out ascends strictly
option_strict : (g : List (ℕ × ℕ)) (t : Option ℕ) → Strict (option_out g t)
option_strict g None = tt
option_strict g (Some x) = (tt, tt)

-- what is made exact of the marked finals is a marked final that was made exact
marked_then : (maxes pk : List ℕ) (mark : ℕ) (os : List Out) (o : Out) → Has (split_leaf maxes pk (retargeted (Some mark ∷ []) os)) o → Has (retargeted (Some mark ∷ []) (split_leaf maxes pk os)) o
marked_then maxes pk mark os o h =
    let w = has_gathered (λ x. exact_out maxes pk x ∷ []) (retargeted (Some mark ∷ []) os) o h in
    let p : Out = w.0 in
    let m = marked_has mark os p w.1 in
    let is : exact_out maxes pk p ≡ o = only w.2 in
    let made : to (exact maxes pk p.act) mark ≡ o = ap (λ t. to (exact maxes pk p.act) t) (sym m.0) ∙ is in
    subst (λ (x : Out). Has (retargeted (Some mark ∷ []) (split_leaf maxes pk os)) x) made
    (has_marked mark (split_leaf maxes pk os) (exact maxes pk p.act) (gathered_has (λ x. exact_out maxes pk x ∷ []) os (to p.act 0) (to (exact maxes pk p.act) 0) m.1 (inl refl)))

-- and the other way round
marked_before : (maxes pk : List ℕ) (mark : ℕ) (os : List Out) (o : Out) → Has (retargeted (Some mark ∷ []) (split_leaf maxes pk os)) o → Has (split_leaf maxes pk (retargeted (Some mark ∷ []) os)) o
marked_before maxes pk mark os o h =
    let m = marked_has mark (split_leaf maxes pk os) o h in
    let w = has_gathered (λ x. exact_out maxes pk x ∷ []) os (to o.act 0) m.1 in
    let q : Out = w.0 in
    let is : exact_out maxes pk q ≡ to o.act 0 = only w.2 in
    let act : exact maxes pk q.act ≡ o.act = ap (λ (x : Out). x.act) is in
    let zero_is : q.target ≡ 0 = ap (λ (x : Out). x.target) is in
    let final : Has os (to q.act 0) = subst (λ (x : Out). Has os x) (ap (λ t. to q.act t) zero_is) w.1 in
    let made : to (exact maxes pk q.act) mark ≡ o = ap (λ g. to g mark) act ∙ ap (λ t. to o.act t) (sym m.0) in
    subst (λ (x : Out). Has (split_leaf maxes pk (retargeted (Some mark ∷ []) os)) x) made
    (gathered_has (λ x. exact_out maxes pk x ∷ []) (retargeted (Some mark ∷ []) os) (to q.act mark) (to (exact maxes pk q.act) mark) (has_marked mark os q.act final) (inl refl))

-- both are one list
marked_first : (maxes pk : List ℕ) (mark : ℕ) (os : List Out) → split_leaf maxes pk (retargeted (Some mark ∷ []) os) ≡ retargeted (Some mark ∷ []) (split_leaf maxes pk os)
marked_first maxes pk mark os =
    strict_same (split_leaf maxes pk (retargeted (Some mark ∷ []) os)) (retargeted (Some mark ∷ []) (split_leaf maxes pk os))
    (gathered_strict (λ x. exact_out maxes pk x ∷ []) (retargeted (Some mark ∷ []) os) (λ o. (tt, tt)))
    (gathered_strict (out_by_table (Some mark ∷ [])) (split_leaf maxes pk os) (λ o. option_strict _ _))
    (marked_then maxes pk mark os) (marked_before maxes pk mark os)

-- the ends of a diagram, marked and split
pub marked_of : (st s1 s2 : StoreState) (d e r mark : ℕ) (table : List (Option ℕ)) → table ≡ Some mark ∷ [] → s1.maxes ≡ st.maxes → HasLeaves s1 e (λ pk. retargeted table (look st d pk)) →
    HasLeaves s2 r (λ pk. split_leaf s1.maxes pk (look s1 e pk)) → HasLeaves s2 r (λ pk. finals_of_side st d mark pk)
marked_of st s1 s2 d e r mark table is same h k = record {
  id = k.id;
  leaf = λ pk w.
      k.leaf pk w ∙ ap (λ (ms : List ℕ). split_leaf ms pk (look s1 e pk)) same
      ∙ ap (λ os. split_leaf st.maxes pk os) (h.leaf pk w ∙ ap (λ t. retargeted t (look st d pk)) is)
      ∙ marked_first st.maxes pk mark (look st d pk);
}
