-- What a diagram does at the packets of a set, value by value of a field.
use Rattle.std.proofs.Common.{◌≡◌, ℕ, ◌+◌, ◌≤◌, min, List, [], ◌∷◌, ◌++◌, inl, inr, sym, ◌∙◌, ap, arith, get_or}
use Rattle.nk_store.specs.StoreState.{StoreState, IsId, look, root_field, Grows, HasLeaves}
use Rattle.nk_apply.specs.Leaves.{guarded}
use Rattle.nk_apply.specs.Cofactors.{cofactor, IsPart, IsFirst}
use Rattle.nk_apply.proofs.Built.{Built, built_push, part_old}
use Rattle.nk_apply.proofs.Merges.{pair_at, pair_push}
use Rattle.nk_sets.specs.Cuts.{IsEnd}

-- one part more of what is cut
pub cut_push : (old st new : StoreState) (f a b from : ℕ) (ps : List (ℕ × ℕ)) (p q : ℕ × ℕ) (d e : ℕ) →
    Built (pair_at guarded old f a b) st f from ps → Grows old st → Grows st new → IsId old a → IsId old b →
    IsFirst old a b f → IsPart st f a from p → IsPart st f b from q → IsEnd (look st p.1) p.0 q.0 e →
    HasLeaves new d (λ pk. guarded (look st p.1 pk) (look st q.1 pk)) → min (root_field st p.1) (root_field st q.1) ≤ root_field new d →
    Built (pair_at guarded old f a b) new f (e + 1) (ps ++ (e, d) ∷ [])
cut_push old st new f a b from ps p q d e built g h ia ib first pa pb (inl is) leaves later =
    pair_push guarded old st new f a b from ps p q d e built g h ia ib first pa pb is leaves later
cut_push old st new f a b from ps p q d e built g h ia ib first pa pb (inr none) leaves later =
    built_push (pair_at guarded old f a b) st new f from ps d e built h (omega (arith, none.0, pa.from))
    (record { id = leaves.id; later = omega (arith, later, pa.child.later, pb.child.later) })
    (λ v pk w l m. leaves.leaf pk w
    ∙ ap (λ x. guarded x (look st q.1 pk)) (none.1 pk)
    ∙ ap (λ x. guarded x (look old (cofactor old f v b) pk))
    (sym (none.1 pk) ∙ part_old old st f a from v p pk g ia first.left pa l (omega (arith, none.0, m))))

-- where the end is not the highest value there is a next one
pub end_within : (old st : StoreState) (f d v e high : ℕ) (p q : ℕ × ℕ) → IsPart st f d v p → IsEnd (look st p.1) p.0 q.0 e →
    Grows old st → high ≡ get_or old.maxes f 0 → (e ≡ high → ⊥) → e + 1 ≤ high
end_within old st f d v e high p q part (inl is) g h n =
    let m : get_or st.maxes f 0 ≡ high = ap (λ ms. get_or ms f 0) g.maxes ∙ sym h in
    omega (arith, part.within, is, m, n)
end_within old st f d v e high p q part (inr is) g h n =
    let m : get_or st.maxes f 0 ≡ high = ap (λ ms. get_or ms f 0) g.maxes ∙ sym h in
    omega (arith, part.within, is.0, m, n)
