-- Two diagrams put together, value by value of a field.
use Rattle.std.proofs.Common.{◌≡◌, ℕ, ◌+◌, ◌≤◌, min, List, [], ◌∷◌, ◌++◌, sym, ◌∙◌, ap, arith, get_or}
use Rattle.nk_store.specs.declared.node.Out.{Out}
use Rattle.nk_store.specs.StoreState.{StoreState, IsId, look, root_field, Grows, HasLeaves}
use Rattle.nk_apply.specs.Cofactors.{cofactor, IsPart, IsFirst}
use Rattle.nk_apply.proofs.Built.{Built, built_push, part_old}

-- the leaves of both diagrams at a value of f, put together
abbrev pub pair_at : (List Out → List Out → List Out) → StoreState → ℕ → ℕ → ℕ → ℕ → List ℕ → List Out
pair_at J old f a b v pk = J (look old (cofactor old f v a) pk) (look old (cofactor old f v b) pk)

-- one part more of a merged diagram
pub pair_push : (J : List Out → List Out → List Out) (old st new : StoreState) (f a b from : ℕ) (ps : List (ℕ × ℕ)) (p q : ℕ × ℕ) (d e : ℕ) →
    Built (pair_at J old f a b) st f from ps → Grows old st → Grows st new → IsId old a → IsId old b →
    IsFirst old a b f → IsPart st f a from p → IsPart st f b from q → e ≡ min p.0 q.0 →
    HasLeaves new d (λ pk. J (look st p.1 pk) (look st q.1 pk)) → min (root_field st p.1) (root_field st q.1) ≤ root_field new d →
    Built (pair_at J old f a b) new f (e + 1) (ps ++ (e, d) ∷ [])
pair_push J old st new f a b from ps p q d e built g h ia ib first pa pb is leaves later =
    built_push (pair_at J old f a b) st new f from ps d e built h (omega (arith, is, pa.from, pb.from)) (record { id = leaves.id; later = omega (arith, later, pa.child.later, pb.child.later) })
    (λ v pk w l m. leaves.leaf pk w
    ∙ ap (λ x. J x (look st q.1 pk)) (part_old old st f a from v p pk g ia first.left pa l (omega (arith, is, m)))
    ∙ ap (λ y. J (look old (cofactor old f v a) pk) y) (part_old old st f b from v q pk g ib first.right pb l (omega (arith, is, m))))

-- values past the highest count as the highest
pub pair_past : (J : List Out → List Out → List Out) (old : StoreState) (f a b e : ℕ) → IsFirst old a b f →
    e ≡ get_or old.maxes f 0 → (v : ℕ) (pk : List ℕ) → e ≤ v →
    pair_at J old f a b v pk ≡ pair_at J old f a b e pk
pair_past J old f a b e first is v pk l =
    let high = get_or old.maxes f 0 in
    let far : high ≤ v = omega (arith, l, is) in
    ap (λ x. J (look old x pk) (look old (cofactor old f v b) pk)) (first.left.past v far)
    ∙ ap (λ y. J (look old (cofactor old f high a) pk) (look old y pk)) (first.right.past v far)
    ∙ ap (λ w. pair_at J old f a b w pk) (sym is)
