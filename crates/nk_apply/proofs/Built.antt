-- The parts of a new diagram, built from the lowest value on.
use Rattle.std.proofs.Common.{◌≡◌, ℕ, ◌+◌, ◌<◌, ◌≤◌, min, true, false, cond, leb, List, [], ◌∷◌, ◌++◌, length, refl, sym, ◌∙◌, ap, subst, arith, get_or, inl, inr}
use Rattle.std.proofs.lemmas.Bool.Decides.{leb_tells}
use Rattle.nk_store.specs.declared.node.Out.{Out}
use Rattle.nk_store.specs.Nodes.{child_at, Rises, Each}
use Rattle.nk_store.specs.StoreState.{StoreState, IsId, look, Grows, IsWhole, IsChild, AreParts}
use Rattle.nk_store.proofs.Looks.{each_child, each_weaker}
use Rattle.nk_store.proofs.Same.{child-first, child-rest}
use Rattle.nk_apply.specs.Cofactors.{cofactor_of_node, cofactor, IsPart, IsSplit}
use Rattle.nk_apply.proofs.Parts.{child_past}

-- ends rise strictly from low, and the next value is to
abbrev pub Ends : ℕ → ℕ → List (ℕ × ℕ) → Type 0
Ends to low [] = low ≡ to
Ends to low (p ∷ ps) = (low ≤ p.0) × (p.0 < to) × Ends to (p.0 + 1) ps

-- a part that ends at e carries the ends on to e + 1
pub ends_push : (to low e c : ℕ) (ps : List (ℕ × ℕ)) → Ends to low ps → to ≤ e →
    Ends (e + 1) low (ps ++ (e, c) ∷ [])
ends_push to low e c [] h l = (omega (arith, h), omega arith, refl)
ends_push to low e c (p ∷ ps) h l = (h.0, omega (arith, h.1), ends_push to (p.0 + 1) e c ps h.2 l)

-- ends that carry on past the highest value rise to it
pub ends_rise : (high low : ℕ) (ps : List (ℕ × ℕ)) → Ends (high + 1) low ps → Rises high low ps
ends_rise high low [] h = h
ends_rise high low (p ∷ ps) h = (h.0, omega (arith, h.1), ends_rise high (p.0 + 1) ps h.2)

-- a later part leaves the children of the values before it
pub child_old : (to low d v : ℕ) (ps qs : List (ℕ × ℕ)) → Ends to low ps → low ≤ v → v < to →
    child_at d (ps ++ qs) v ≡ child_at d ps v
child_old to low d v [] qs h l m = absurd (omega (arith, h))
child_old to low d v (p ∷ ps) qs h l m =
    elim (leb_tells v p.0) [
      | inl under ↦ child-first d p (ps ++ qs) v under.1 ∙ sym (child-first d p ps v under.1)
      | inr out ↦ child-rest d p (ps ++ qs) v out.1 ∙ child_old to (p.0 + 1) p.1 v ps qs h.2 (omega (arith, out.1)) m ∙ sym (child-rest d p ps v out.1)
    ]

-- the last part's child is that of each value from its beginning on
pub child_new : (to low d v e c : ℕ) (ps : List (ℕ × ℕ)) → Ends to low ps → to ≤ v →
    child_at d (ps ++ (e, c) ∷ []) v ≡ c
child_new to low d v e c [] h l = elim (leb v e) as (λ b. cond b c c ≡ c) [ true ↦ refl | false ↦ refl ]
child_new to low d v e c (p ∷ ps) h l = child-rest d p (ps ++ (e, c) ∷ []) v (omega (arith, h.1)) ∙ child_new to (p.0 + 1) p.1 v e c ps h.2 l

-- what holds of each child and of one more holds of them all
pub each_push : (P : ℕ → Type 0) (e c : ℕ) (ps : List (ℕ × ℕ)) → Each P ps → P c → Each P (ps ++ (e, c) ∷ [])
each_push P e c [] h k = (k, tt)
each_push P e c (p ∷ ps) h k = (h.0, each_push P e c ps h.1 k)

-- parts that serve a value are some
pub some_ends : (to v : ℕ) (ps : List (ℕ × ℕ)) → Ends to 0 ps → v < to → 0 < length ps
some_ends to v [] h l = omega (arith, h)
some_ends to v (p ∷ ps) h l = omega arith

-- a child stays one in a store that grew
pub child_grows : (old new : StoreState) (f c : ℕ) → Grows old new → IsChild old f c → IsChild new f c
child_grows old new f c g k = record { id = g.ids c k.id; later = subst (λ t. f < t) (sym (g.root_fields c k.id)) k.later }

-- what a diagram is at a value stays in a store that grew
pub cofactor_grows : (old new : StoreState) (f v d : ℕ) → Grows old new → IsId old d → cofactor new f v d ≡ cofactor old f v d
unfolding cofactor
cofactor_grows old new f v d g i = ap (λ n. cofactor_of_node n f v d) (g.nodes d i)

-- parts that serve the values below to: at the value v of f, what R v gives
pub record Built (R : ℕ → List ℕ → List Out) (st : StoreState) (f to : ℕ) (ps : List (ℕ × ℕ)) : Type 0 where
  pub ends : Ends to 0 ps
  pub children : Each (IsChild st f) ps
  pub leaf : (v : ℕ) (pk : List ℕ) → IsWhole pk → v < to → look st (child_at 0 ps v) pk ≡ R v pk

-- no part serves no value
pub built_none : (R : ℕ → List ℕ → List Out) (st : StoreState) (f : ℕ) → Built R st f 0 []
built_none R st f = record { ends = refl; children = tt; leaf = λ v pk w l. absurd (omega arith) }

-- one part more, which serves the values up to e
pub built_push : (R : ℕ → List ℕ → List Out) (st new : StoreState) (f from : ℕ) (ps : List (ℕ × ℕ)) (d e : ℕ) →
    Built R st f from ps → Grows st new → from ≤ e → IsChild new f d →
    ((v : ℕ) (pk : List ℕ) → IsWhole pk → from ≤ v → v ≤ e → look new d pk ≡ R v pk) →
    Built R new f (e + 1) (ps ++ (e, d) ∷ [])
built_push R st new f from ps d e built h low child serves =
    record {
      ends = ends_push from 0 e d ps built.ends low;
      children = each_push (IsChild new f) e d ps (each_weaker (IsChild st f) (IsChild new f) ps (λ c k. child_grows st new f c h k) built.children) child;
      leaf = λ v pk w l. elim (leb_tells from v) [
        | inl new_one ↦ ap (λ k. look new k pk) (child_new from 0 0 v e d ps built.ends new_one.1) ∙ serves v pk w new_one.1 (omega arith)
        | inr old_one ↦
            let c = child_at 0 ps v in
            let was : IsChild st f c = each_child (IsChild st f) 0 ps v (some_ends from v ps built.ends old_one.1) built.children in
            ap (λ k. look new k pk) (child_old from 0 0 v ps ((e, d) ∷ []) built.ends (omega arith) old_one.1)
            ∙ h.leaves c pk was.id ∙ built.leaf v pk w old_one.1
      ];
    }

-- parts that serve all values of the field
pub built_parts : (R : ℕ → List ℕ → List Out) (st : StoreState) (f e : ℕ) (ps : List (ℕ × ℕ)) →
    Built R st f (e + 1) ps → f < 18 → e ≡ get_or st.maxes f 0 → AreParts st f ps
built_parts R st f e ps built h is =
    record { field = h; rise = subst (λ m. Rises m 0 ps) is (ends_rise e 0 ps built.ends); children = built.children }

-- parts that serve the values up to e serve each value, if those past e count as e
pub built_leaf : (R : ℕ → List ℕ → List Out) (st : StoreState) (f e : ℕ) (ps : List (ℕ × ℕ)) →
    Built R st f (e + 1) ps → ((v : ℕ) (pk : List ℕ) → e ≤ v → R v pk ≡ R e pk) → (v : ℕ) (pk : List ℕ) →
    IsWhole pk → look st (child_at 0 ps v) pk ≡ R v pk
built_leaf R st f e ps built past v pk w =
    elim (leb_tells v e) [
      | inl within ↦ built.leaf v pk w (omega (arith, within.1))
      | inr far ↦
          ap (λ k. look st k pk) (child_past e 0 0 v ps (ends_rise e 0 ps built.ends) (omega (arith, far.1)))
          ∙ built.leaf e pk w (omega arith) ∙ sym (past v pk (omega (arith, far.1)))
    ]

-- a part's diagram, in the store of the beginning
pub part_old : (old st : StoreState) (f d from v : ℕ) (p : ℕ × ℕ) (pk : List ℕ) → Grows old st → IsId old d →
    IsSplit old f d → IsPart st f d from p → from ≤ v → v ≤ p.0 → look st p.1 pk ≡ look old (cofactor old f v d) pk
part_old old st f d from v p pk g i s part l m =
    ap (λ k. look st k pk) (sym (part.same v l m) ∙ cofactor_grows old st f v d g i) ∙ g.leaves (cofactor old f v d) pk (s.child v).id

-- where the end is not the highest value there is a next one
pub end_within : (old st : StoreState) (f d v e high : ℕ) (p q : ℕ × ℕ) → IsPart st f d v p → e ≡ min p.0 q.0 →
    Grows old st → high ≡ get_or old.maxes f 0 → (e ≡ high → ⊥) → e + 1 ≤ high
end_within old st f d v e high p q part is g h n =
    let m : get_or st.maxes f 0 ≡ high = ap (λ ms. get_or ms f 0) g.maxes ∙ sym h in
    omega (arith, part.within, is, m, n)
