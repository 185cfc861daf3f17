-- What is made of a diagram, value by value of its first field.
use Rattle.std.proofs.Common.{◌≡◌, ℕ, ◌+◌, ◌<◌, ◌≤◌, List, [], ◌∷◌, ◌++◌, sym, ◌∙◌, ap, arith, get_or}
use Rattle.nk_store.specs.declared.node.Out.{Out}
use Rattle.nk_store.specs.Nodes.{child_at}
use Rattle.nk_store.specs.StoreState.{StoreState, IsId, look, root_field, Grows, HasLeaves, IsWhole}
use Rattle.nk_apply.specs.Cofactors.{cofactor, IsPart, IsSplit}
use Rattle.nk_apply.proofs.Built.{Built, built_push, part_old, end_within}

-- what N makes of the leaf of a diagram at a value of g, at the packet that P makes
abbrev pub turned : (List ℕ → List ℕ) → (List ℕ → List Out → List Out) → StoreState → ℕ → ℕ → ℕ → List ℕ → List Out
turned P N old g d v pk = N pk (look old (cofactor old g v d) (P pk))

module _ (P : List ℕ → List ℕ) where
  -- one part more of what is made of a diagram
  pub turned_push : (M : List ℕ → List ℕ → List Out → List Out) (old st new : StoreState) (g d from : ℕ) (ps : List (ℕ × ℕ)) (p : ℕ × ℕ) (r : ℕ) →
      Built (turned P (M old.maxes) old g d) st g from ps → Grows old st → Grows st new → IsId old d → IsSplit old g d →
      IsPart st g d from p → HasLeaves new r (λ pk. M st.maxes pk (look st p.1 (P pk))) → g < root_field new r →
      Built (turned P (M old.maxes) old g d) new g (p.0 + 1) (ps ++ (p.0, r) ∷ [])
  turned_push M old st new g d from ps p r built k h i s part leaves later =
      built_push (turned P (M old.maxes) old g d) st new g from ps r p.0 built h part.from (record { id = leaves.id; later = later })
      (λ v pk w l m. leaves.leaf pk w ∙ ap (λ ms. M ms pk (look st p.1 (P pk))) k.maxes
      ∙ ap (λ os. M old.maxes pk os) (part_old old st g d from v p (P pk) k i s part l m))

  module _ (N : List ℕ → List Out → List Out) where
    -- values past the highest count as the highest
    pub turned_past : (old : StoreState) (g d e : ℕ) → IsSplit old g d → e ≡ get_or old.maxes g 0 →
        (v : ℕ) (pk : List ℕ) → e ≤ v → turned P N old g d v pk ≡ turned P N old g d e pk
    turned_past old g d e s is v pk l =
        ap (λ x. N pk (look old x (P pk))) (s.past v (omega (arith, l, is))) ∙ ap (λ w. turned P N old g d w pk) (sym is)

    -- the node of such parts is made of the whole diagram, where P leaves the field as it is
    pub turned_made : (old st new : StoreState) (g d r : ℕ) (ps : List (ℕ × ℕ)) → IsSplit old g d →
        ((pk : List ℕ) → get_or (P pk) g 0 ≡ get_or pk g 0) →
        ((v : ℕ) (pk : List ℕ) → IsWhole pk → look st (child_at 0 ps v) pk ≡ turned P N old g d v pk) →
        HasLeaves new r (λ pk. look st (child_at 0 ps (get_or pk g 0)) pk) →
        HasLeaves new r (λ pk. N pk (look old d (P pk)))
    turned_made old st new g d r ps s same all h = record {
      id = h.id;
      leaf = λ pk w. h.leaf pk w ∙ all (get_or pk g 0) pk w
          ∙ ap (λ v. turned P N old g d v pk) (sym (same pk)) ∙ ap (λ os. N pk os) (sym (s.leaf (P pk)));
    }

-- where a part does not end at the highest value there is a next one
pub set_within : (old st : StoreState) (g d v high : ℕ) (p : ℕ × ℕ) → IsPart st g d v p → Grows old st →
    high ≡ get_or old.maxes g 0 → (p.0 ≡ high → ⊥) → p.0 + 1 ≤ high
set_within old st g d v high p part k h n = end_within old st g d v p.0 high p p part (omega arith) k h n
