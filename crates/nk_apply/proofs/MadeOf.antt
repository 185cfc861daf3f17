-- What is made of one diagram stays so while the store grows, and so do the tables of it.
use Rattle.std.proofs.Common.{◌≡◌, ℕ, ◌≤◌, cond, eqb, List, Option, Some, None, sym, ap, subst, ◌∙◌, inl, inr}
use Rattle.std.specs.Map.{lookup}
use Rattle.std.proofs.lemmas.Bool.Decides.{eqb_tells}
use Rattle.std.specs.Prelude.{OnOk}
use Rattle.std.specs.declared.result.Result.{Result}
use Rattle.std.specs.declared.result.Result.TheVariants.{Ok, Err}
use Rattle.nk_store.specs.declared.node.Out.{Out}
use Rattle.nk_store.specs.Leaves.{AreOrdered}
use Rattle.nk_store.specs.StoreState.{StoreState, IsId, look, root_field, Grows, HasLeaves}
use Rattle.nk_apply.specs.MadeOf.{IsMadeOf, AreMadeOf}
use Rattle.nk_apply.proofs.Gathers.{same_order}

module _ (P : List ℕ → List ℕ) (M : List ℕ → List ℕ → List Out → List Out) (F : ℕ → ℕ) where
  -- what is made of a diagram is made of it in a store that grew
  pub made_grows : (old new : StoreState) (d r : ℕ) → Grows old new → IsMadeOf P M F old d r → IsMadeOf P M F new d r
  made_grows old new d r g k = record {
    id = g.ids d k.id;
    leaves = record {
      id = g.ids r k.leaves.id;
      leaf = λ pk w. g.leaves r pk k.leaves.id ∙ k.leaves.leaf pk w
          ∙ ap (λ os. M old.maxes pk os) (sym (g.leaves d (P pk) k.id))
          ∙ ap (λ ms. M ms pk (look new d (P pk))) (sym g.maxes);
    };
    later = subst (λ t. F t ≤ root_field new r) (sym (g.root_fields d k.id)) (subst (λ t. F (root_field old d) ≤ t) (sym (g.root_fields r k.leaves.id)) k.later);
  }

  -- and so is a table of them
  pub entries_grow : (old new : StoreState) (entries : List (ℕ × ℕ)) → Grows old new → AreMadeOf P M F old entries → AreMadeOf P M F new entries
  entries_grow old new entries g are d r e = made_grows old new d r g (are d r e)

  -- what was made of a diagram of an earlier store is made of it now
  pub made_now :
      (old new : StoreState) (d r : ℕ) → Grows old new → IsId old d → HasLeaves new r (λ pk. M old.maxes pk (look old d (P pk)))
      → F (root_field old d) ≤ root_field new r → IsMadeOf P M F new d r
  made_now old new d r g i h l = record {
    id = g.ids d i;
    leaves = record {
      id = h.id;
      leaf = λ pk w. h.leaf pk w
          ∙ ap (λ os. M old.maxes pk os) (sym (g.leaves d (P pk) i))
          ∙ ap (λ ms. M ms pk (look new d (P pk))) (sym g.maxes);
    };
    later = subst (λ t. F t ≤ root_field new r) (sym (g.root_fields d i)) l;
  }

  -- a table with one more entry
  pub entries_put :
      (st : StoreState) (d r : ℕ) (old new : List (ℕ × ℕ)) → AreMadeOf P M F st old → IsMadeOf P M F st d r
      → ((q : ℕ) → lookup (eqb q) new ≡ cond (eqb d q) (Some r) (lookup (eqb q) old)) → AreMadeOf P M F st new
  entries_put st d r old new are one put q z e =
      elim (eqb_tells d q) [
        | inl same ↦
            let is : Some r ≡ Some z = sym (put q ∙ ap (λ b. cond b (Some r) (lookup (eqb q) old)) same.0) ∙ e in
            let z_is : r ≡ z = ap (value_or r) is in
            subst (λ k. IsMadeOf P M F st k z) same.1 (subst (IsMadeOf P M F st d) z_is one)
        | inr other ↦ are q z (sym (put q ∙ ap (λ b. cond b (Some r) (lookup (eqb q) old)) other.0) ∙ e)
      ]
    where
      value_or : ℕ → Option ℕ → ℕ
      value_or d None = d
      value_or d (Some x) = x

-- what holds whatever a call answers
pub on_any : {T E : Type 0} (r : Result T E) (P : Type 0) → P → OnOk r P
on_any (Ok x) P h = h
on_any (Err e) P h = tt

-- a leaf of outs that L's come to in order has what L makes
pub leaf_made :
    (old new : StoreState) (L : List Out → List Out) (d r : ℕ) (outs all : List Out) → ((pk : List ℕ) → look old d pk ≡ outs)
    → AreOrdered all (L outs) → (s : List Out) → AreOrdered all s → HasLeaves new r (λ pk. s)
    → HasLeaves new r (λ pk. L (look old d pk))
leaf_made old new L d r outs all is made s order h = record {
  id = h.id;
  leaf = λ pk w. h.leaf pk w ∙ same_order all s (L outs) order made ∙ ap L (sym (is pk));
}
