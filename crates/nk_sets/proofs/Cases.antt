-- What is known of the children of a set that tests a field.
use Rattle.std.proofs.Common.{◌≡◌, ◌≢◌, ℕ, true, false, eqb, ◌<◌, ◌≤◌, List, refl, sym, ap, subst, ◌∙◌, arith, get_or, set, get_or-set_same, Option, None, inl, inr}
use Rattle.std.specs.Prelude.{MatchOption}
use Rattle.nk_store.specs.Nodes.{child_at, Each}
use Rattle.nk_store.specs.StoreState.{StoreState, IsId, look, root_field, IsWhole, IsChild, IsCase, IsStill, IsReduced}
use Rattle.nk_store.proofs.Children.{each_value}
use Rattle.nk_store.proofs.Looks.{each_child, joined_some}
use Rattle.nk_apply.specs.Predicates.{IsPass}
use Rattle.nk_apply.proofs.Predicates.{whole_set}
use Rattle.std.proofs.lemmas.Bool.Decides.{nat_tests, leb_tells}
use Rattle.nk_sets.specs.PacketSets.{IsSet}

-- what a match says where there is none
pub at_none : {T : Type 0} (o : Option T) (P : Type 0) (Q : T → Type 0) → o ≡ None → MatchOption o P Q → P
at_none o P Q e m = subst (λ x. MatchOption x P Q) e m

-- numbers that a test tells apart
pub other_than : (m n : ℕ) → eqb m n ≡ false → m ≢ n
other_than m n e = λ s. let t : eqb m n ≡ true = grind (arith, nat_tests, s) in let u : true ≡ false = sym t ∙ e in cc

-- at a packet whose field has a value, a set has what the child at the value has
pub look_at :
    (st : StoreState) (s f v : ℕ) (ps : List (ℕ × ℕ)) (pk : List ℕ) → IsCase st s f ps
    → ((d : ℕ) → IsId st d → IsStill st d) → IsWhole pk
    → look st s (set pk f v) ≡ look st (child_at 0 ps v) pk
look_at st s f v ps pk c still w =
    let child : IsChild st f (child_at 0 ps v) = each_child (IsChild st f) 0 ps v (joined_some ps c.joined) c.parts_ok.children in
    c.leaf (set pk f v)
    ∙ ap (λ k. look st (child_at 0 ps k) (set pk f v)) (get_or-set_same pk f v 0 (let l = c.parts_ok.field in omega (arith, l, w)))
    ∙ (still (child_at 0 ps v) child.id).leaf f v pk child.later

-- the children of a set are sets
pub case_sets :
    (st : StoreState) (s f : ℕ) (ps : List (ℕ × ℕ)) → IsSet st s → IsCase st s f ps
    → ((d : ℕ) → IsId st d → IsStill st d) → Each (IsSet st) ps
case_sets st s f ps is c still =
    each_value (IsSet st) (get_or st.maxes f 0) 0 0 ps c.parts_ok.rise
    (λ v lo hi. record {
      id = (each_child (IsChild st f) 0 ps v (joined_some ps c.joined) c.parts_ok.children).id;
      predicate = λ pk w. subst IsPass (look_at st s f v ps pk c still w) (is.predicate (set pk f v) (whole_set pk f v w));
    })

-- a diagram that does not depend on fields before one tests none of them
pub later_by :
    (st : StoreState) (d f : ℕ) → IsReduced st d → f ≤ 18
    → ((j v : ℕ) (pk : List ℕ) → j < f → IsWhole pk → look st d (set pk j v) ≡ look st d pk) → f ≤ root_field st d
later_by st d f r h same = elim (leb_tells f (root_field st d)) [
  | inl le ↦ le.1
  | inr less ↦ let l = less.1 in absurd (r.tests (root_field st d) (omega (arith, l, h)) refl (λ v pk w. same (root_field st d) v pk l w))
]
