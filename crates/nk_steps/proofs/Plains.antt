-- Diagrams whose leaves are all plain.
use Rattle.std.proofs.Common.{◌≡◌, ℕ, ◌+◌, ◌<◌, ◌≤◌, true, cond, eqb, inl, inr, sym, ◌∙◌, ap, subst, arith, List, length, get_or}
use Rattle.std.specs.List.{list_any}
use Rattle.std.proofs.lemmas.Bool.Decides.{leb_tells, eqb_tells}
use Rattle.nk_store.specs.declared.node.Out.{Out}
use Rattle.nk_store.specs.StoreState.{StoreState, look, IsCase}
use Rattle.nk_store.proofs.Looks.{joined_some}
use Rattle.nk_steps.specs.Plain.{IsPlain}
use Rattle.nk_steps.specs.AllPlain.{HasPlainLeaves, AllHavePlainLeaves}
use Rattle.nk_determ.proofs.HaveSets.{child_place}

-- a leaf
pub leaf_plain : (st : StoreState) (d : ℕ) (outs : List Out) → ((pk : List ℕ) → look st d pk ≡ outs) → IsPlain outs → HasPlainLeaves st d
leaf_plain st d outs is p pk = subst IsPlain (sym (is pk)) p

-- one diagram more
pub one_more_plain : (st : StoreState) (old new : List ℕ) (d : ℕ) → AllHavePlainLeaves st old → HasPlainLeaves st d →
    ((q : ℕ) → list_any (eqb q) new ≡ cond (eqb d q) true (list_any (eqb q) old)) → AllHavePlainLeaves st new
one_more_plain st old new d all one put q e =
    elim (eqb_tells d q) [
      | inl same ↦ subst (HasPlainLeaves st) same.1 one
      | inr other ↦ all q (sym (put q ∙ ap (λ b. cond b true (list_any (eqb q) old)) other.0) ∙ e)
    ]

-- one part more
pub parts_more_plain : (st : StoreState) (ps : List (ℕ × ℕ)) (i d : ℕ) → ((k : ℕ) → k < i → HasPlainLeaves st (get_or ps k (0, 0)).1) →
    d ≡ (get_or ps i (0, 0)).1 → HasPlainLeaves st d → (k : ℕ) → k < i + 1 → HasPlainLeaves st (get_or ps k (0, 0)).1
parts_more_plain st ps i d done is h k m = elim (leb_tells i k) [
  | inr before ↦ done k before.1
  | inl here ↦
      let same : k ≡ i = omega (arith, here.1, m) in
      subst (HasPlainLeaves st) (is ∙ ap (λ j. (get_or ps j (0, 0)).1) (sym same)) h
]

-- where all parts' diagrams have plain leaves, the diagram has
pub case_plain : (st : StoreState) (d g : ℕ) (ps items : List (ℕ × ℕ)) (i : ℕ) → IsCase st d g ps → items ≡ ps → length items ≤ i →
    ((k : ℕ) → k < i → HasPlainLeaves st (get_or items k (0, 0)).1) → HasPlainLeaves st d
case_plain st d g ps items i c is l all = λ pk.
    let at = child_place ps 0 (get_or pk g 0) (joined_some ps c.joined) in
    let within : length items ≡ length ps = ap (λ k. length k) is in
    let had = subst (λ (qs : List (ℕ × ℕ)). HasPlainLeaves st (get_or qs at.0 (0, 0)).1) is (all at.0 (omega (arith, at.1, l, within))) in
    subst IsPlain (sym (c.leaf pk ∙ ap (λ k. look st k pk) at.2)) (had pk)
