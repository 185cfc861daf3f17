-- What is found is the least of all that break.
use Rattle.std.proofs.Common.{◌≡◌, ℕ, ◌+◌, Bool, ◌⊎◌, inl, inr, refl, sym, ◌∙◌, ap, subst, arith, List, [], ◌∷◌, length, get_or, Contains}
use Rattle.std.proofs.lemmas.List.{get_or_default}
use Rattle.nk_field.specs.Act.{applied}
use Rattle.nk_field.specs.Order.{Found, Precedes, AllPrecede, IsLeast}
use Rattle.nk_store.specs.declared.node.Out.{Out}
use Rattle.nk_store.specs.StoreState.{StoreState}
use Rattle.nk_apply.specs.Seqs.{no_out}
use Rattle.nk_determ.specs.Pairs.{Node, IsStep}
use Rattle.nk_determ.specs.Levels.{IsViolation, AreLevels}
use Rattle.nk_determ.specs.Counterexamples.{MakesWithTarget}
use Rattle.nk_witness.specs.declared.choice.Choice.{Choice}
use Rattle.nk_witness.specs.Histories.{IsCounterexampleWithTarget, IsCounterexample, PrecedesOrEquals, IsGreedy}
use Rattle.nk_witness.specs.Backs.{IsBack}
use Rattle.nk_witness.specs.Choices.{IsAny, IsChoiceUpTo, IsBest}
use Rattle.nk_witness.specs.Finds.{target_of, IsForward}
use Rattle.nk_witness.specs.declared.found.Side.{Side}
use Rattle.nk_witness.specs.declared.found.Side.TheVariants.{Left, Right}
use Rattle.nk_witness.proofs.Greedy.{step_one, makes_violation, not_early, greedy_least}
use Rattle.nk_witness.proofs.Walking.{least_is_least}
use Rattle.nk_witness.proofs.Choosing.{precedes_not}
use Rattle.nk_witness.proofs.Advancing.{IsFirst}

-- where the walk ends, there is a violation
pub end_violation : (old st : StoreState) (ss : List (List ℕ)) (states : List ℕ) (start : ℕ) (bad : List ℕ → List ℕ → List Out) (Lev : Node → Type 0) (h i : ℕ) (back : List (ℕ × ℕ)) (set first : List ℕ) (records : List (List ℕ)) (s : ℕ) (x : List ℕ) →
    IsBack old st ss states bad Lev 0 back → IsForward old st ss states start bad h i back set first records s x → IsViolation bad (get_or ss s [], x)
end_violation old st ss states start bad Lev h i back set first records s x b f = (b.sound (get_or ss s [], x) f.packet (s, refl, f.under)).1

-- the first packet, the walk and the best end
pub greedy_of : (old st : StoreState) (ss : List (List ℕ)) (states : List ℕ) (start : ℕ) (bad : List ℕ → List ℕ → List Out) (h : ℕ) (back : List (ℕ × ℕ)) (set first : List ℕ) (records : List (List ℕ)) (s : ℕ) (x : List ℕ) (outs : List Out) (b : Choice) →
    IsFirst old states set start bad h first → IsForward old st ss states start bad h h back set first records s x → outs ≡ bad (get_or ss s []) x → IsBest IsAny x outs (length outs) b →
    IsGreedy old states set start bad h (record { start = first; records = records; last = b.packet }) (get_or ss s [], x) b.target
greedy_of old st ss states start bad h back set first records s x outs b one f is best = record {
  starts = one.starts;
  first = one.first;
  walk = f.walk;
  count = f.count;
  makes = subst (λ (os : List Out). MakesWithTarget os x b.packet b.target) is made;
  last = λ y t m. below y t (subst (λ (os : List Out). MakesWithTarget os x y t) (sym is) m);
}
  where
    made : MakesWithTarget outs x b.packet b.target
    made = (best.out.act, subst (λ (t : ℕ). Contains outs (record { act = best.out.act; target = t })) best.target best.among, sym best.made)

    below : (y : List ℕ) (t : ℕ) → MakesWithTarget outs x y t → PrecedesOrEquals b.packet y
    below y t m =
        let o : Out = record { act = m.0; target = t } in
        let j : ℕ = m.1.0 in
        let q : get_or outs j no_out ≡ o = sym (get_or_default outs j o no_out m.1.1) ∙ m.1.2 in
        up_to (applied (get_or outs j no_out).act x) y (get_or outs j no_out).target (ap (λ (p : Out). applied p.act x) q ∙ sym m.2) (best.first j m.1.1 tt)
      where
        up_to : (z w : List ℕ) (v : ℕ) → z ≡ w → IsChoiceUpTo b.packet b.target z v → PrecedesOrEquals b.packet w
        up_to z w v e (inl p) = inl (p.0 ∙ e)
        up_to z w v e (inr p) = inr (subst (λ (r : List ℕ). Precedes b.packet r) e p)

-- by levels it is the least
pub least_of : (old : StoreState) (oss : List (List ℕ)) (states : List ℕ) (set start : ℕ) (bad : List ℕ → List ℕ → List Out) (ls : List (List (ℕ × ℕ))) (broken : Bool) (h : ℕ) (f : Found) (n : Node) (target : ℕ) → AreLevels old old oss states set start bad ls broken → length ls ≡ h + 1 →
    IsGreedy old states (get_or oss set []) start bad h f n target → IsLeast (IsCounterexample old states (get_or oss set []) start bad) f
least_of old oss states set start bad ls broken h f n target k count g =
    greedy_least old states (get_or oss set []) start bad h f n target g (λ j q b l r. not_early old old oss states set start bad ls broken h j q k count b l r)

-- no list of packets precedes itself
all_precede_not : (xs : List (List ℕ)) → AllPrecede xs xs → ⊥
all_precede_not [] p = p
all_precede_not (x ∷ xs) (inl p) = precedes_not x p
all_precede_not (x ∷ xs) (inr p) = all_precede_not xs p.1

-- where a violation with target 0 makes the same last packet, the one that is chosen has target 0
pub left_first : (old : StoreState) (states set : List ℕ) (start : ℕ) (bad : List ℕ → List ℕ → List Out) (h : ℕ) (f : Found) (n : Node) (target : ℕ) (outs : List Out) (b : Choice) → IsGreedy old states set start bad h f n target → outs ≡ bad n.0 n.1 → IsBest IsAny n.1 outs (length outs) b → f.last ≡ b.packet →
    IsCounterexampleWithTarget old states set start bad 0 f → b.target ≡ 0
left_first old states set start bad h f n target outs b g is best last w =
    elim (least_is_least (IsStep old states) (IsViolation bad) (step_one old states) h (set, f.start) n w.end f.records f.records g.walk w.walk g.count g.count (makes_violation bad w.end f.last 0 w.makes)) [
      | inl both ↦ at (subst (λ (os : List Out). MakesWithTarget os n.1 f.last 0) (sym is) (subst (λ (q : Node). MakesWithTarget (bad q.0 q.1) q.1 f.last 0) (sym both.1) w.makes))
      | inr less ↦ absurd (all_precede_not f.records less)
    ]
  where
    at : MakesWithTarget outs n.1 f.last 0 → b.target ≡ 0
    at m =
        let o : Out = record { act = m.0; target = 0 } in
        let j : ℕ = m.1.0 in
        let q : get_or outs j no_out ≡ o = sym (get_or_default outs j o no_out m.1.1) ∙ m.1.2 in
        let t : (get_or outs j no_out).target ≡ 0 = ap (λ (p : Out). p.target) q in
        let made : applied (get_or outs j no_out).act n.1 ≡ b.packet = ap (λ (p : Out). applied p.act n.1) q ∙ sym m.2 ∙ last in
        elim (best.first j m.1.1 tt) [
          | inl p ↦ let le = p.1 in omega (arith, le, t)
          | inr p ↦ absurd (precedes_not b.packet (subst (λ (y : List ℕ). Precedes b.packet y) made p))
        ]

-- the target of the best out is a side's where each out's is
pub best_sided : (x : List ℕ) (outs : List Out) (b : Choice) (best : IsBest IsAny x outs (length outs) b) → (best.out.target ≡ 0) ⊎ (best.out.target ≡ 1) → (b.target ≡ 0) ⊎ (b.target ≡ 1)
best_sided x outs b best (inl e) = inl (sym best.target ∙ e)
best_sided x outs b best (inr e) = inr (sym best.target ∙ e)

-- the side that is told has the target of its violations
pub target_told : (side : Side) (t : ℕ) → (t ≡ 0 → side ≡ Left) → (t ≡ 1 → side ≡ Right) → (t ≡ 0) ⊎ (t ≡ 1) → t ≡ target_of side
target_told side t left right (inl e) = e ∙ sym (ap target_of (left e))
target_told side t left right (inr e) = e ∙ sym (ap target_of (right e))
