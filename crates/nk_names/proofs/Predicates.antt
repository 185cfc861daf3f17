-- What the checks of a row's predicate leave known.
use Rattle.std.proofs.Common.{◌≡◌, ℕ, ◌<◌, ◌≤◌, true, None, List, [], refl, sym, ap, subst, ◌∙◌, arith}
use Rattle.nk_field.specs.Packet.{FieldTable, IsFieldTable}
use Rattle.nk_policy.specs.Policy.{Policy, Policies, test, range, sum_of, seq_of, not_of, no_part, part, depth_of, dups_of, dups_of_all, is_predicate, are_predicates, marked_from}
use Rattle.nk_policy.proofs.Tests.{both_true}
use Rattle.nk_policy.proofs.Remade.{marked_predicate}
use Rattle.nk_grammar.specs.Tree.{Tree}
use Rattle.nk_names.specs.declared.fault.FaultKind.TheVariants as kind
use Rattle.nk_names.specs.Meant.{Lets, policy_for, unknown_in, misplaced_in}
use Rattle.nk_names.specs.ProgramOf.{predicate_fault}
use Rattle.nk_names.specs.ProgramValue.{IsRowPolicy}
use Rattle.nk_declare.proofs.Checks.{none_both}
use Rattle.nk_names.proofs.Declarations.{not_wrong, at_most}
use Rattle.nk_names.proofs.Good.{depth_marked, over_marked, over_in_range, negates_marked}
use Rattle.nk_names.proofs.Meanings.{over_meant, negates_meant, of_not}
use Rattle.nk_names.proofs.Misplaced.{none_misplaced}

mutual
  -- a predicate records nothing
  pub no_dups : (p : Policy) → is_predicate p ≡ true → dups_of p ≡ 0
  no_dups (test f n) h = refl
  no_dups (range f low high) h = refl
  no_dups (sum_of ps) h = none_have_dups ps h
  no_dups (seq_of ps) h = none_have_dups ps h
  no_dups (not_of p) h = no_dups p h
  no_dups p h = absurd cc

  -- parts that are predicates record nothing
  pub none_have_dups : (ps : Policies) → are_predicates ps ≡ true → dups_of_all ps ≡ 0
  none_have_dups no_part h = refl
  none_have_dups (part p ps) h =
      let b = both_true (is_predicate p) (are_predicates ps) h in
      omega (arith, no_dups p b.0, none_have_dups ps b.1)

-- what is known of a tree that has no fault
pub record IsFaultlessRow (fields : FieldTable) (lets : Lets) (t : Tree) : Type 0 where
  pub known : unknown_in fields lets t ≡ None
  pub placed : misplaced_in fields lets t ≡ None
  pub predicate : is_predicate (policy_for fields lets t) ≡ true
  pub shallow : depth_of (policy_for fields lets t) ≤ 256

pub faultless_row : (fields : FieldTable) (lets : Lets) (t : Tree) (line : ℕ)
    → predicate_fault fields lets t line ≡ None → IsFaultlessRow fields lets t
faultless_row fields lets t line h =
    let r1 = none_both _ _ h in
    let r2 = none_both _ _ r1.1 in
    let predicate = of_not (is_predicate (policy_for fields lets t)) (not_wrong _ kind.NotAPredicate line r2.0) in
    record {
      known = r1.0;
      placed = none_misplaced fields lets t predicate;
      predicate = predicate;
      shallow = at_most 256 (depth_of (policy_for fields lets t)) (not_wrong _ kind.TooDeep line r2.1);
    }

-- its dups have numbers, since there are none
pub row_fits : (fields : FieldTable) (lets : Lets) (t : Tree) (line : ℕ)
    → predicate_fault fields lets t line ≡ None → dups_of (policy_for fields lets t) < 4294967295
row_fits fields lets t line h =
    let none = no_dups (policy_for fields lets t) (faultless_row fields lets t line h).predicate in
    omega (arith, none)

-- and its policy is one of a row
pub row_is : (fields : FieldTable) (t : Tree) (line : ℕ) → IsFieldTable fields
    → predicate_fault fields [] t line ≡ None → IsRowPolicy fields (marked_from (policy_for fields [] t) 1)
row_is fields t line table h =
    let f = faultless_row fields [] t line h in
    let p = policy_for fields [] t in
    let over = over_marked fields p 1 (over_meant fields table [] (λ k d lt. absurd (omega (arith, lt))) t f.known) in
    record {
      predicate = marked_predicate p 1 ∙ f.predicate;
      shallow = omega (arith, depth_marked p 1, f.shallow);
      over = over;
      in_range = over_in_range fields (marked_from p 1) over;
      complements = negates_marked p 1 (negates_meant fields [] (λ k d lt. absurd (omega (arith, lt))) t f.placed);
    }

-- the policy is one of a row, where the policies known are a list of none
pub row_is_from : (fields : FieldTable) (ls : List (List ℕ × Policy)) (t : Tree) (line : ℕ) (q : Policy) → IsFieldTable fields → ls ≡ []
    → predicate_fault fields ls t line ≡ None → q ≡ marked_from (policy_for fields ls t) 1 → IsRowPolicy fields q
row_is_from fields ls t line q table none h e =
    subst (IsRowPolicy fields) (sym (e ∙ ap (λ l. marked_from (policy_for fields l t) 1) none))
    (row_is fields t line table (sym (ap (λ l. predicate_fault fields l t line) none) ∙ h))
