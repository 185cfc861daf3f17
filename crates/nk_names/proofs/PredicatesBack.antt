-- What is printed of a predicate is read back as that predicate, on any line and in a text of any length.
use Rattle.std.proofs.Common.{◌≡◌, ◌+◌, ℕ, true, [], None, not, refl, ap, ◌∙◌, arith}
use Rattle.std.specs.Prelude.{nat_lt, Ok}
use Rattle.nk_lex.specs.Faults.{unless}
use Rattle.nk_field.specs.Packet.{FieldTable}
use Rattle.nk_policy.specs.Policy.{Policy, Policies, sum_of, seq_of, not_of, star_of, dup, link, no_part, part, depth_of, dups_of, is_predicate, are_predicates, marked_from, all_marked_from}
use Rattle.nk_policy.proofs.Tests.{both_true}
use Rattle.nk_grammar.specs.Tree as tree
use Rattle.nk_grammar.specs.Moved.{tree_moved, trees_moved}
use Rattle.nk_names.specs.declared.fault.FaultKind.TheVariants as kind
use Rattle.nk_names.specs.Complements.{NegatesPredicates, AllNegatePredicates}
use Rattle.nk_names.specs.Meant.{policy_for}
use Rattle.nk_names.specs.ProgramOf.{predicate_fault, row_policy}
use Rattle.nk_names.specs.ReadBack.{IsWritable, IsReadablePredicate, IsPredicateReadBack}
use Rattle.nk_names.proofs.Printed.{pol_from, form_of, text_is}
use Rattle.nk_names.proofs.ReadingBack.{pol_within, nests, pol_on, fits, tree_for, trees_for, tree_is, none_first, no_fault, not_over, known, meant, same_depth, same_predicate}

mutual
  -- the complements in a predicate are over predicates
  negates : (p : Policy) → is_predicate p ≡ true → NegatesPredicates p
  negates (sum_of ps) h = all_negate ps h
  negates (seq_of ps) h = all_negate ps h
  negates (not_of p) h = (h, negates p h)
  negates (star_of p) h = absurd cc
  negates p h = tt

  -- the complements in parts that are predicates are over predicates
  all_negate : (ps : Policies) → are_predicates ps ≡ true → AllNegatePredicates ps
  all_negate no_part h = tt
  all_negate (part p ps) h =
      let b = both_true (is_predicate p) (are_predicates ps) h in
      (negates p b.0, all_negate ps b.1)

mutual
  -- a predicate has nothing to number
  unmarked : (p : Policy) (n : ℕ) → is_predicate p ≡ true → marked_from p n ≡ p
  unmarked (sum_of ps) n h = ap sum_of (all_unmarked ps n h)
  unmarked (seq_of ps) n h = ap seq_of (all_unmarked ps n h)
  unmarked (not_of p) n h = ap not_of (unmarked p n h)
  unmarked (star_of p) n h = absurd cc
  unmarked (dup l) n h = absurd cc
  unmarked (link a m b k l) n h = absurd cc
  unmarked p n h = refl

  -- parts that are predicates have nothing to number
  all_unmarked : (ps : Policies) (n : ℕ) → are_predicates ps ≡ true → all_marked_from ps n ≡ ps
  all_unmarked no_part n h = refl
  all_unmarked (part p ps) n h =
      let b = both_true (is_predicate p) (are_predicates ps) h in
      ap (λ q. part q (all_marked_from ps (n + dups_of p))) (unmarked p n b.0)
      ∙ ap (part p) (all_unmarked ps (n + dups_of p) b.1)

module _ (lines line : ℕ) (fields : FieldTable) where
  mutual
    -- the tree of a policy's text further on is the tree of its text on a later line
    moved : (p : Policy) → tree_moved lines (tree_for line fields p) ≡ tree_for (line + lines) fields p
    moved (sum_of ps) = ap tree.sum_of (all_moved ps)
    moved (seq_of ps) = ap tree.seq_of (all_moved ps)
    moved (not_of p) = ap (λ t. tree.not_of t (line + lines)) (moved p)
    moved (star_of p) = ap tree.star_of (moved p)
    moved p = refl

    -- the trees of parts further on are the trees of the parts on a later line
    all_moved : (ps : Policies) → trees_moved lines (trees_for line fields ps) ≡ trees_for (line + lines) fields ps
    all_moved no_part = refl
    all_moved (part p ps) =
        ap (λ t. tree.part t (trees_moved lines (trees_for line fields ps))) (moved p)
        ∙ ap (tree.part (tree_for (line + lines) fields p)) (all_moved ps)

-- the tree on a line stands for the predicate in a row
row_meant : (fields : FieldTable) → IsWritable fields → (line row : ℕ) (p : Policy) → IsReadablePredicate fields p
    → row_policy fields (tree_for line fields p) row ≡ Ok p
row_meant fields writable line row p h =
    let t = tree_for line fields p in
    let q = policy_for fields [] t in
    let predicate : is_predicate q ≡ true = same_predicate line fields writable.table [] p h.over ∙ h.predicate in
    let none : predicate_fault fields [] t row ≡ None = none_first _ _ (known line fields writable.table [] p h.over)
    (none_first _ _ (no_fault (not (is_predicate q)) kind.NotAPredicate row (ap not predicate))
    (no_fault (nat_lt 256 (depth_of q)) kind.TooDeep row
    (not_over 256 (depth_of q) (omega (arith, same_depth line fields writable.table [] p h.over, h.shallow))))) in
    ap (λ o. unless o (marked_from q 1)) none
    ∙ ap Ok (meant line fields writable.table [] p h.over 1 ∙ unmarked p 1 h.predicate)

pub predicates_back : (fields : FieldTable) → IsWritable fields → (line : ℕ) (p : Policy)
    → IsReadablePredicate fields p → IsPredicateReadBack fields line p
predicates_back fields writable line p h =
    let form = form_of line fields p in
    let within = pol_within form in
    let negates = negates p h.predicate in
    record {
      written = pol_from form;
      on_line = pol_on line form (fits line fields writable p h.over);
      nested = omega (arith, within, nests line fields p, h.shallow);
      text = text_is line fields p negates;
      meant = λ lines row.
          ap (λ t. row_policy fields (tree_moved lines t) row) (tree_is line fields p h.no_lone_part)
          ∙ ap (λ t. row_policy fields t row) (moved lines line fields p)
          ∙ row_meant fields writable (line + lines) row p h;
    }
