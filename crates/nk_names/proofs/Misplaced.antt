-- In a predicate no `~` is misplaced.
use Rattle.std.proofs.Common.{◌≡◌, ℕ, Bool, true, false, None, not, refl, sym, ap, ◌∙◌}
use Rattle.std.specs.Option.{option_or}
use Rattle.nk_lex.specs.Faults.{first_of}
use Rattle.nk_field.specs.Packet.{FieldTable}
use Rattle.nk_policy.specs.Policy.{is_predicate, are_predicates}
use Rattle.nk_policy.proofs.Tests.{both_true}
use Rattle.nk_grammar.specs.Tree.{Tree, Trees, sum_of, seq_of, not_of, star_of, no_part, part}
use Rattle.nk_names.specs.declared.fault.FaultKind.TheVariants as kind
use Rattle.nk_names.specs.Meant.{Lets, MaybeTextFault, text_fault_if, policy_for, policies_for, misplaced_in, misplaced_among}

module _ (fields : FieldTable) (lets : Lets) where
  -- two that are none have no first
  none_first : (a b : MaybeTextFault) → a ≡ None → b ≡ None → first_of a b ≡ None
  none_first a b e f = ap (λ o. option_or o b) e ∙ f

  mutual
    pub none_misplaced : (t : Tree) → is_predicate (policy_for fields lets t) ≡ true → misplaced_in fields lets t ≡ None
    none_misplaced (sum_of ts) h = none_among ts h
    none_misplaced (seq_of ts) h = none_among ts h
    none_misplaced (not_of t line) h =
        none_first (text_fault_if (not (is_predicate (policy_for fields lets t))) kind.NotAPredicate line) (misplaced_in fields lets t) (ap (λ b. text_fault_if (not b) kind.NotAPredicate line) h) (none_misplaced t h)
    none_misplaced (star_of t) h = absurd cc
    none_misplaced t h = refl

    -- no `~` is misplaced in parts that are predicates
    pub none_among : (ts : Trees) → are_predicates (policies_for fields lets ts) ≡ true → misplaced_among fields lets ts ≡ None
    none_among no_part h = refl
    none_among (part t ts) h =
        let r = both_true (is_predicate (policy_for fields lets t)) (are_predicates (policies_for fields lets ts)) h in
        none_first (misplaced_in fields lets t) (misplaced_among fields lets ts) (none_misplaced t r.0) (none_among ts r.1)

  -- so whether the part of a `~` is a predicate decides alone
  pub misplaced_not : (t : Tree) (line : ℕ) (b : Bool) → b ≡ is_predicate (policy_for fields lets t)
      → text_fault_if (not b) kind.NotAPredicate line ≡ misplaced_in fields lets (not_of t line)
  misplaced_not t line true e =
      sym (none_first (text_fault_if (not (is_predicate (policy_for fields lets t))) kind.NotAPredicate line) (misplaced_in fields lets t) (ap (λ b. text_fault_if (not b) kind.NotAPredicate line) (sym e)) (none_misplaced t (sym e)))
  misplaced_not t line false e = ap (λ b. first_of (text_fault_if (not b) kind.NotAPredicate line) (misplaced_in fields lets t)) e
