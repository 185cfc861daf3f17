use Rattle.std.proofs.Common.{◌≡◌, refl, subst}
use Rattle.nk_policy.specs.Tree.{tree_of}
use Rattle.nk_difference.specs.Difference.{IsDifferenceOf}
use Rattle.nk_change_impact.specs.Impact.{impact_lines}
use Rattle.nk_change_impact.proofs.answer.answer_to_program.Goals as goal

-- the policies of both names do the same
pub returns-in-Same : goal.returns-in-Same
returns-in-Same c =
    let found = c.in-Ok.ensures.difference in
    record {
      named = record { program = c.args.program; says = refl; left_policy = found.0; right_policy = found.1; left_is = found.2; right_is = found.3 };
      same = subst (λ d. IsDifferenceOf c.args.program.fields found.0 found.1 d) c.in-Same.is found.4;
      told = c.in_ok-from_slice-in-Same.ensures.items;
    }

-- they differ, and the message has the predicates
pub returns-in-Ok : goal.returns-in-Ok
returns-in-Ok c =
    let found = c.in-Ok.ensures.difference in
    let left = tree_of c.in-Differs.on_left in
    let right = tree_of c.in-Differs.on_right in
    let text = c.in_ok-message-in-Differs.message.items in
    record {
      named = record { program = c.args.program; says = refl; left_policy = found.0; right_policy = found.1; left_is = found.2; right_is = found.3 };
      left_predicate = left;
      right_predicate = right;
      predicates = subst (λ d. IsDifferenceOf c.args.program.fields found.0 found.1 d) c.in-Differs.is found.4;
      told = subst (λ fields. text ≡ impact_lines fields left right) c.in-Ok.ensures.fields c.in_ok-message-in-Differs.ensures;
    }
