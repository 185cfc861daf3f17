use Rattle.nk_policy.specs.Tree.{tree_of}
use Rattle.nk_grammar.specs.Tree.{tree_of as written_of}
use Rattle.nk_names.proofs.Predicates.{row_fits, row_is_from}
use Rattle.nk_names.proofs.rows.resolve_over.Goals as goal

pub policy_of-requires : goal.policy_of-requires
policy_of-requires c =
    row_fits c.args.fields.now c.new-lets.result.entries.items (written_of c.args.ast.now) c.args.line c.in_ok-check_predicate.ensures

pub returns-clause-is : goal.returns-clause-is
returns-clause-is c =
    row_is_from c.args.fields.now c.new-lets.result.entries.items (written_of c.args.ast.now) c.args.line (tree_of c.in_ok-policy_of.field-0)
    c.declared-declared.ensures.is c.new-lets.ensures c.in_ok-check_predicate.ensures c.in_ok-policy_of.ensures
