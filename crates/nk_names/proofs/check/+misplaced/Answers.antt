use Rattle.std.proofs.Common.{◌∙◌, sym, ap}
use Rattle.nk_grammar.specs.Tree.{tree_of, not_of}
use Rattle.nk_names.specs.Meant.{misplaced_in}
use Rattle.nk_names.proofs.Misplaced.{misplaced_not}
use Rattle.nk_names.proofs.check.+misplaced.Goals as goal

pub first_misplaced-returns-in-Not : goal.first_misplaced-returns-in-Not
first_misplaced-returns-in-Not t c =
    c.fault_if.ensures
    ∙ misplaced_not c.args.fields.now c.args.lets.now.entries.items (tree_of c.deref.result.now) c.in-Not.line c.is_predicate-negated.result c.is_predicate-negated.ensures
    ∙ ap (λ u. misplaced_in c.args.fields.now c.args.lets.now.entries.items (not_of (tree_of u) c.in-Not.line)) c.deref.ensures
    ∙ ap (λ u. misplaced_in c.args.fields.now c.args.lets.now.entries.items (tree_of u)) (sym c.in-Not.is)
