use Rattle.std.proofs.Common.{sym, ◌∙◌}
use Rattle.nk_policy.specs.Tree.{tree_of}
use Rattle.nk_auto.proofs.Guarding.{predicate_guards}
use Rattle.nk_auto.proofs.guards.guard_of_sum.Goals as goal

pub returns-then-is_predicate-clause-guard : goal.returns-then-is_predicate-clause-guard
returns-then-is_predicate-clause-guard c =
    predicate_guards (tree_of c.args.p.now) (sym c.is_predicate.ensures ∙ c.if-is_predicate.true)
