use Rattle.std.proofs.Common.{◌≡◌, drop}
use Rattle.nk_policy.specs.Policy.{are_predicates}
use Rattle.nk_grammar.specs.Tree.{trees_of}
use Rattle.nk_names.specs.Meant.{policies_for}
use Rattle.nk_names.proofs.check.+predicate.Given as goal

-- all parts are predicates where those that are left are
abbrev pub invariant-are_predicates-loop-q : goal.invariant-are_predicates-loop-q
invariant-are_predicates-loop-q l =
    are_predicates (policies_for l.fields l.lets.entries.items (trees_of (drop l.q-index l.parts)))
    ≡ are_predicates (policies_for l.fields l.lets.entries.items (trees_of l.parts))
