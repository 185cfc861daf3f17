use Rattle.std.proofs.Common.{◌≡◌, ◌+◌, ◌*◌, ◌++◌, drop}
use Rattle.std.specs.Prelude.{map}
use Rattle.std.specs.List.{flat_map}
use Rattle.nk_policy.specs.Tree.{tree_of}
use Rattle.nk_store.specs.Nodes.{Rises}
use Rattle.nk_sets.specs.Predicate.{terms_of}
use Rattle.nk_sets.specs.Trees.{set_tree}
use Rattle.nk_sets.specs.PolicyOf.{intervals_at}
use Rattle.nk_sets.proofs.predicate.+policy.Given as goal

abbrev pub decreases-policy : goal.decreases-policy
decreases-policy l = 4 * l.s + 3

abbrev pub decreases-choice_policy : goal.decreases-choice_policy
decreases-choice_policy l = 4 * l.s + 2

abbrev pub decreases-push_part : goal.decreases-push_part
decreases-push_part l = 4 * l.c + 5

abbrev pub decreases-guarded : goal.decreases-guarded
decreases-guarded l = 4 * l.c + 4

abbrev pub invariant-choice_policy-loop-end : goal.invariant-choice_policy-loop-end
invariant-choice_policy-loop-end l = record {
  rise : Rises l.high l.from (drop l.end-index l.parts);
  made : map tree_of l.terms.items ++ flat_map (terms_of l.f (set_tree l.st l.other)) (intervals_at l.st (drop l.end-index l.parts) l.from) ≡ flat_map (terms_of l.f (set_tree l.st l.other)) (intervals_at l.st l.parts 0);
}

abbrev pub decreases-push_else : goal.decreases-push_else
decreases-push_else l = 4 * l.other + 5
