use Rattle.std.proofs.Common.{◌≡◌, ◌++◌, drop}
use Rattle.std.specs.Prelude.{map, slice_index}
use Rattle.std.specs.List.{flat_map}
use Rattle.nk_policy.specs.Tree.{tree_of}
use Rattle.nk_store.specs.Nodes.{Rises}
use Rattle.nk_sets.specs.Predicate.{conditions_of}
use Rattle.nk_sets.specs.Trees.{set_tree}
use Rattle.nk_sets.specs.PolicyOf.{intervals_at}
use Rattle.nk_sets.proofs.predicate.else_test.Given as goal

abbrev pub invariant-loop-end : goal.invariant-loop-end
invariant-loop-end l = record {
  rise : Rises (slice_index l.st.maxes l.f) l.from (drop l.end-index l.parts);
  made : map tree_of l.conditions.items ++ flat_map (conditions_of l.f (set_tree l.st l.other)) (intervals_at l.st (drop l.end-index l.parts) l.from) ≡ flat_map (conditions_of l.f (set_tree l.st l.other)) (intervals_at l.st l.parts 0);
}
