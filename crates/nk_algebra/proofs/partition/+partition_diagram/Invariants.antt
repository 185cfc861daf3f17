use Rattle.std.proofs.Common.{◌+◌, ◌*◌, ◌-◌, ◌≤◌}
use Rattle.std.specs.Prelude.{min}
use Rattle.nk_store.specs.StoreState.{Grows, root_field, look}
use Rattle.nk_apply.specs.Seqs.{seq_leaf}
use Rattle.nk_algebra.proofs.Splits.{kept_leaf}
use Rattle.nk_algebra.proofs.Chosen.{Serving, value_leaf}
use Rattle.nk_algebra.proofs.partition.+partition_diagram.Given as goal

abbrev pub decreases-seq_leaves : goal.decreases-seq_leaves
decreases-seq_leaves l = 200 * (18 - min (root_field l.st.now l.a) (root_field l.st.now l.b)) + 199

abbrev pub decreases-seq_partition : goal.decreases-seq_partition
decreases-seq_partition l = 200 * (18 - l.f) + 198

abbrev pub decreases-seq_moved : goal.decreases-seq_moved
decreases-seq_moved l = 200 * (18 - l.f) + 197

abbrev pub decreases-moved_parts : goal.decreases-moved_parts
decreases-moved_parts l = 200 * (18 - l.f) + 196

abbrev pub decreases-seq_to_values : goal.decreases-seq_to_values
decreases-seq_to_values l = 200 * (18 - l.f) + 195

abbrev pub decreases-seq_by_values : goal.decreases-seq_by_values
decreases-seq_by_values l = 200 * (18 - l.f) + 2 * l.turns + 2

abbrev pub decreases-seq_at_value : goal.decreases-seq_at_value
decreases-seq_at_value l = 200 * (18 - l.f) + 2 * l.turns + 3

abbrev pub decreases-seq_kept : goal.decreases-seq_kept
decreases-seq_kept l = 200 * (18 - l.f) + 1

abbrev pub decreases-kept_parts : goal.decreases-kept_parts
decreases-kept_parts l = 200 * (18 - l.f)

abbrev pub invariant-kept_parts-loop-parts : goal.invariant-kept_parts-loop-parts
invariant-kept_parts-loop-parts l = record {
  grows : Grows l.fn.st l.st;
  within : l.from ≤ l.max;
  made : Serving (kept_leaf l.fn.st l.f l.a l.b) l.st l.f l.from l.parts;
}

abbrev pub decreases-kept_parts-loop-parts : goal.decreases-kept_parts-loop-parts
decreases-kept_parts-loop-parts l = l.max - l.from

abbrev pub invariant-moved_parts-loop-parts : goal.invariant-moved_parts-loop-parts
invariant-moved_parts-loop-parts l = record {
  grows : Grows l.fn.st l.st;
  within : l.from ≤ l.max;
  made : Serving (value_leaf (λ pk x. seq_leaf x (look l.fn.st l.b) pk) l.fn.st l.f l.a) l.st l.f l.from l.parts;
}

abbrev pub decreases-moved_parts-loop-parts : goal.decreases-moved_parts-loop-parts
decreases-moved_parts-loop-parts l = l.max - l.from
