use Rattle.std.proofs.Common.{◌+◌, ◌*◌, ◌-◌, ◌≤◌}
use Rattle.nk_store.specs.StoreState.{Grows, look}
use Rattle.nk_apply.specs.Seqs.{seq_leaf}
use Rattle.nk_algebra.proofs.Chosen.{Serving, value_leaf}
use Rattle.nk_algebra.proofs.seqs.+seq.Given as goal

abbrev pub decreases-sequence : goal.decreases-sequence
decreases-sequence l = 4 * l.a + 3

abbrev pub decreases-sequence_anew : goal.decreases-sequence_anew
decreases-sequence_anew l = 4 * l.a + 2

abbrev pub decreases-seq_case : goal.decreases-seq_case
decreases-seq_case l = 4 * l.a + 1

abbrev pub decreases-seq_parts : goal.decreases-seq_parts
decreases-seq_parts l = 4 * l.a

abbrev pub invariant-seq_parts-loop-parts : goal.invariant-seq_parts-loop-parts
invariant-seq_parts-loop-parts l = record {
  grows : Grows l.fn.st l.st;
  within : l.from ≤ l.max;
  made : Serving (value_leaf (λ pk x. seq_leaf x (look l.fn.st l.b) pk) l.fn.st l.f l.a) l.st l.f l.from l.parts;
}

abbrev pub decreases-seq_parts-loop-parts : goal.decreases-seq_parts-loop-parts
decreases-seq_parts-loop-parts l = l.max - l.from
