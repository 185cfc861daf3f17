use Rattle.std.proofs.Common.{◌-◌}
use Rattle.nk_algebra.proofs.leaf_seqs.+seq_blocks.Given as goal

abbrev pub decreases-seq_blocks : goal.decreases-seq_blocks
decreases-seq_blocks l = l.to - l.from
