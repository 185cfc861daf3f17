use Rattle.std.proofs.Common.{◌-◌}
use Rattle.nk_algebra.proofs.seqs.+seq_some.Given as goal

abbrev pub decreases-seq_some : goal.decreases-seq_some
decreases-seq_some l = l.to - l.from
