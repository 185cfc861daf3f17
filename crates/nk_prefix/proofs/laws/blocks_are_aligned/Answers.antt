use Rattle.std.proofs.Common.{◌+◌}
use Rattle.nk_prefix.specs.Blocks.{end_of}
use Rattle.nk_prefix.proofs.Covers.{ascends, blocks_are, single}
use Rattle.nk_prefix.proofs.Few.{few}
use Rattle.nk_prefix.proofs.laws.blocks_are_aligned.Goals as goal

pub returns-clause-ascend : goal.returns-clause-ascend
returns-clause-ascend c = λ lo hi max. ascends (end_of lo hi max) max (end_of lo hi max + 1) lo

pub returns-clause-each : goal.returns-clause-each
returns-clause-each c = blocks_are

pub returns-clause-single : goal.returns-clause-single
returns-clause-single c = single

pub returns-clause-few : goal.returns-clause-few
returns-clause-few c = few
