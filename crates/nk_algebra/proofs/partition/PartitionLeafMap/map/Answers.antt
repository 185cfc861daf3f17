use Rattle.std.proofs.lemmas.Result.{IfOk-weaker}
use Rattle.nk_store.specs.Leaves.{Suits}
use Rattle.nk_algebra.specs.Partition.{partition}
use Rattle.nk_algebra.specs.Kinds.{is_of}
use Rattle.nk_algebra.proofs.Splits.{partition_ordered, partition_suits}
use Rattle.nk_apply.proofs.Gathers.{every_unordered}
use Rattle.nk_algebra.proofs.partition.PartitionLeafMap.map.Goals as goal

pub returns-clause-is : goal.returns-clause-is
returns-clause-is c = IfOk-weaker c.outs_partition.result _ _
    (λ r e. partition_ordered (is_of c.args.self.now.kind) c.args.self.now.chosen c.args.outs.now r e) c.outs_partition.ensures

pub returns-clause-suits : goal.returns-clause-suits
returns-clause-suits c = IfOk-weaker c.outs_partition.result _ _
    (λ r e. λ maxes u x.
    let K = is_of c.args.self.now.kind in
    every_unordered (Suits maxes) r (partition K c.args.self.now.chosen c.args.outs.now) (partition_ordered K c.args.self.now.chosen c.args.outs.now r e) (partition_suits maxes K c.args.self.now.chosen c.args.outs.now x)) c.outs_partition.ensures
