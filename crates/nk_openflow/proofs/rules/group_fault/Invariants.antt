use Rattle.std.proofs.Common.{◌≡◌, drop}
use Rattle.nk_openflow.specs.Rules.{buckets_fault}
use Rattle.nk_openflow.proofs.rules.group_fault.Given as goal

-- what is passed says nothing
abbrev pub invariant-loop-bucket : goal.invariant-loop-bucket
invariant-loop-bucket l =
    (buckets_fault l.mapping (drop l.bucket-index l.bucket-items) ≡ buckets_fault l.mapping l.bucket-items)
    × (l.bucket-items ≡ l.group.buckets)
