use Rattle.std.proofs.Common.{◌≡◌, ◌++◌, drop}
use Rattle.nk_sim.specs.Emitted.{sent_by_all}
use Rattle.nk_sim.proofs.sending.push_buckets.Given as goal

-- what is sent so far, then what the buckets that are left send, is all
abbrev pub invariant-loop-bucket : goal.invariant-loop-bucket
invariant-loop-bucket l =
    l.out.items ++ sent_by_all l.p (drop l.bucket-index l.buckets) ≡ l.fn.out.items ++ sent_by_all l.p l.buckets
