use Rattle.std.proofs.Common.{◌≡◌, ◌++◌, drop}
use Rattle.std.specs.List.{flat_map}
use Rattle.nk_openflow.specs.Lines.{bucket_part}
use Rattle.nk_openflow.proofs.lines.push_buckets.Given as goal

-- what is made so far, then the rest, is the whole
abbrev pub invariant-loop-bucket : goal.invariant-loop-bucket
invariant-loop-bucket l =
    l.out.items ++ flat_map (bucket_part l.mapping) (drop l.bucket-index l.buckets) ≡ l.fn.out.items ++ flat_map (bucket_part l.mapping) l.buckets
