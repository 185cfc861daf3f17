use Rattle.std.proofs.Common.{◌≡◌, ◌++◌, drop}
use Rattle.nk_extract.specs.Ways.{bucket_list}
use Rattle.nk_extract.proofs.out_buckets.buckets.Given as goal

abbrev pub invariant-loop-out : goal.invariant-loop-out
invariant-loop-out l = l.all ++ bucket_list l.tag (drop l.out-index l.outs) ≡ bucket_list l.tag l.outs
