use Rattle.std.proofs.Common.{◌≡◌, take}
use Rattle.nk_table.proofs.copies.buckets.Given as goal

-- the ones so far are copied
abbrev pub invariant-loop-bucket : goal.invariant-loop-bucket
invariant-loop-bucket l = l.copies ≡ take l.bucket-index l.all
