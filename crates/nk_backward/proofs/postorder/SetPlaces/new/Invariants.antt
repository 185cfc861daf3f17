use Rattle.std.proofs.Common.{◌≡◌, length}
use Rattle.nk_backward.proofs.postorder.SetPlaces.new.Given as goal

abbrev pub invariant-loop-k : goal.invariant-loop-k
invariant-loop-k l = length l.next ≡ length l.ts
