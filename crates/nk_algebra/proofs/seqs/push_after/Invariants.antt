use Rattle.std.proofs.Common.{◌≡◌, ◌++◌, map, take}
use Rattle.nk_apply.specs.Seqs.{out_after}
use Rattle.nk_algebra.proofs.seqs.push_after.Given as goal

abbrev pub invariant-loop-o : goal.invariant-loop-o
invariant-loop-o l = l.all ≡ l.initial.all ++ map (out_after l.act) (take l.o-index l.outs)
