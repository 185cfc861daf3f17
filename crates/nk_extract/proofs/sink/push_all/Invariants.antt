use Rattle.std.proofs.Common.{◌≡◌, ◌++◌, drop}
use Rattle.nk_extract.proofs.sink.push_all.Given as goal

abbrev pub invariant-loop-m : goal.invariant-loop-m
invariant-loop-m l = l.all.items ++ drop l.m-index l.matches ≡ l.fn.all.items ++ l.matches
