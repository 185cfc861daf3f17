use Rattle.std.proofs.Common.{◌≡◌, ◌++◌, drop}
use Rattle.nk_store.specs.Operations.{lacking}
use Rattle.nk_star.proofs.differences.missing_outs.Given as goal

abbrev pub invariant-loop-o : goal.invariant-loop-o
invariant-loop-o l = l.all ++ lacking (drop l.o-index l.a) l.b ≡ lacking l.a l.b
