use Rattle.std.proofs.Common.{◌≡◌, take}
use Rattle.nk_apply.specs.Unions.{outs_in_turn}
use Rattle.nk_apply.proofs.many.outs_of_all.Given as goal

abbrev pub invariant-loop-i : goal.invariant-loop-i
invariant-loop-i l = l.all ≡ outs_in_turn l.st (take l.i l.ds)
