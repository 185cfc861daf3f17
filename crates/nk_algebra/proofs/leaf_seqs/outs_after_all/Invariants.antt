use Rattle.std.proofs.Common.{◌≡◌, ◌++◌, ◌-◌}
use Rattle.nk_apply.specs.Seqs.{outs_made}
use Rattle.nk_apply.specs.Unions.{in_turn}
use Rattle.nk_algebra.proofs.leaf_seqs.outs_after_all.Given as goal

abbrev pub invariant-loop-i : goal.invariant-loop-i
invariant-loop-i l = l.all ++ in_turn (outs_made l.firsts l.seconds) l.i (l.to - l.i) ≡ in_turn (outs_made l.firsts l.seconds) l.from (l.to - l.from)
