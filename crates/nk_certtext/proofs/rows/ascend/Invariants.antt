use Rattle.std.proofs.Common.{◌≡◌, drop}
use Rattle.nk_certtext.specs.Rows.{ascend, ascend_after}
use Rattle.nk_certtext.proofs.rows.ascend.Given as goal

-- whether what is left ascends from the last number on is whether all do
abbrev pub invariant-loop-n : goal.invariant-loop-n
invariant-loop-n l = ascend_after l.before (drop l.n-index l.positions) ≡ ascend l.positions
