use Rattle.std.proofs.Common.{◌-◌, ◌≤◌}
use Rattle.nk_apply.proofs.Built.{Built}
use Rattle.nk_algebra.proofs.Cuts.{piece_leaf}
use Rattle.nk_algebra.proofs.choices.finer.Given as goal

abbrev pub invariant-loop-pieces : goal.invariant-loop-pieces
invariant-loop-pieces l = record {
  within : l.from ≤ l.max;
  built : Built (piece_leaf l.st l.f l.parts) l.st l.f l.from l.pieces;
}

abbrev pub decreases-loop-pieces : goal.decreases-loop-pieces
decreases-loop-pieces l = l.max - l.from
