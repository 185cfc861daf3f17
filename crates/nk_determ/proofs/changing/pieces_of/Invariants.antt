use Rattle.std.proofs.Common.{◌-◌, ◌≤◌}
use Rattle.nk_store.specs.StoreState.{Grows}
use Rattle.nk_apply.proofs.Built.{Built}
use Rattle.nk_determ.proofs.Pieces.{piece_leaf}
use Rattle.nk_determ.proofs.changing.pieces_of.Given as goal

abbrev pub invariant-loop-pieces : goal.invariant-loop-pieces
invariant-loop-pieces l = record {
  grows : Grows l.fn.st l.st;
  within : l.from ≤ l.max;
  built : Built (piece_leaf l.fn.st l.f l.d) l.st l.f l.from l.pieces;
}

abbrev pub decreases-loop-pieces : goal.decreases-loop-pieces
decreases-loop-pieces l = l.max - l.from
