use Rattle.std.proofs.Common.{◌≡◌, ◌+◌, ◌-◌}
use Rattle.nk_input.proofs.SoFar.{IsReadSoFar}
use Rattle.nk_input.proofs.pieces.read_pieces.Given as goal
use Rattle.nk_reply.specs.Answer.{limit}

-- what was read so far
abbrev pub invariant-pieces : goal.invariant-pieces
invariant-pieces g l = record {
  so_far : IsReadSoFar (g.S.Source.left l.fn.source) (g.S.Source.left l.source) (g.R.TokenReader.has_taken l.reader) l.feed l.taken;
  same : g.S.Source.faults l.source ≡ g.S.Source.faults l.fn.source;
}

abbrev pub decreases-pieces : goal.decreases-pieces
decreases-pieces g l = (limit + 1) - l.taken
