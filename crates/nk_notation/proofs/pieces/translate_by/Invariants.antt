use Rattle.std.proofs.Common.{◌≡◌, ◌+◌, ◌-◌, []}
use Rattle.nk_reply.specs.Answer.{limit}
use Rattle.nk_notation.specs.Cutting.{lexemes_left}
use Rattle.nk_notation.proofs.SoFar.{IsSoFar}
use Rattle.nk_notation.proofs.pieces.translate_by.Given as goal

-- what was read and written so far
abbrev pub invariant-pieces : goal.invariant-pieces
invariant-pieces g l = record {
  so_far : IsSoFar (λ text. g.N.Notation.made l.fn.cutter.notation (lexemes_left l.fn.cutter.state l.fn.cutter.held.items text))
      (λ text. g.N.Notation.made l.cutter.notation (lexemes_left l.cutter.state l.cutter.held.items text))
      (g.S.Source.left l.fn.source) (g.S.Source.left l.source) (g.O.Sink.taken l.fn.out) (g.O.Sink.taken l.out) l.taken;
  same : g.S.Source.faults l.source ≡ g.S.Source.faults l.fn.source;
  quiet : g.O.Sink.faults l.out ≡ g.O.Sink.faults l.fn.out;
  empty : l.written.items ≡ [];
}

abbrev pub decreases-pieces : goal.decreases-pieces
decreases-pieces g l = (limit + 1) - l.taken
