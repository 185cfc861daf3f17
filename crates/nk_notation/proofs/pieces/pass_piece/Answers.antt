use Rattle.nk_notation.specs.Cutting.{lexemes_left}
use Rattle.nk_notation.proofs.SoFar.{passed}
use Rattle.nk_notation.proofs.pieces.pass_piece.Goals as goal

pub returns-in-Ok-clause-passes : goal.returns-in-Ok-clause-passes
returns-in-Ok-clause-passes g c =
    passed
    (λ text. g.N.Notation.made c.args.cutter.now.notation (lexemes_left c.args.cutter.now.state c.args.cutter.now.held.items text))
    (λ text. g.N.Notation.made c.take_piece.new.cutter.notation (lexemes_left c.take_piece.new.cutter.state c.take_piece.new.cutter.held.items text))
    c.args.piece.now c.args.written.now.items c.take_piece.new.written.items _ _ c.requires.empty c.in-Ok.ensures c.write_piece.ensures.sent
