use Rattle.std.proofs.Common.{rules}
use Rattle.nk_notation.specs.Cutting.{lexemes_left}
use Rattle.nk_notation.proofs.SoFar.{ends_at_piece, ends_too_long, ends_unread, ends_with_text, more_so_far}
use Rattle.nk_notation.proofs.Sound.{sound_rest}
use Rattle.nk_notation.proofs.pieces.translate_by.Goals as goal

-- the source failed
pub returns-in-Err-ReadFault : goal.returns-in-Err-ReadFault
returns-in-Err-ReadFault g c =
    let cause = rw c.in-Err-ReadFault.field-0-is at c.in-Err-ReadFault.ensures.cause in
    ends_unread
    (λ text. g.N.Notation.made c.args.cutter.now.notation (lexemes_left c.args.cutter.now.state c.args.cutter.now.held.items text))
    (λ text. g.N.Notation.made c.pieces.cutter.notation (lexemes_left c.pieces.cutter.state c.pieces.cutter.held.items text))
    _ _ _ _ _ _ _ _ _ _ _ c.pieces.invariant.so_far
    (sound_rest g.N.Notation.made g.N.Notation.sound c.pieces.cutter.notation c.pieces.cutter.state c.pieces.cutter.held.items c.pieces.cutter.holds)
    cause.2 cause.0 c.pieces.invariant.same c.pieces.invariant.quiet

-- the text is too long
pub returns-in-Err-TooLong : goal.returns-in-Err-TooLong
returns-in-Err-TooLong g c =
    let cause = rw c.in-Err-TooLong.field-0-is at c.in-Err-TooLong.ensures.cause in
    ends_too_long
    (λ text. g.N.Notation.made c.args.cutter.now.notation (lexemes_left c.args.cutter.now.state c.args.cutter.now.held.items text))
    (λ text. g.N.Notation.made c.pieces.cutter.notation (lexemes_left c.pieces.cutter.state c.pieces.cutter.held.items text))
    _ _ _ _ _ _ _ _ _ _ _ _ _ c.pieces.invariant.so_far
    (sound_rest g.N.Notation.made g.N.Notation.sound c.pieces.cutter.notation c.pieces.cutter.state c.pieces.cutter.held.items c.pieces.cutter.holds)
    (search rules) cause c.pieces.invariant.same c.pieces.invariant.quiet

-- the text is at its end
pub returns-then-count-eq0 : goal.returns-then-count-eq0
returns-then-count-eq0 g c =
    ends_with_text c.finish.result
    (λ text. g.N.Notation.made c.args.cutter.now.notation (lexemes_left c.args.cutter.now.state c.args.cutter.now.held.items text))
    (λ text. g.N.Notation.made c.pieces.cutter.notation (lexemes_left c.pieces.cutter.state c.pieces.cutter.held.items text))
    _ _ _ _ _ _ _ _ _ _ _ _ _ _ _ c.pieces.invariant.so_far (search rules) c.in-Ok.ensures.piece
    (c.in-Ok.ensures.ended (search rules)) (search rules) c.pieces.invariant.quiet c.finish.ensures

-- one more piece was written
pub pieces-preserved : goal.pieces-preserved
pieces-preserved g c = record {
  so_far = more_so_far c.in-Ok-pass_piece.field-0
      (λ text. g.N.Notation.made c.args.cutter.now.notation (lexemes_left c.args.cutter.now.state c.args.cutter.now.held.items text))
      (λ text. g.N.Notation.made c.pieces.cutter.notation (lexemes_left c.pieces.cutter.state c.pieces.cutter.held.items text))
      (λ text. g.N.Notation.made c.pass_piece.new.cutter.notation (lexemes_left c.pass_piece.new.cutter.state c.pass_piece.new.cutter.held.items text))
      _ _ _ _ _ _ _ _ _ _ _ _ c.pieces.invariant.so_far c.in-Ok.ensures.piece c.in-Ok.ensures.within c.in-Ok-pass_piece.ensures.passes;
  same = search rules;
  quiet = search rules;
  empty = c.in-Ok-pass_piece.ensures.empty;
}

-- the run ends at a piece
pub returns-in-Err : goal.returns-in-Err
returns-in-Err g c =
    ends_at_piece (Unit {0}) c.in-Err.ending
    (λ text. g.N.Notation.made c.args.cutter.now.notation (lexemes_left c.args.cutter.now.state c.args.cutter.now.held.items text))
    (λ text. g.N.Notation.made c.pieces.cutter.notation (lexemes_left c.pieces.cutter.state c.pieces.cutter.held.items text))
    (λ text. g.N.Notation.made c.pass_piece.new.cutter.notation (lexemes_left c.pass_piece.new.cutter.state c.pass_piece.new.cutter.held.items text))
    _ _ _ _ _ _ _ _ _ _ _ _ _ _ _ c.pieces.invariant.so_far c.in-Ok.ensures.piece c.in-Ok.ensures.within (search rules) c.pieces.invariant.quiet
    c.in-Err.ensures.passes
