use Rattle.std.proofs.Common.{rules, ◌∙◌}
use Rattle.nk_input.proofs.SoFar.{more_so_far, read_whole, within_so_far}
use Rattle.nk_input.proofs.pieces.read_pieces.Goals as goal

-- the bytes so far and this piece are more than an input may have
pub returns-in-Err-TooLong-clause-cause : goal.returns-in-Err-TooLong-clause-cause
returns-in-Err-TooLong-clause-cause g c =
    let cause = rw c.in-Err-TooLong.field-0-is at c.in-Err-TooLong.ensures.cause in (
      cause.0 ∙ c.pieces.invariant.same,
      more_so_far _ _ _ _ _ _ _ _ _ _ c.pieces.invariant.so_far cause,
    )

-- the source is at its end
pub returns-in-Ok-end_text-clause-lexed : goal.returns-in-Ok-end_text-clause-lexed
returns-in-Ok-end_text-clause-lexed g c =
    read_whole _ _ _ _ _ _ _ _ _ _ _ c.pieces.invariant.so_far (search rules) c.in-Ok.ensures.piece
    (c.in-Ok.ensures.ended (search rules)) c.in-Ok-end_text.ensures

-- memory ran out at the tokens of a piece
pub returns-then-is_err-clause-cause : goal.returns-then-is_err-clause-cause
returns-then-is_err-clause-cause g c = (
  search rules,
  within_so_far _ _ _ _ _ _ _ _ _ c.pieces.invariant.so_far c.in-Ok.ensures.within c.in-Ok.ensures.piece,
)
