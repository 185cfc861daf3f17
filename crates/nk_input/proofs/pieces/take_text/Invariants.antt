use Rattle.std.specs.Prelude.{length}
use Rattle.nk_input.proofs.TakenTexts.{IsTakenSoFar}
use Rattle.nk_input.proofs.pieces.take_text.Given as goal

-- what was taken so far
abbrev pub invariant-pieces : goal.invariant-pieces
invariant-pieces g l = IsTakenSoFar l.text l.rest (g.R.TokenReader.has_taken l.reader) l.feed

abbrev pub decreases-pieces : goal.decreases-pieces
decreases-pieces g l = length l.rest
