use Rattle.std.proofs.Common.{◌≡◌, ◌≤◌, ◌-◌, ◌++◌, List, ℕ, drop, length}
use Rattle.nk_notation.specs.Cutting.{lexemes_left}
use Rattle.nk_notation.specs.Translation.{then_rest}
use Rattle.nk_notation.proofs.pieces.take_piece.Given as goal

-- what was written and what comes of the bytes that are left are what comes of all
abbrev pub invariant-lexemes : goal.invariant-lexemes
invariant-lexemes g l = record {
  within : l.at ≤ length l.piece;
  all : (more : List ℕ) →
      then_rest l.fn.written.items (g.N.Notation.made l.fn.cutter.notation (lexemes_left l.fn.cutter.state l.fn.cutter.held.items (l.fn.piece ++ more)))
      ≡ then_rest l.written.items (g.N.Notation.made l.cutter.notation (lexemes_left l.cutter.state l.cutter.held.items (drop l.at l.piece ++ more)));
}

abbrev pub decreases-lexemes : goal.decreases-lexemes
decreases-lexemes g l = length l.piece - l.at
