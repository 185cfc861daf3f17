use Rattle.std.proofs.Common.{◌-◌, length}
use Rattle.nk_lex.proofs.Steps.{Kept}
use Rattle.nk_lex.proofs.lexemes.tokens.Given as goal

-- what was read so far, and what is left, are all
abbrev pub invariant-lexemes : goal.invariant-lexemes
invariant-lexemes l = Kept l.text l.at l.line l.tokens.items

abbrev pub decreases-lexemes : goal.decreases-lexemes
decreases-lexemes l = length l.text - l.at
