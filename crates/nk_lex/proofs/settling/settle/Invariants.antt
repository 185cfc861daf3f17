use Rattle.std.proofs.Common.{◌-◌, length}
use Rattle.nk_lex.proofs.Loops.{Going}
use Rattle.nk_lex.proofs.settling.settle.Given as goal

-- the tokens so far, and what is left, are all
abbrev pub invariant-lexemes : goal.invariant-lexemes
invariant-lexemes l = Going l.bytes l.at l.line l.fn.before.items l.from l.here l.tokens.items

abbrev pub decreases-lexemes : goal.decreases-lexemes
decreases-lexemes l = length l.bytes - l.from
