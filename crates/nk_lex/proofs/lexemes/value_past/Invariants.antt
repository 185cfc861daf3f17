use Rattle.std.proofs.Common.{◌≡◌, ◌+◌, min, take}
use Rattle.nk_lex.specs.Lex.{largest}
use Rattle.nk_lex.specs.Kept.{value_on}
use Rattle.nk_lex.proofs.lexemes.value_past.Given as goal

abbrev pub invariant-loop-digit : goal.invariant-loop-digit
invariant-loop-digit l = l.value ≡ min (value_on l.front (take l.digit-index l.digits)) (largest + 1)
