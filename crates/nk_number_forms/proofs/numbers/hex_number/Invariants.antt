use Rattle.std.proofs.Common.{◌≡◌, ◌+◌, min, take}
use Rattle.nk_lex.specs.Lex.{largest}
use Rattle.nk_number_forms.specs.Numbers.{hex_number}
use Rattle.nk_number_forms.proofs.numbers.hex_number.Given as goal

-- the value of the digits so far
abbrev pub invariant-loop-digit : goal.invariant-loop-digit
invariant-loop-digit l = l.value ≡ min (hex_number (take l.digit-index l.digits)) (largest + 1)
