use Rattle.std.proofs.Common.{◌≡◌, ◌+◌, min, take}
use Rattle.nk_lex.specs.Lex.{largest, value_of}
use Rattle.nk_number_forms.proofs.numbers.value.Given as goal

-- the value of the digits so far
abbrev pub invariant-loop-digit : goal.invariant-loop-digit
invariant-loop-digit l = l.value ≡ min (value_of (take l.digit-index l.digits)) (largest + 1)
