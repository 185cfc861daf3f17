use Rattle.nk_lex.proofs.Standing.{numbers_are_digits}
use Rattle.nk_lex.proofs.laws.a_number_has_the_value_of_its_digits.Goals as goal

pub returns : goal.returns
returns c = numbers_are_digits
