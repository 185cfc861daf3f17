use Rattle.std.proofs.Common.{rules, arith}
use Rattle.nk_words.proofs.Numbers.{no_number}
use Rattle.nk_words.proofs.number.number.Goals as goal

pub returns-in_default-2 : goal.returns-in_default-2
returns-in_default-2 c = no_number c.args.largest c.args.word.now (omega arith) (search rules) c.in_default.ensures.value.0
