use Rattle.std.proofs.Common.{rules, ap, ◌+◌, arith}
use Rattle.nk_notation.proofs.WholeWords.{front_word}
use Rattle.nk_notation.proofs.cutter.word_length.Goals as goal

-- a word stands whole at the front
pub returns-then-count-le-LONGEST_WORD-clause-word : goal.returns-then-count-le-LONGEST_WORD-clause-word
returns-then-count-le-LONGEST_WORD-clause-word c some more =
    front_word c.args.bytes.now more (c.run_length-count.result + 1) (omega arith) (search rules)
    (ap (λ n. n + 1) c.run_length-count.ensures.length) (omega arith) (omega arith)
