use Rattle.nk_cert.proofs.FromLevels.{is_printed}
use Rattle.nk_cert.proofs.Levels.{same_by_levels}
use Rattle.nk_cert.proofs.Printing.{is_certificate}
use Rattle.nk_cert.proofs.Together.{sides_of}
use Rattle.nk_check.proofs.laws.levels_give_the_printed_certificate.Goals as goal

pub returns-clause-printed : goal.returns-clause-printed
returns-clause-printed c = λ fields p q states left right first old new final ss set start bad ls lv differ grown grew cert made.
    is_printed fields p q states left right first old new final ss set start bad ls lv differ grown grew cert made

pub returns-clause-is_one : goal.returns-clause-is_one
returns-clause-is_one c = λ fields p q states left right first old new final ss set start bad ls lv differ grown grew rp rq cert made.
    is_certificate fields p q (sides_of p q lv.automaton.numbered) rp rq
    (same_by_levels fields p q states left right first old new ss set start bad ls _ lv lv.levels) cert
    (is_printed fields p q states left right first old new final ss set start bad ls lv differ grown grew cert made)
