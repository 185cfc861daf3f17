use Rattle.nk_check.proofs.Findings.{one_finding, some_finding, not_nothing}
use Rattle.nk_cert.specs.Certificates.{certificate_rows}
use Rattle.nk_check.proofs.Deciding.{parts_decided}
use Rattle.nk_check.proofs.laws.one_thing_is_found.Goals as goal

pub returns-clause-at_most : goal.returns-clause-at_most
returns-clause-at_most c = λ fields p q cert v w f g. one_finding fields p q cert v w f g

pub returns-clause-not_nothing : goal.returns-clause-not_nothing
returns-clause-not_nothing c = λ fields p q cert none. not_nothing fields p q cert none

pub returns-clause-decided : goal.returns-clause-decided
returns-clause-decided c = λ fields p q cert decided. some_finding fields p q cert decided

pub returns-clause-automaton : goal.returns-clause-automaton
returns-clause-automaton c = λ fields st states left right p q a cert preds.
    some_finding fields p q cert (λ row i. parts_decided fields st states left right p q a (certificate_rows cert) preds row i)
