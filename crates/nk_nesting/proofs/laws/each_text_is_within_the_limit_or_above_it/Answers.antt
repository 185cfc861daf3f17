use Rattle.nk_nesting.proofs.CertifiedLimits as certificates
use Rattle.nk_nesting.proofs.Limits as texts
use Rattle.nk_nesting.proofs.laws.each_text_is_within_the_limit_or_above_it.Goals as goal

pub returns-clause-texts : goal.returns-clause-texts
returns-clause-texts c = texts.text_divides

pub returns-clause-certificates : goal.returns-clause-certificates
returns-clause-certificates c = certificates.text_divides
