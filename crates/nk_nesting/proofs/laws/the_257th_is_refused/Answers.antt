use Rattle.nk_nesting.proofs.CertifiedLimits as certificates
use Rattle.nk_nesting.proofs.Limits as texts
use Rattle.nk_nesting.proofs.laws.the_257th_is_refused.Goals as goal

pub returns-clause-texts : goal.returns-clause-texts
returns-clause-texts c = texts.refuses_257th

pub returns-clause-certificates : goal.returns-clause-certificates
returns-clause-certificates c = certificates.refuses_257th
