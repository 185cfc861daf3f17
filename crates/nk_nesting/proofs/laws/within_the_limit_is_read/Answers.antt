use Rattle.nk_nesting.proofs.CertifiedLimits as certificates
use Rattle.nk_nesting.proofs.Limits as texts
use Rattle.nk_nesting.proofs.laws.within_the_limit_is_read.Goals as goal

pub returns-clause-texts : goal.returns-clause-texts
returns-clause-texts c = texts.reads_within

pub returns-clause-certificates : goal.returns-clause-certificates
returns-clause-certificates c = certificates.reads_within
