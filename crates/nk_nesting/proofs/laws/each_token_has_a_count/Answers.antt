use Rattle.nk_nesting.proofs.CertifiedFollowing.{certified_goes}
use Rattle.nk_nesting.proofs.Counting.{goes_with}
use Rattle.nk_nesting.proofs.laws.each_token_has_a_count.Goals as goal

pub returns-clause-texts : goal.returns-clause-texts
returns-clause-texts c = goes_with

pub returns-clause-certificates : goal.returns-clause-certificates
returns-clause-certificates c = certified_goes
