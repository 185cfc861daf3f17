use Rattle.std.proofs.Common.{refl, rules}
use Rattle.nk.proofs.Meant.{usage_meant}
use Rattle.nk.proofs.top.decide.Goals as goal

-- the words are no command, and nothing was read
pub returns-in-Err-Usage-clause-meant : goal.returns-in-Err-Usage-clause-meant
returns-in-Err-Usage-clause-meant g c = usage_meant _ _ (search rules) refl refl
