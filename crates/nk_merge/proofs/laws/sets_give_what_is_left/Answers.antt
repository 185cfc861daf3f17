use Rattle.nk_merge.proofs.Policies.{set_gives, alike_is}
use Rattle.nk_merge.proofs.laws.sets_give_what_is_left.Goals as goal

pub returns-clause-gives : goal.returns-clause-gives
returns-clause-gives c = λ st states p a d tidy set dups x w y r. set_gives p d st states a tidy set dups x w y r

pub returns-clause-alike : goal.returns-clause-alike
returns-clause-alike c = λ st states p a d tidy s t sd td. alike_is p d st states a tidy s t sd td
