use Rattle.nk_merge.proofs.Lawful.{alike_back_to, alike_on_to}
use Rattle.nk_merge.proofs.laws.alike_sets_are_an_equivalence.Goals as goal

pub returns-clause-itself : goal.returns-clause-itself
returns-clause-itself c = λ st states s x r w y. (λ g. g, λ g. g)

pub returns-clause-back : goal.returns-clause-back
returns-clause-back c = λ st states s t h. alike_back_to st states s t h

pub returns-clause-on : goal.returns-clause-on
returns-clause-on c = λ st states s t u h k. alike_on_to st states s t u h k
