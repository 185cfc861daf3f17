use Rattle.nk_compile.proofs.PairRows.{pair_plannable}
use Rattle.nk_compile.proofs.PairTags.{pair_tags}
use Rattle.nk_compile.proofs.laws.the_numbered_pair_can_be_planned.Goals as goal

pub returns-clause-plannable : goal.returns-clause-plannable
returns-clause-plannable c = λ fields topo p q old new k counted a b. pair_plannable fields topo p q old new k counted a b

pub returns-clause-tags : goal.returns-clause-tags
returns-clause-tags c = λ fields topo p q old new k f l pd pr pc qd qr qc counted a b. pair_tags fields topo p q old new k f l pd pr pc qd qr qc counted a b
