use Rattle.nk_merge.proofs.Lawful.{first_copy, second_copy}
use Rattle.nk_merge.proofs.laws.each_copy_gives_the_same.Goals as goal

pub returns-clause-once : goal.returns-clause-once
returns-clause-once c = λ st states rows ok tidy tw set x w y p r. first_copy st states ok tidy rows tw set x w y p r

pub returns-clause-disjoint : goal.returns-clause-disjoint
returns-clause-disjoint c = λ st states rows ok tidy tw set x w y p above r. second_copy st states ok tidy rows tw set x w y p r above
