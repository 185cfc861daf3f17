use Rattle.nk_merge.proofs.Growing.{gives_on, gives_back, alike_on, alike_back, disjoint_on}
use Rattle.nk_merge.proofs.laws.sets_give_as_the_store_grows.Goals as goal

pub returns-clause-gives : goal.returns-clause-gives
returns-clause-gives c = λ old new states g ok set x w y p r. (
  λ h. gives_on old new states g ok set x w y p r h,
  λ h. gives_back old new states g ok set x w y p r h,
)

pub returns-clause-alike : goal.returns-clause-alike
returns-clause-alike c = λ old new states g ok s t sp tp. (
  λ h. alike_on old new states g ok s t sp tp h,
  λ h. alike_back old new states g ok s t sp tp h,
)

pub returns-clause-disjoint : goal.returns-clause-disjoint
returns-clause-disjoint c = λ old new states t g k. disjoint_on old new states t g k
