use Rattle.nk_compact.proofs.Merging.{merged_carries, named_merged_carries}
use Rattle.nk_compact.proofs.laws.the_merged_table_carries.Goals as goal

pub returns-clause-compilable : goal.returns-clause-compilable
returns-clause-compilable c = λ program p tags classes t f l d r k table. merged_carries program p tags classes t f l d r k table

pub returns-clause-named : goal.returns-clause-named
returns-clause-named c = λ program name p tags classes t ok named k table. named_merged_carries program name p tags classes t ok named k table
