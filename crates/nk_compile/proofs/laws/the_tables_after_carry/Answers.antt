use Rattle.nk_compile.proofs.Printed.{after_carries, accepted_after_carries}
use Rattle.nk_compile.proofs.laws.the_tables_after_carry.Goals as goal

pub returns-clause-compilable : goal.returns-clause-compilable
returns-clause-compilable c = λ program first p t f l d r k table. after_carries program first p t f l d r k table

pub returns-clause-accepted : goal.returns-clause-accepted
returns-clause-accepted c = λ program name first p t ok named a table. accepted_after_carries program name first p t ok named a table
