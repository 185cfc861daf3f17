use Rattle.nk_compile.proofs.Printed.{printed_carries, accepted_carries}
use Rattle.nk_compile.proofs.laws.the_printed_table_carries.Goals as goal

pub returns-clause-compilable : goal.returns-clause-compilable
returns-clause-compilable c = λ program p t f l d r k table. printed_carries program p t f l d r k table

pub returns-clause-accepted : goal.returns-clause-accepted
returns-clause-accepted c = λ program name p t ok named a table. accepted_carries program name p t ok named a table
