use Rattle.nk_uniqueness.proofs.Worked.{several_tables, small_policy, smallest_is_one, small_difference}
use Rattle.nk_uniqueness.proofs.laws.worked_answers.Goals as goal

pub returns-clause-met : goal.returns-clause-met
returns-clause-met c = small_policy c.the_smallest_table_is_printed.ensures.4

pub returns-clause-smallest : goal.returns-clause-smallest
returns-clause-smallest c = λ u h. smallest_is_one c.the_smallest_table_is_printed.ensures.5 u h

pub returns-clause-difference : goal.returns-clause-difference
returns-clause-difference c = small_difference

pub returns-clause-several : goal.returns-clause-several
returns-clause-several c = several_tables
