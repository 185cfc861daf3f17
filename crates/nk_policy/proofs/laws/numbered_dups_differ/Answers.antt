use Rattle.nk_policy.proofs.Numbering.{numbered_distinct, numbered_apart, numbered_from, numbered_sides}
use Rattle.nk_policy.proofs.Remade.{marked_numbers, numbers_are}
use Rattle.nk_policy.proofs.laws.numbered_dups_differ.Goals as goal

pub returns-clause-in_order : goal.returns-clause-in_order
returns-clause-in_order c = λ p n. marked_numbers p n

pub returns-clause-listed : goal.returns-clause-listed
returns-clause-listed c = λ p l. numbers_are p l

pub returns-clause-distinct : goal.returns-clause-distinct
returns-clause-distinct c = λ p n e. numbered_distinct p n e

pub returns-clause-apart : goal.returns-clause-apart
returns-clause-apart c = λ p q n m e f le l h g. numbered_apart p q n m e f le l h g

pub returns-clause-numbered : goal.returns-clause-numbered
returns-clause-numbered c = λ p n le e. numbered_from p n le e

pub returns-clause-sides : goal.returns-clause-sides
returns-clause-sides c = λ p q n le e f. numbered_sides p q n le e f
