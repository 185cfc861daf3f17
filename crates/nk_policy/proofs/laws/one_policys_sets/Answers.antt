use Rattle.nk_policy.specs.PositionSets.{IsPosition, IsRecordedNext}
use Rattle.nk_policy.proofs.PositionSteps.{start_set, set_follows, set_by_steps, next_of_one, gives_from_member}
use Rattle.nk_policy.proofs.laws.one_policys_sets.Goals as goal

pub returns-clause-start : goal.returns-clause-start
returns-clause-start c = λ p pk. start_set

pub returns-clause-next : goal.returns-clause-next
returns-clause-next c = λ p n pk u y s next h. set_follows (IsPosition p pk) pk (IsRecordedNext p) (next_of_one p n pk) u y s next h

pub returns-clause-steps : goal.returns-clause-steps
returns-clause-steps c = λ p n pk u s t r. set_by_steps (IsPosition p pk) pk (IsRecordedNext p) (next_of_one p n pk) start_set u s t r

pub returns-clause-end : goal.returns-clause-end
returns-clause-end c = λ p n pk u z s h. gives_from_member p n pk u z s h
