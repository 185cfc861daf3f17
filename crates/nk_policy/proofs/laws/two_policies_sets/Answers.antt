use Rattle.nk_policy.specs.PositionSets.{IsPositionOfEither, IsNextOfEither}
use Rattle.nk_policy.proofs.PositionSteps.{set_follows, set_by_steps, start_of_two, next_of_two, left_members, right_members, left_gives, right_gives}
use Rattle.nk_policy.proofs.laws.two_policies_sets.Goals as goal

pub returns-clause-start : goal.returns-clause-start
returns-clause-start c = λ p q n pk. start_of_two p q n pk

pub returns-clause-next : goal.returns-clause-next
returns-clause-next c = λ p q n pk u y s next h. set_follows (IsPositionOfEither p q pk) pk (IsNextOfEither p q) (next_of_two p q n pk) u y s next h

pub returns-clause-steps : goal.returns-clause-steps
returns-clause-steps c = λ p q n pk u s t r. set_by_steps (IsPositionOfEither p q pk) pk (IsNextOfEither p q) (next_of_two p q n pk) (start_of_two p q n pk) u s t r

pub returns-clause-left_members : goal.returns-clause-left_members
returns-clause-left_members c = λ p q n pk u s h l. left_members p q n pk u s h l

pub returns-clause-right_members : goal.returns-clause-right_members
returns-clause-right_members c = λ p q n pk u s h l. right_members p q n pk u s h l

pub returns-clause-left_end : goal.returns-clause-left_end
returns-clause-left_end c = λ p q n pk u z s h. left_gives p q n pk u z s h

pub returns-clause-right_end : goal.returns-clause-right_end
returns-clause-right_end c = λ p q n pk u z s h. right_gives p q n pk u z s h
