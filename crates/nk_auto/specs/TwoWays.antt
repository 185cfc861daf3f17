-- Both what a policy does without a record and what it records first, as two diagrams.
use Rattle.std.specs.Prelude.{ℕ, []}
use Rattle.nk_policy.specs.Policy.{Policy}
use Rattle.nk_store.specs.StoreState.{StoreState, HasLeaves}
use Rattle.nk_auto.specs.Continued.{IsSilent, IsContinued}

-- the runs without a record, and what is recorded first: the policy continued by the diagram of no packet
pub record AreWays (st : StoreState) (silent records nothing : ℕ) (p : Policy) : Type 0 where
  pub silently : IsSilent st silent p
  pub recording : IsContinued st records p nothing
  pub none : HasLeaves st nothing (λ pk. [])
