-- Sums whose parts each begin with a test or a range of one field, as a choice by the field's value. An arm is an interval of the
-- field's values and the diagram of what is done there (Dijkstra, CACM 1975: a guarded command).
use Rattle.std.specs.Prelude.{◌≡◌, ℕ, ◌↔◌, true, List, [], ◌∷◌, if◌then◌else◌, slice_index}
use Rattle.std.specs.List.{Contains}
use Rattle.nk_policy.specs.Policy.{Policy, assign}
use Rattle.nk_policy.specs.Meaning.{Gives}
use Rattle.nk_store.specs.declared.node.Out.{Out}
use Rattle.nk_store.specs.StoreState.{StoreState, IsChild, IsStorePacket, look}
use Rattle.nk_apply.specs.Predicates.{HasOnlyFinals}
use Rattle.nk_auto.specs.Plain.{Sends}
use Rattle.nk_auto.specs.Continued.{IsFit, IsSilent}
use Rattle.nk_auto.specs.Values.{is_between}

-- the leaf of the first arm whose interval holds the value, else nothing
abbrev pub arm_leaf : StoreState → List ((ℕ × ℕ) × ℕ) → ℕ → List ℕ → List Out
arm_leaf st [] v pk = []
arm_leaf st (x ∷ xs) v pk = if is_between v x.0 then look st x.1 pk else arm_leaf st xs v pk

-- without a record the policy ends where the field's value is in the interval, as the diagram says, which tests later fields alone
pub record IsArm (st : StoreState) (f : ℕ) (x : (ℕ × ℕ) × ℕ) (p : Policy) : Type 0 where
  pub child : IsChild st f x.1
  pub ends : HasOnlyFinals (look st x.1)
  pub sends : IsFit st.maxes p → (pk y : List ℕ) (t : ℕ) → IsStorePacket st pk →
      ((is_between (slice_index pk f) x.0 ≡ true) × Sends st x.1 pk y t) ↔ ((t ≡ 0) × Gives p pk [] y)

-- an arm whose interval holds the field's value sends the packet
abbrev pub OneArmSends : StoreState → ℕ → List ((ℕ × ℕ) × ℕ) → List ℕ → List ℕ → ℕ → Type 0
OneArmSends st f xs pk y t = (x : (ℕ × ℕ) × ℕ) × Contains xs x × (is_between (slice_index pk f) x.0 ≡ true) × Sends st x.1 pk y t

-- each diagram tests later fields alone
abbrev pub AreChildDiagrams : StoreState → ℕ → List ((ℕ × ℕ) × ℕ) → Type 0
AreChildDiagrams st f xs = (x : (ℕ × ℕ) × ℕ) → Contains xs x → IsChild st f x.1

-- without a record the policy ends where the field's value is in one of the intervals, as the diagram of that one says
pub record AreArms (st : StoreState) (f : ℕ) (xs : List ((ℕ × ℕ) × ℕ)) (p : Policy) : Type 0 where
  pub children : AreChildDiagrams st f xs
  pub ends : (x : (ℕ × ℕ) × ℕ) → Contains xs x → HasOnlyFinals (look st x.1)
  pub sends : IsFit st.maxes p → (pk y : List ℕ) (t : ℕ) → IsStorePacket st pk →
      OneArmSends st f xs pk y t ↔ ((t ≡ 0) × Gives p pk [] y)

-- at each value in its interval an arm's leaf is the choice's: no arm before it holds the value
abbrev pub HaveOwnValues : StoreState → List ((ℕ × ℕ) × ℕ) → Type 0
HaveOwnValues st xs = (x : (ℕ × ℕ) × ℕ) → Contains xs x → (v : ℕ) (pk : List ℕ) → is_between v x.0 ≡ true →
    arm_leaf st xs v pk ≡ look st x.1 pk

-- each diagram is that of the assignment beside it
abbrev pub AreAssignments : StoreState → List ((ℕ × ℕ) × ℕ) → Type 0
AreAssignments st xs = (x : (ℕ × ℕ) × ℕ) → Contains xs x → IsSilent st x.1 (assign x.0.0 x.0.1)
