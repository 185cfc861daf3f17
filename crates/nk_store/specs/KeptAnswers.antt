-- The answers of operations that a store keeps.
use Rattle.std.specs.Prelude.{◌≡◌, ℕ, List, [], Option, Some, None}
use Rattle.std.specs.Map.{lookup}
use Rattle.std.specs.declared.result.Result.{Result}
use Rattle.std.specs.declared.result.Result.TheVariants.{Ok}
use Rattle.nk_store.specs.declared.node.Out.{Out}
use Rattle.nk_store.specs.declared.operation.Operation.{Operation}
use Rattle.nk_store.specs.declared.operation.Key.{Key}
use Rattle.nk_store.specs.Keys.{key_eq, key_of, with_answer}
use Rattle.nk_store.specs.StoreState.{StoreState, IsId, look, root_field, recalled, HasLeaves}
use Rattle.nk_store.specs.Operations.{made}

-- d is the operation's answer on a and b: at each packet it has the leaf that the operation makes
pub record IsKeptAnswer (st : StoreState) (operation : Operation) (a b d : ℕ) : Type 0 where
  pub left : IsId st a
  pub right : IsId st b
  pub leaves : HasLeaves st d (λ pk. made operation st.maxes (look st a pk) (look st b) pk)

-- the store with one answer more, and else as it is
abbrev pub keeping : StoreState → Operation → ℕ → ℕ → ℕ → StoreState
keeping st operation a b d = record st { kept = with_answer st.kept (key_of operation a b) d }

-- a call of an operation that finds its answer kept gives that answer, and leaves the store as it was
abbrev pub GivesKept : {E : Type 0} → StoreState → StoreState → Operation → ℕ → ℕ → Result ℕ E → Type 0
GivesKept old new operation a b result = (d : ℕ) → recalled old operation a b ≡ Some d → (result ≡ Ok d) × (new ≡ old)

-- what is kept of each key is the answer of its operation on its diagrams
abbrev pub AreAnswers : StoreState → List (Key × ℕ) → Type 0
AreAnswers st answers = (k : Key) (d : ℕ) → lookup (key_eq k) answers ≡ Some d → IsKeptAnswer st k.operation k.left k.right d

-- the out of the packet itself, to target 0
abbrev pub passing : Out
passing = record { act = []; target = 0 }

-- what is kept, if anything, is the leaf with these outs
abbrev pub IsKeptLeaf : StoreState → List Out → Option ℕ → Type 0
IsKeptLeaf st outs None = Unit {0}
IsKeptLeaf st outs (Some d) = HasLeaves st d (λ pk. outs) × (root_field st d ≡ 18)
