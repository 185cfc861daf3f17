-- Diagrams whose leaves are all plain.
use Rattle.std.specs.Prelude.{◌≡◌, ℕ, true, nat_eq, List}
use Rattle.std.specs.List.{list_any}
use Rattle.nk_store.specs.StoreState.{StoreState, look}
use Rattle.nk_steps.specs.Plain.{IsPlain}

-- each leaf of the diagram is plain
abbrev pub HasPlainLeaves : StoreState → ℕ → Type 0
HasPlainLeaves st d = (pk : List ℕ) → IsPlain (look st d pk)

-- that is so of each of these diagrams
abbrev pub AllHavePlainLeaves : StoreState → List ℕ → Type 0
AllHavePlainLeaves st ds = (d : ℕ) → list_any (nat_eq d) ds ≡ true → HasPlainLeaves st d
