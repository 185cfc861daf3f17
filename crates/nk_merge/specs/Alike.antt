-- What an automaton gives from a set of its labels, and which sets are alike (two states of a NetKAT automaton are one where
-- they accept the same histories: Foster et al., POPL 2015).
use Rattle.std.specs.Prelude.{ℕ, ◌+◌, ◌↔◌, List, [], map, slice_index, slice_index_or}
use Rattle.nk_store.specs.StoreState.{StoreState, IsStorePacket}
use Rattle.nk_determ.specs.States.{StateLeads}
use Rattle.nk_determ.specs.Pairs.{Node, IsStep}
use Rattle.nk_determ.specs.Counterexamples.{Walks}

-- from the packet x the set gives this history: the records follow the states' set states from the set on, and a member of
-- the set at which they end has a state that ends at y
abbrev pub SetGives : StoreState → List ℕ → List ℕ → List ℕ → List (List ℕ) → List ℕ → Type 0
SetGives st states set x w y = (n : Node) × Walks (IsStep st states) (set, x) w n × StateLeads st states n.0 n.1 y 0

-- two sets of labels give the same histories from every packet in range
abbrev pub AreAlike : StoreState → List ℕ → List ℕ → List ℕ → Type 0
AreAlike st states s t =
    (x : List ℕ) → IsStorePacket st x → (w : List (List ℕ)) (y : List ℕ) → SetGives st states s x w y ↔ SetGives st states t x w y

-- the labels after those of a set: where its members are the first dups of link literals, the second ones
abbrev pub labels_after : List ℕ → List ℕ
labels_after set = map (λ l. l + 1) set

-- the set at a place among the tags
abbrev pub tag_set : List (List ℕ) → List ℕ → ℕ → List ℕ
tag_set ss tags i = slice_index_or ss (slice_index tags i) []

-- what is left after two tags gives the same histories from every packet in range
abbrev pub AreTagsAlike : StoreState → List ℕ → List (List ℕ) → List ℕ → ℕ → ℕ → Type 0
AreTagsAlike st states ss tags i j = AreAlike st states (labels_after (tag_set ss tags i)) (labels_after (tag_set ss tags j))
