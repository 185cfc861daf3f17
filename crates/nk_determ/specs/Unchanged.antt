-- Acts without the assignments to one field that don't change the packet.
use Rattle.std.specs.Prelude.{◌≡◌, ◌==◌, ℕ, map, min, Bool, true, nat_eq, nat_lt, ◌&&◌, List, [], ◌∷◌, if◌then◌else◌, slice_index}
use Rattle.std.specs.List.{Contains, flat_map, list_any}
use Rattle.nk_field.specs.Act.{left_without}
use Rattle.nk_store.specs.declared.node.Out.{Out}
use Rattle.nk_store.specs.Operations.{gathered}
use Rattle.nk_store.specs.StoreState.{StoreState, look}

-- whether the act assigns the value n to the field f
abbrev pub assigns : ℕ → ℕ → List (ℕ × ℕ) → Bool
assigns f n act = list_any (λ s. s.0 == f && s.1 == n) act

-- the act without its assignments to the field f, if it assigns the value n to f, else the act itself
abbrev pub act_without : ℕ → ℕ → List (ℕ × ℕ) → List (ℕ × ℕ)
act_without f n act = if assigns f n act then left_without f act else act

-- the out with its act without that assignment
abbrev pub out_without : ℕ → ℕ → Out → Out
out_without f n o = record { act = act_without f n o.act; target = o.target }

-- the outs with their acts without that assignment
abbrev pub leaf_without : ℕ → ℕ → List Out → List Out
leaf_without f n os = gathered (λ o. out_without f n o ∷ []) os

-- the outs with their acts without the assignment to the field f that doesn't change the packet; a value past the
-- highest counts as the highest
abbrev pub leaf_changing : List ℕ → ℕ → List ℕ → List Out → List Out
leaf_changing maxes f pk os = leaf_without f (min (slice_index pk f) (slice_index maxes f)) os

-- the assignments to fields from k on, and those to fields before k that change the packet
abbrev pub exact_below : ℕ → List ℕ → List ℕ → List (ℕ × ℕ) → List (ℕ × ℕ)
exact_below k maxes pk [] = []
exact_below k maxes pk (s ∷ ss) =
    if nat_lt s.0 k && min (slice_index pk s.0) (slice_index maxes s.0) == s.1 then exact_below k maxes pk ss
    else s ∷ exact_below k maxes pk ss

-- the out with those assignments
abbrev pub out_below : ℕ → List ℕ → List ℕ → Out → Out
out_below k maxes pk o = record { act = exact_below k maxes pk o.act; target = o.target }

-- the outs with those assignments
abbrev pub split_below : ℕ → List ℕ → List ℕ → List Out → List Out
split_below k maxes pk os = gathered (λ o. out_below k maxes pk o ∷ []) os

-- what the act assigns to the field f
abbrev pub act_values : ℕ → List (ℕ × ℕ) → List ℕ
act_values f act = flat_map (λ s. if s.0 == f then s.1 ∷ [] else []) act

-- what the acts of a leaf assign to the field f
abbrev pub leaf_values : ℕ → List Out → List ℕ
leaf_values f os = flat_map (λ o. act_values f o.act) os

-- the fields that the act assigns
abbrev pub act_fields : List (ℕ × ℕ) → List ℕ
act_fields act = map (λ s. s.0) act

-- the fields that the acts of a leaf assign
abbrev pub leaf_fields : List Out → List ℕ
leaf_fields os = flat_map (λ o. act_fields o.act) os

-- each item of the first list is one of the second
abbrev pub AreAmong : List ℕ → List ℕ → Type 0
AreAmong xs ys = (v : ℕ) → Contains xs v → Contains ys v

-- what each leaf of the diagram has is among the items
abbrev pub HasItems : (List Out → List ℕ) → List ℕ → StoreState → ℕ → Type 0
HasItems F xs st d = (pk : List ℕ) → AreAmong (F (look st d pk)) xs

-- that is so of each of these diagrams
abbrev pub AllHaveItems : (List Out → List ℕ) → List ℕ → StoreState → List ℕ → Type 0
AllHaveItems F xs st ds = (d : ℕ) → list_any (nat_eq d) ds ≡ true → HasItems F xs st d

-- what the acts of the diagram assign to the field f is among the values
abbrev pub HasValues : ℕ → List ℕ → StoreState → ℕ → Type 0
HasValues f vs st d = HasItems (leaf_values f) vs st d

-- the fields that acts of the diagram assign are among these
abbrev pub AssignsAmong : List ℕ → StoreState → ℕ → Type 0
AssignsAmong fs st d = HasItems leaf_fields fs st d
