-- A choice by a field between diagrams that test any fields, by halves.
use Rattle.std.specs.Prelude.{ℕ, zero, suc, ◌+◌, min, nat_le, nat_lt, ◌&&◌, List, [], ◌∷◌, if◌then◌else◌, slice_index}
use Rattle.nk_store.specs.declared.node.Out.{Out}
use Rattle.nk_store.specs.Nodes.{child_at}
use Rattle.nk_store.specs.StoreState.{StoreState, look}

-- the first value of part number k, of parts from the value low on; after the last part the value after them all
abbrev pub start : ℕ → List (ℕ × ℕ) → ℕ → ℕ
start low ps zero = low
start low [] (suc k) = low
start low (p ∷ ps) (suc k) = start (p.0 + 1) ps k

-- the leaf of the part that holds the field's value, where it is one of the parts from one number up to before another,
-- else nothing; a value past the highest counts as the highest
abbrev pub chosen : StoreState → ℕ → List (ℕ × ℕ) → ℕ → ℕ → List ℕ → List Out
chosen st f parts from to pk =
    if nat_le (start 0 parts from) (min (slice_index pk f) (slice_index st.maxes f)) && nat_lt (min (slice_index pk f) (slice_index st.maxes f)) (start 0 parts to)
    then look st (child_at 0 parts (slice_index pk f)) pk else []
