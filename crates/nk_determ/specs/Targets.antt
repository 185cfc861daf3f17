-- Targets by a table.
use Rattle.std.specs.Prelude.{ℕ, Option, Some, None, List, [], ◌∷◌, slice_index_or}
use Rattle.nk_store.specs.declared.node.Out.{Out}
use Rattle.nk_apply.specs.Leaves.{gathered}

-- the act to a target, or nothing
abbrev pub option_out : List (ℕ × ℕ) → Option ℕ → List Out
option_out g None = []
option_out g (Some target) = record { act = g; target = target } ∷ []

-- the out with the target that the table has at its target's place, if any
abbrev pub out_by_table : List (Option ℕ) → Out → List Out
out_by_table table o = option_out o.act (slice_index_or table o.target None)

-- each out with the target that the table has at its target's place, if any
abbrev pub retargeted : List (Option ℕ) → List Out → List Out
retargeted table os = gathered (out_by_table table) os
