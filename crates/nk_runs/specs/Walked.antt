-- Where walks along an automaton's set states lead, in the words of runs (Foster et al., POPL 2015).
use Rattle.std.specs.Prelude.{◌≡◌, ◌≢◌, ℕ, List, []}
use Rattle.nk_field.specs.declared.packet.Packet.{Packet}
use Rattle.nk_policy.specs.Policy.{Policy}
use Rattle.nk_policy.specs.Labels.{HasExactly}
use Rattle.nk_policy.specs.PositionSets.{IsPosition, last_from}
use Rattle.nk_determ.specs.Pairs.{Node}

-- the positions at which runs from pk can be that have recorded exactly u, there being one: before the first record the
-- start alone, and after it the label set
abbrev pub IsPositionSet : Policy → Packet → List Packet → List ℕ → Type 0
IsPositionSet p pk u s = (s ≢ []) × HasExactly (IsPosition p pk u) s

-- the positions of these runs, at the packet that was recorded last, or at pk before the first record
abbrev pub IsMetAfter : Policy → Packet → List Packet → Node → Type 0
IsMetAfter p pk u n = IsPositionSet p pk u n.0 × (n.1 ≡ last_from pk u)
