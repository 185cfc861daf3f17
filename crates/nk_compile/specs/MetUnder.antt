-- Which packets are met after the links of a tag set.
use Rattle.std.specs.Prelude.{◌≡◌, ℕ, ◌+◌, ◌*◌, List, [], ◌∷◌, ◌++◌, length}
use Rattle.nk_field.specs.declared.packet.Packet.{Packet}
use Rattle.nk_policy.specs.Policy.{Policy}
use Rattle.nk_policy.specs.Labels.{HasRecorded, IsLabelSet}

-- a packet stands after records that have this set of labels, an odd number of them: it has just crossed the set's link
abbrev pub IsMetUnder : Policy → (Packet → Type 0) → List ℕ → Packet → Type 0
IsMetUnder p Start labels x =
    (pk : Packet) × (u : List Packet) × (n : ℕ) × Start pk × (length u ≡ 2 * n + 1) × IsLabelSet p pk u labels
    × (l : ℕ) × HasRecorded p pk (u ++ x ∷ []) l
