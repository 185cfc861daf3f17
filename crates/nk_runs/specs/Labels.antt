-- What an automaton's levels are in the words of runs (Foster et al., POPL 2015; Smolka et al., ICFP 2015).
use Rattle.std.specs.Prelude.{◌≡◌, ℕ, zero, suc, true, List, [], ◌∷◌, ◌++◌, length, slice_index_or}
use Rattle.nk_field.specs.declared.packet.Packet.{Packet}
use Rattle.nk_policy.specs.Policy.{Policy}
use Rattle.nk_policy.specs.Labels.{IsLabelSet}
use Rattle.nk_store.specs.StoreState.{StoreState, IsStorePacket}
use Rattle.nk_apply.specs.PacketSets.{is_in}
use Rattle.nk_determ.specs.Pairs.{Node}

-- a packet of the fields, in the set
abbrev pub IsAmong : StoreState → ℕ → Packet → Type 0
IsAmong st x pk = IsStorePacket st pk × (is_in st x pk ≡ true)

-- After exactly so many records, of which the last is this packet, these are all the labels at which runs from some start
-- packet can be, and there are some; before the first record the policy is at the start, which has label 0.
abbrev pub IsLabelled : Policy → (Packet → Type 0) → ℕ → Node → Type 0
IsLabelled p Start zero n = (n.0 ≡ 0 ∷ []) × Start n.1
IsLabelled p Start (suc i) n =
    (pk : Packet) × (front : List Packet) × Start pk × (length front ≡ i) × IsLabelSet p pk (front ++ n.1 ∷ []) n.0

-- the members of a set
abbrev pub members : List (List ℕ) → ℕ → List ℕ
members ss s = slice_index_or ss s []
