-- Flags that say at which switches chords end.
use Rattle.std.specs.Prelude.{◌≡◌, ◌<◌, ℕ, Bool, false, length, List, slice_index_or}
use Rattle.nk_gen.specs.declared.network.Link.{Link}
use Rattle.nk_gen.specs.Network.{is_end}

-- the flag at each place is set exactly where a chord ends at the switch of this number
abbrev pub AreEnds : List Bool → List Link → Type 0
AreEnds flags chords = (j : ℕ) → j < length flags → slice_index_or flags j false ≡ is_end chords j
