-- The first flaw that is found of virtual links, in whatever order they are looked at.
use Rattle.std.specs.Prelude.{ℕ, Bool, true, Option, Some, None, List, All}
use Rattle.nk_field.specs.Packet.{FieldTable}
use Rattle.nk_topo.specs.Topology.{Topology, starts_below}
use Rattle.nk_names.specs.ProgramValue.{VirtualLink}
use Rattle.nk_virtual.specs.Reasons.{IsUsable, IsSourceOf, IsFirstFlaw}
use Rattle.nk_virtual.specs.declared.flaws.Flaw.{Flaw}
use Rattle.nk_virtual.specs.declared.refusal.VirtualRefusal.{VirtualRefusal}

-- whether the virtual link begins before that of the flaw, if there is one
abbrev pub comes_first : VirtualLink → Option Flaw → Bool
comes_first k None = true
comes_first k (Some f) = starts_below f.switch f.port k.ends

-- the flaw of the virtual link, if one is found, or else the one so far
abbrev pub earlier : Option Flaw → VirtualLink → Option VirtualRefusal → Option Flaw
earlier first k None = first
earlier first k (Some r) = Some (record { switch = k.ends.from_switch; port = k.ends.from_port; refusal = r })

-- all of the virtual links are usable, or this is the first flaw and where its link begins
abbrev pub IsFirstAmong : FieldTable → Topology → ℕ → List VirtualLink → Option Flaw → Type 0
IsFirstAmong fields topo tag links None = All (IsUsable fields topo tag) links
IsFirstAmong fields topo tag links (Some f) =
    (h : IsFirstFlaw fields topo tag links f.refusal) × IsSourceOf h.link f.switch f.port
