-- Which policies are refused, the first reason in order: what is seen of the expanded tree, whether a packet comes there or
-- not, then a history that ends off an edge port, and then more tag sets than the tag has values above 0.
use Rattle.std.specs.Prelude.{◌≡◌, ℕ, ◌+◌, Option, Some, None, option_map, List}
use Rattle.nk_field.specs.declared.packet.Packet.{Packet}
use Rattle.nk_field.specs.declared.history.History.{History}
use Rattle.nk_field.specs.Packet.{FieldTable}
use Rattle.nk_field.specs.Order.{Found, IsLeast}
use Rattle.nk_topo.specs.Topology.{Topology}
use Rattle.nk_policy.specs.Policy.{Policy}
use Rattle.nk_names.specs.declared.Program.{Program}
use Rattle.nk_names.specs.Named.{policy_named}
use Rattle.nk_policy.specs.Labels.{IsTagSet, AtLeast}
use Rattle.nk_names.specs.Accepted.{IsStartPacket, most_tags}
use Rattle.nk_static.specs.StaticFaults.{static_fault_of}
use Rattle.nk_compile.specs.declared.refusal.Refusal.{Refusal}
use Rattle.nk_compile.specs.declared.refusal.Refusal.TheVariants.{NoPolicy, NoTag, Static, OffEdge, TooManyTags}
use Rattle.nk_compile.specs.OffEdge.{EndsOffEdge, EndsOnEdges}

-- what is seen where the tag is known: it is used, a dup or an assignment of the switch stands outside of a link literal, or
-- a literal is no declared link
abbrev pub static_refusal_with : ℕ → Topology → Policy → Option Refusal
static_refusal_with tag topo p = option_map Static (static_fault_of tag topo.links p)

-- the first reason that is seen of the tree, if there is one
abbrev pub static_refusal_for : Option ℕ → Topology → Policy → Option Refusal
static_refusal_for None topo p = Some NoTag
static_refusal_for (Some tag) topo p = static_refusal_with tag topo p

abbrev pub static_refusal : FieldTable → Topology → Policy → Option Refusal
static_refusal fields topo p = static_refusal_for fields.tag topo p

-- a history from a start packet, as the order of histories sees it
abbrev pub found_from : Packet → History → Found
found_from start history = record { start = start; records = history.records; last = history.last }

-- why the policy is refused; of the histories that end off each edge port the least is told
abbrev pub IsReason : FieldTable → Topology → Policy → Refusal → Type 0
IsReason fields topo p (OffEdge start history) =
    (static_refusal fields topo p ≡ None) × IsLeast (EndsOffEdge fields topo p) (found_from start history)
IsReason fields topo p (TooManyTags found) =
    (static_refusal fields topo p ≡ None)
    × EndsOnEdges fields topo p
    × (found ≡ most_tags fields fields.tag + 1)
    × AtLeast found (IsTagSet p (IsStartPacket fields topo))
IsReason fields topo p r = static_refusal fields topo p ≡ Some r

-- why the name is refused: it is no policy's, or its policy is refused
abbrev pub IsRefused : Program → List ℕ → Refusal → Type 0
IsRefused program name NoPolicy = policy_named program name ≡ None
IsRefused program name r = (p : Policy) × (policy_named program name ≡ Some p) × IsReason program.fields program.topo p r
