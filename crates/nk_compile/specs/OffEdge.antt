-- A policy that sends a located untagged packet off each edge port.
use Rattle.std.specs.Prelude.{List, ℕ, IsTrue, slice_index}
use Rattle.nk_field.specs.Order.{Found}
use Rattle.nk_field.specs.Packet.{FieldTable}
use Rattle.nk_topo.specs.Topology.{Topology, is_edge}
use Rattle.nk_policy.specs.Policy.{Policy}
use Rattle.nk_policy.specs.Meaning.{Gives}
use Rattle.nk_names.specs.Accepted.{IsStartPacket}

-- a history of a located untagged packet that ends off each edge port
pub record EndsOffEdge (fields : FieldTable) (topo : Topology) (p : Policy) (f : Found) : Type 0 where
  pub starts : IsStartPacket fields topo f.start
  pub gives : Gives p f.start f.records f.last
  pub off : ¬ IsTrue (is_edge topo (slice_index f.last 0) (slice_index f.last 1))

-- each history of a located untagged packet ends at an edge port
abbrev pub EndsOnEdges : FieldTable → Topology → Policy → Type 0
EndsOnEdges fields topo p =
    (start : List ℕ) (records : List (List ℕ)) (last : List ℕ) → IsStartPacket fields topo start → Gives p start records last
    → IsTrue (is_edge topo (slice_index last 0) (slice_index last 1))
