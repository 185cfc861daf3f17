-- What the tables of a policy's classes are made of: its automaton, its tag sets with their classes, and what is met under each.
use Rattle.std.specs.Prelude.{◌≡◌, ◌↔◌, ℕ, ◌<◌, true, List, length, slice_index}
use Rattle.nk_field.specs.Packet.{FieldTable, IsPacket}
use Rattle.nk_topo.specs.Topology.{Topology}
use Rattle.nk_policy.specs.Policy.{Policy}
use Rattle.nk_policy.specs.Ranges.{IsInRange}
use Rattle.nk_names.specs.Accepted.{IsStartPacket}
use Rattle.nk_store.specs.StoreState.{StoreState, IsId}
use Rattle.nk_apply.specs.PacketSets.{is_in}
use Rattle.nk_group.specs.Tagged.{set_of_tag}
use Rattle.nk_merge.specs.Classes.{AreFirsts}
use Rattle.nk_compile.specs.MetUnder.{IsMetUnder}
use Rattle.nk_compile.specs.OffEdge.{EndsOnEdges}
use Rattle.nk_compile.specs.Ready.{sets_of, IsClear, IsReady}
use Rattle.nk_compact.specs.MergedTable.{AreTagClasses}

-- the diagram has the packets in range that are met under these labels
pub record IsMetPackets (fields : FieldTable) (topo : Topology) (p : Policy) (labels : List ℕ) (st : StoreState) (d : ℕ) : Type 0 where
  pub id : IsId st d
  pub met : (x : List ℕ) → IsPacket fields x → (is_in st d x ≡ true) ↔ IsMetUnder p (IsStartPacket fields topo) labels x

-- a policy that is compilable, with its tag sets' classes, the first of each class, and the packets that are met under each
pub record IsMergeable (fields : FieldTable) (topo : Topology) (tag : ℕ) (p : Policy) (st : StoreState) (ss : List (List ℕ)) (states tags classes firsts met : List ℕ) : Type 0 where
  pub clear : IsClear fields topo tag p
  pub in_range : IsInRange p fields
  pub ready : IsReady 0 fields topo p st ss states tags
  pub ends : EndsOnEdges fields topo p
  pub classes_are : AreTagClasses fields p (sets_of ss tags) classes
  pub firsts_are : AreFirsts classes firsts
  pub met_count : length met ≡ length tags
  pub met_are : (i : ℕ) → i < length tags → IsMetPackets fields topo p (set_of_tag ss tags i) st (slice_index met i)
