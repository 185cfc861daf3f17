-- The packets from which one policy alone has a history.
use Rattle.std.specs.Prelude.{◌≡◌, ◌↔◌, List, []}
use Rattle.nk_field.specs.declared.packet.Packet.{Packet}
use Rattle.nk_field.specs.Packet.{FieldTable, IsPacket}
use Rattle.nk_policy.specs.Policy.{Policy}
use Rattle.nk_policy.specs.Meaning.{Gives}
use Rattle.nk_store.specs.Diagram.{leaf_at, IsReduced, IsIn}
use Rattle.nk_apply.specs.Predicates.{IsPass}
use Rattle.nk_sets.specs.Predicate.{SetTree, predicate_of}

-- the first policy has a history from the packet that the second one hasn't
abbrev pub HasAlone : Policy → Policy → Packet → Type 0
HasAlone p q pk = (w : List Packet) × (y : Packet) × Gives p pk w y × ¬ (Gives q pk w y)

-- the predicate keeps the packet
abbrev pub KeepsPacket : Policy → Packet → Type 0
KeepsPacket predicate pk = Gives predicate pk [] pk

-- The reduced tree of the packets from which the first policy has a history of its own. A leaf passes a packet as it is or
-- drops it.
pub record IsTreeOfAlone (fields : FieldTable) (p q : Policy) (d : SetTree) : Type 0 where
  pub reduced : IsReduced d fields.maxima 0
  pub passes : (x : Packet) → IsPacket fields x → IsPass (leaf_at d [] x)
  pub packets : (x : Packet) → IsPacket fields x → IsIn d x ↔ HasAlone p q x

-- The printed predicate of these packets: it keeps exactly them, of the packets in range.
pub record IsPredicateOfAlone (fields : FieldTable) (p q predicate : Policy) : Type 0 where
  pub keeps : (pk : Packet) → IsPacket fields pk → KeepsPacket predicate pk ↔ HasAlone p q pk
  pub tree : SetTree
  pub tree_is : IsTreeOfAlone fields p q tree
  pub printed : predicate ≡ predicate_of tree
