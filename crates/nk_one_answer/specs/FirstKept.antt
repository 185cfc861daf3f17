-- Where the history that `equal` shows starts, by the predicates that `nk_impact` prints.
use Rattle.std.specs.Prelude.{◌≡◌, ◌⊎◌, ◌<◌, ℕ, List, length}
use Rattle.nk_field.specs.declared.packet.Packet.{Packet}
use Rattle.nk_field.specs.Order.{Found, Precedes}
use Rattle.nk_field.specs.Packet.{FieldTable, IsPacket}
use Rattle.nk_policy.specs.Policy.{Policy}
use Rattle.nk_names.specs.ProgramOf.{DeclaredProgram}
use Rattle.nk_cert.specs.Equality.{Side, on_left, on_right, IsOfOneAlone, IsLeastDifference}
use Rattle.nk_difference.specs.Alone.{KeepsPacket}
use Rattle.nk_difference.specs.Difference.{AreTheirPredicates}
use Rattle.nk_input.specs.ProgramText.{Declares}
use Rattle.nk_verify_commands.specs.Comparing.{difference_lines}
use Rattle.nk_change_impact.specs.Impact.{AreBothNamed, impact_lines}

-- of two predicates that of the packets from which this side has a history of its own
abbrev pub side_predicate : Side → Policy → Policy → Policy
side_predicate on_left left right = left
side_predicate on_right left right = right

-- one of the predicates keeps the packet
abbrev pub EitherKeeps : Policy → Policy → Packet → Type 0
EitherKeeps left right pk = KeepsPacket left pk ⊎ KeepsPacket right pk

-- one policy alone has a history from the packet with so many records
abbrev pub StartsAlone : FieldTable → Policy → Policy → Packet → ℕ → Type 0
StartsAlone fields p q pk count =
    (side : Side) × (f : Found) × IsOfOneAlone fields p q side f × (f.start ≡ pk) × (length f.records ≡ count)

-- The first of the packets in range that one of two predicates keeps: from each packet that is kept, a history that one policy
-- alone has takes more records than the shortest from this packet, or as many, and then that packet isn't a lesser one.
pub record IsFirstKept (fields : FieldTable) (p q left right : Policy) (pk : Packet) : Type 0 where
  pub range : IsPacket fields pk
  pub kept : EitherKeeps left right pk
  pub count : ℕ
  pub starts : StartsAlone fields p q pk count
  pub first : (other : Packet) (n : ℕ) → EitherKeeps left right other → StartsAlone fields p q other n
      → (count < n) ⊎ ((count ≡ n) × ((pk ≡ other) ⊎ Precedes pk other))

-- The bytes declare policies of both names. One text shows the least history that one of them alone has, and the other has the
-- predicates of all packets on which they differ: the predicate of that history's side keeps the packet that it starts from, which
-- is the first packet that either keeps.
pub record ShowsFirstKept (left right bytes text lines : List ℕ) : Type 0 where
  pub said : DeclaredProgram
  pub declared : Declares bytes said
  pub named : AreBothNamed said left right
  pub side : Side
  pub found : Found
  pub left_predicate : Policy
  pub right_predicate : Policy
  pub least : IsLeastDifference named.program.fields named.left_policy named.right_policy side found
  pub shown : text ≡ difference_lines named.program.fields side found
  pub predicates : AreTheirPredicates named.program.fields named.left_policy named.right_policy left_predicate right_predicate
  pub printed : lines ≡ impact_lines named.program.fields left_predicate right_predicate
  pub kept : KeepsPacket (side_predicate side left_predicate right_predicate) found.start
  pub first : IsFirstKept named.program.fields named.left_policy named.right_policy left_predicate right_predicate found.start
