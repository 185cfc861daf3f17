-- What the difference of two policies is.
use Rattle.std.specs.Prelude.{◌⊎◌}
use Rattle.nk_field.specs.declared.packet.Packet.{Packet}
use Rattle.nk_field.specs.Packet.{FieldTable, IsPacket}
use Rattle.nk_policy.specs.Policy.{Policy}
use Rattle.nk_policy.specs.Tree.{tree_of}
use Rattle.nk_cert.specs.Equality.{AreSame}
use Rattle.nk_difference.specs.Alone.{HasAlone, IsPredicateOfAlone}
use Rattle.nk_difference.specs.Guarded.{outside}
use Rattle.nk_difference.specs.declared.predicates.Difference.{Difference}
use Rattle.nk_difference.specs.declared.predicates.Difference.TheVariants.{Same, Differs}

-- some packet in range is one from which either policy has a history of its own
abbrev pub SomeDiffers : FieldTable → Policy → Policy → Type 0
SomeDiffers fields p q = (pk : Packet) × IsPacket fields pk × (HasAlone p q pk ⊎ HasAlone q p pk)

-- The packets that two policies differ on: a predicate for each policy's own histories, of which one keeps a packet. At all
-- packets that neither keeps, both policies give the same histories.
pub record AreTheirPredicates (fields : FieldTable) (p q left right : Policy) : Type 0 where
  pub left_is : IsPredicateOfAlone fields p q left
  pub right_is : IsPredicateOfAlone fields q p right
  pub some : SomeDiffers fields p q
  pub same_outside : AreSame fields (outside left right p) (outside left right q)

-- both policies give the same histories on every packet in range; or these are the predicates of the packets that they differ on
abbrev pub IsDifferenceOf : FieldTable → Policy → Policy → Difference → Type 0
IsDifferenceOf fields p q Same = AreSame fields p q
IsDifferenceOf fields p q (Differs left right) = AreTheirPredicates fields p q (tree_of left) (tree_of right)
