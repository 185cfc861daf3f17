-- Histories of one policy alone.
use Rattle.nk_field.specs.Order.{Found}
use Rattle.nk_field.specs.Packet.{FieldTable}
use Rattle.nk_policy.specs.Policy.{Policy}
use Rattle.nk_cert.specs.Equality.{Side, on_left, on_right, AreSame, IsOfOneAlone}

-- policies that give the same histories have none
pub no_difference : (fields : FieldTable) (p q : Policy) (s : Side) (f : Found) → AreSame fields p q → IsOfOneAlone fields p q s f → ⊥
no_difference fields p q on_left f same h = h.2 ((same f.start h.0 f.records f.last).0 h.1)
no_difference fields p q on_right f same h = h.2 ((same f.start h.0 f.records f.last).1 h.1)
