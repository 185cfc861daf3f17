-- Equality of two policies, and the histories that one of them alone has.
use Rattle.std.specs.Prelude.{◌↔◌, List}
use Rattle.nk_field.specs.declared.packet.Packet.{Packet}
use Rattle.nk_field.specs.Packet.{FieldTable, IsPacket}
use Rattle.nk_field.specs.Order.{Found, IsLeast}
use Rattle.nk_policy.specs.Policy.{Policy}
use Rattle.nk_policy.specs.Meaning.{Gives}

-- two policies give the same histories on every packet in range
abbrev pub AreSame : FieldTable → Policy → Policy → Type 0
AreSame fields p q =
    (pk : Packet) → IsPacket fields pk → (w : List Packet) (y : Packet) → Gives p pk w y ↔ Gives q pk w y

-- whose history it is
pub data Side : Type 0 where
  on_left : Side
  on_right : Side

-- a history of the first policy and not of the second, from one of the start packets
abbrev pub IsAloneFrom : (Packet → Type 0) → Policy → Policy → Found → Type 0
IsAloneFrom Start p q found =
    Start found.start
    × Gives p found.start found.records found.last
    × ¬ (Gives q found.start found.records found.last)

-- a history of the first policy and not of the second, from any packet in range
abbrev pub IsOfFirstAlone : FieldTable → Policy → Policy → Found → Type 0
IsOfFirstAlone fields p q found = IsAloneFrom (IsPacket fields) p q found

-- a history of one side alone
abbrev pub IsOfOneAlone : FieldTable → Policy → Policy → Side → Found → Type 0
IsOfOneAlone fields p q on_left found = IsOfFirstAlone fields p q found
IsOfOneAlone fields p q on_right found = IsOfFirstAlone fields q p found

-- some history is of one side alone
abbrev pub HasOneAlone : FieldTable → Policy → Policy → Type 0
HasOneAlone fields p q = (side : Side) × (found : Found) × IsOfOneAlone fields p q side found

-- the least history that one of the two alone has, and whose it is
abbrev pub IsLeastDifference : FieldTable → Policy → Policy → Side → Found → Type 0
IsLeastDifference fields p q side found =
    IsOfOneAlone fields p q side found × IsLeast (λ f. (s : Side) × IsOfOneAlone fields p q s f) found
