-- Whether a fabric carries its virtual link, and the first history or packet that shows that it doesn't.
use Rattle.std.specs.Prelude.{◌≡◌, ◌≢◌, ◌+◌, ◌<◌, ◌≤◌, ◌^◌, ◌⊎◌, Option, None, Some, List}
use Rattle.nk_field.specs.declared.history.History.{History}
use Rattle.nk_field.specs.declared.packet.Packet.{Packet}
use Rattle.nk_field.specs.Packet.{FieldTable, IsFieldTable, IsPacket, IsUntagged}
use Rattle.nk_field.specs.Order.{Found, Precedes, IsLess}
use Rattle.nk_policy.specs.Policy.{Policy, marked_from, dups_of}
use Rattle.nk_policy.specs.Meaning.{Gives}
use Rattle.nk_policy.specs.Ranges.{IsOverFields}
use Rattle.nk_policy.specs.Complements.{NegatesPredicates}
use Rattle.nk_names.specs.ProgramValue.{IsLet}
use Rattle.nk_witness.specs.Histories.{PrecedesOrEquals}
use Rattle.nk_names.specs.ProgramValue.{VirtualLink}
use Rattle.nk_virtual.specs.Fabrics.{IsAtStartOf, moved_along, IsCarried}
use Rattle.nk_virtual.specs.declared.judging.Carriage.{Carriage}
use Rattle.nk_virtual.specs.declared.judging.Carriage.TheVariants.{Carried, OffTarget, NotCarried}

-- a packet in range without a tag at the start of the virtual link
pub record Enters (fields : FieldTable) (k : VirtualLink) (x : Packet) : Type 0 where
  pub packet : IsPacket fields x
  pub untagged : IsUntagged fields x
  pub at_start : IsAtStartOf k x

-- each history of the fabric from such a packet ends at the moved packet
abbrev pub IsOnTarget : FieldTable → VirtualLink → Type 0
IsOnTarget fields k =
    (x : Packet) (w : List Packet) (last : Packet) → Enters fields k x → Gives k.fabric x w last → last ≡ moved_along k x

-- from such a packet the fabric has this history, which ends at another one
pub record IsOffTarget (fields : FieldTable) (k : VirtualLink) (f : Found) : Type 0 where
  pub enters : Enters fields k f.start
  pub given : Gives k.fabric f.start f.records f.last
  pub elsewhere : f.last ≢ moved_along k f.start

-- from such a packet the fabric has no history
pub record IsNotCarried (fields : FieldTable) (k : VirtualLink) (x : Packet) : Type 0 where
  pub enters : Enters fields k x
  pub none : (w : List Packet) (last : Packet) → ¬ (Gives k.fabric x w last)

-- the lesser start first; from one start the order of histories
abbrev pub IsBefore : Found → Found → Type 0
IsBefore f g = Precedes f.start g.start ⊎ ((f.start ≡ g.start) × IsLess f g)

-- the first history off target
abbrev pub IsFirstOffTarget : FieldTable → VirtualLink → Found → Type 0
IsFirstOffTarget fields k f =
    IsOffTarget fields k f × ((g : Found) → IsOffTarget fields k g → (f ≡ g) ⊎ IsBefore f g)

-- the least packet without a history
abbrev pub IsFirstNotCarried : FieldTable → VirtualLink → Packet → Type 0
IsFirstNotCarried fields k x = IsNotCarried fields k x × ((y : Packet) → IsNotCarried fields k y → PrecedesOrEquals x y)

-- the history from a packet
abbrev pub history_from : Packet → History → Found
history_from x h = record { start = x; records = h.records; last = h.last }

-- what is found of a virtual link: it is carried; or the first history off target; or, where there is none, the least packet
-- without a history
abbrev pub IsCarriage : FieldTable → VirtualLink → Carriage → Type 0
IsCarriage fields k Carried = IsCarried fields k
IsCarriage fields k (OffTarget start history) = IsFirstOffTarget fields k (history_from start history)
IsCarriage fields k (NotCarried start) = IsOnTarget fields k × IsFirstNotCarried fields k start

-- the least packet from which a history is off target, if there is one
abbrev pub IsLeastStart : FieldTable → VirtualLink → Option Packet → Type 0
IsLeastStart fields k None = IsOnTarget fields k
IsLeastStart fields k (Some x) =
    ((f : Found) × IsOffTarget fields k f × (f.start ≡ x)) × ((g : Found) → IsOffTarget fields k g → PrecedesOrEquals x g.start)

-- the least of the histories off target from that packet
abbrev pub IsLeastFrom : FieldTable → VirtualLink → Packet → Found → Type 0
IsLeastFrom fields k x f =
    IsOffTarget fields k f
    × (f.start ≡ x)
    × ((g : Found) → IsOffTarget fields k g → g.start ≡ x → (f ≡ g) ⊎ IsLess f g)

-- the least packet without a history, if there is one
abbrev pub IsLeastLeft : FieldTable → VirtualLink → Option Packet → Type 0
IsLeastLeft fields k None = IsCarried fields k
IsLeastLeft fields k (Some x) = IsFirstNotCarried fields k x

-- What is asked of the fields and the virtual link: the fabric is a policy that a program can hold, and the four numbers are
-- those of switches and ports.
pub record IsAskable (fields : FieldTable) (k : VirtualLink) : Type 0 where
  pub table : IsFieldTable fields
  pub fabric : IsLet fields k.fabric
  pub from_switch : k.ends.from_switch ≤ 65535
  pub from_port : k.ends.from_port ≤ 65535
  pub to_switch : k.ends.to_switch ≤ 65535
  pub to_port : k.ends.to_port ≤ 65535

-- two policies that can be compared
pub record AreComparable (fields : FieldTable) (p q : Policy) : Type 0 where
  pub numbered : marked_from p 1 ≡ p
  pub few : 1 + dups_of p + dups_of q < 2 ^ 32
  pub left_complements : NegatesPredicates p
  pub right_complements : NegatesPredicates q
  pub left_over : IsOverFields fields p
  pub right_over : IsOverFields fields q
