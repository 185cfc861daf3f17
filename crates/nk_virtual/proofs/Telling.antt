-- What a comparison of the policies that were made tells.
use Rattle.std.proofs.Common.{◌≡◌, Some, sym, subst}
use Rattle.nk_field.specs.declared.packet.Packet.{Packet}
use Rattle.nk_field.specs.Packet.{FieldTable, IsPacket}
use Rattle.nk_field.specs.Order.{Found}
use Rattle.nk_policy.specs.Policy.{Policy}
use Rattle.nk_policy.specs.After.{drop_policy}
use Rattle.nk_cert.specs.Equality.{Side, AreSame, IsLeastDifference}
use Rattle.nk_cert.specs.Certificates.{CertificateValue}
use Rattle.nk_cert.specs.Comparison.{IsRelated}
use Rattle.nk_names.specs.ProgramValue.{VirtualLink}
use Rattle.nk_virtual.specs.Fabrics.{IsCarried}
use Rattle.nk_virtual.specs.Questions.{elsewhere}
use Rattle.nk_virtual.specs.Carriage.{Enters, IsAskable, AreComparable, IsOnTarget, IsOffTarget, IsFirstNotCarried, IsLeastStart, IsLeastFrom}
use Rattle.nk_virtual.proofs.Askable.{either_and_move, ends_and_move, elsewhere_and_none, moved_in_range}
use Rattle.nk_virtual.proofs.Asking.{either, ends, moves, on_target, least_start, is_carried, least_left, some_elsewhere, least_from}

-- what holds of two policies holds of those that are equal to them
both_are : (P : Policy → Policy → Type 0) (p q r s : Policy) → p ≡ r → q ≡ s → P p q → P r s
both_are P p q r s e g h = subst (λ t. P r t) g (subst (λ t. P t q) e h)

module _ (fields : FieldTable) (k : VirtualLink) (p q : Policy) where
  -- the fabric's ends with that of the move, and the move
  module _ (e : p ≡ either fields k) (g : q ≡ moves fields k) where
    pub start_askable : IsAskable fields k → AreComparable fields p q
    start_askable a = both_are (AreComparable fields) (either fields k) (moves fields k) p q (sym e) (sym g) (either_and_move fields k a)

    pub start_none : (c : CertificateValue) → IsRelated fields p q c → IsOnTarget fields k
    start_none c r = on_target fields k (both_are (AreSame fields) p q (either fields k) (moves fields k) e g r.same)

    pub start_some : (side : Side) (f : Found) → IsLeastDifference fields p q side f
        → IsLeastStart fields k (Some f.start)
    start_some side f d =
        least_start fields k side f
        (both_are (λ r s. IsLeastDifference fields r s side f) p q (either fields k) (moves fields k) e g d)

  -- the fabric's ends, and the move
  module _ (e : p ≡ ends fields k) (g : q ≡ moves fields k) where
    pub left_askable : IsAskable fields k → AreComparable fields p q
    left_askable a = both_are (AreComparable fields) (ends fields k) (moves fields k) p q (sym e) (sym g) (ends_and_move fields k a)

    pub left_none : IsOnTarget fields k → (c : CertificateValue) → IsRelated fields p q c → IsCarried fields k
    left_none target c r = is_carried fields k target (both_are (AreSame fields) p q (ends fields k) (moves fields k) e g r.same)

    pub left_some : IsOnTarget fields k → (side : Side) (f : Found) → IsLeastDifference fields p q side f
        → IsFirstNotCarried fields k f.start
    left_some target side f d =
        least_left fields k target side f
        (both_are (λ r s. IsLeastDifference fields r s side f) p q (ends fields k) (moves fields k) e g d)

  -- the histories from one packet that end elsewhere, and none
  module _ (x : Packet) (e : p ≡ elsewhere fields k x) (g : q ≡ drop_policy) (askable : IsAskable fields k)
      (some : (f : Found) × IsOffTarget fields k f × (f.start ≡ x)) where
    -- the packet is in range
    packet : IsPacket fields x
    packet = subst (λ z. IsPacket fields z) some.2 some.1.enters.packet

    pub from_askable : AreComparable fields p q
    from_askable =
        both_are (AreComparable fields) (elsewhere fields k x) drop_policy p q (sym e) (sym g)
        (elsewhere_and_none fields k askable x packet)

    pub from_none : (c : CertificateValue) → IsRelated fields p q c → ⊥
    from_none c r =
        some_elsewhere fields k askable.fabric.in_range x (subst (λ z. Enters fields k z) some.2 some.1.enters)
        (moved_in_range fields k askable x packet) some.0 some.1 some.2
        (both_are (AreSame fields) p q (elsewhere fields k x) drop_policy e g r.same)

    pub from_some : (side : Side) (f : Found) → IsLeastDifference fields p q side f → IsLeastFrom fields k x f
    from_some side f d =
        least_from fields k askable.fabric.in_range x (subst (λ z. Enters fields k z) some.2 some.1.enters)
        (moved_in_range fields k askable x packet) side f
        (both_are (λ r s. IsLeastDifference fields r s side f) p q (elsewhere fields k x) drop_policy e g d)
