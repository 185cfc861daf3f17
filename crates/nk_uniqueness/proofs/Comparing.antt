-- What comparing two policies tells is one, and so is what is found of a certificate.
use Rattle.std.proofs.Common.{◌≡◌, ℕ, ◌+◌, ⊎_elim, List, refl, sym, ap, subst, ◌∙◌}
use Rattle.std.specs.Prelude.{Ok}
use Rattle.nk_field.specs.Order.{Found}
use Rattle.nk_field.specs.Packet.{FieldTable, IsFieldTable}
use Rattle.nk_policy.specs.Policy.{Policy, marked_from, dups_of}
use Rattle.nk_names.specs.declared.Program.{Program}
use Rattle.nk_names.specs.ProgramOf.{program_by}
use Rattle.nk_cert.specs.Equality.{Side, on_left, on_right, IsOfOneAlone, IsLeastDifference}
use Rattle.nk_cert.specs.Certificates.{CertificateValue}
use Rattle.nk_cert.specs.Printed.{IsPrinted}
use Rattle.nk_cert.specs.Verdicts.{Finding, IsFinding}
use Rattle.nk_check.proofs.OneAlone.{no_difference}
use Rattle.nk_bisim.specs.Answers.{IsCompared}
use Rattle.nk_cert.specs.declared.compared.Compared.{Compared}
use Rattle.nk_cert.specs.declared.compared.Compared.TheVariants.{Related, Broken}
use Rattle.nk_uniqueness.specs.Told.{Told, certified, alone, told_of, LacksOne, IsTold, IsToldFor, IsFoundFor}
use Rattle.nk_compile.proofs.Orders.{one_least}
use Rattle.nk_compile.proofs.Reasons.{none_some}
use Rattle.nk_names.proofs.Alike.{fields_alike, named_alike, one_policy}

-- a history is of one side alone
one_side : (fields : FieldTable) (p q : Policy) (s t : Side) (f : Found) → IsOfOneAlone fields p q s f → IsOfOneAlone fields p q t f → s ≡ t
one_side fields p q on_left on_left f h k = refl
one_side fields p q on_left on_right f h k = absurd (h.2 k.1)
one_side fields p q on_right on_left f h k = absurd (h.2 k.1)
one_side fields p q on_right on_right f h k = refl

-- the least difference is one, and so is its side
pub one_difference : (fields : FieldTable) (p q : Policy) (s t : Side) (f g : Found) → IsLeastDifference fields p q s f → IsLeastDifference fields p q t g
    → (s ≡ t) × (f ≡ g)
one_difference fields p q s t f g h k =
    let e = one_least (λ z. (side : Side) × IsOfOneAlone fields p q side z) f g h.1 k.1 in
    (one_side fields p q s t f h.0 (subst (λ z. IsOfOneAlone fields p q t z) (sym e) k.0), e)

-- that two policies have at most one printed certificate
abbrev pub OnePrinted : Type 0
OnePrinted = (fields : FieldTable) (p q : Policy) → IsFieldTable fields
    → (c d : CertificateValue) → IsPrinted fields p q c → IsPrinted fields p q d → c ≡ d

-- what is told of two policies is one
pub one_told : OnePrinted → (fields : FieldTable) (p q : Policy) → IsFieldTable fields → (a b : Told) → IsTold fields p q a → IsTold fields p q b → a ≡ b
one_told law fields p q table (certified c) (certified d) h k = ap certified (law fields p (marked_from q (1 + dups_of p)) table c d h.printed k.printed)
one_told law fields p q table (certified c) (alone t g) h k = absurd (no_difference fields p q t g h.same k.0)
one_told law fields p q table (alone s f) (certified d) h k = absurd (no_difference fields p q s f k.same h.0)
one_told law fields p q table (alone s f) (alone t g) h k =
    let e = one_difference fields p q s t f g h k in
    ap (λ z. alone z f) e.0 ∙ ap (λ z. alone t z) e.1

-- over the same fields and policies
told_alike : (f g : FieldTable) (p p' q q' : Policy) (a : Told) → f ≡ g → p ≡ p' → q ≡ q' → IsTold f p q a → IsTold g p' q' a
told_alike f g p p' q q' a e d s h =
    subst (λ z. IsTold g p' z a) s (subst (λ z. IsTold g z q a) d (subst (λ z. IsTold z p q a) e h))

finding_alike : (f g : FieldTable) (p p' q q' : Policy) (c : CertificateValue) (v : Finding) → f ≡ g → p ≡ p' → q ≡ q'
    → IsFinding f p (marked_from q (1 + dups_of p)) c v → IsFinding g p' (marked_from q' (1 + dups_of p')) c v
finding_alike f g p p' q q' c v e d s h =
    subst (λ z. IsFinding g p' (marked_from z (1 + dups_of p')) c v) s (subst (λ z. IsFinding g z (marked_from q (1 + dups_of z)) c v) d (subst (λ z. IsFinding z p (marked_from q (1 + dups_of p)) c v) e h))

-- that at most one thing is found of a certificate
abbrev pub OneFinding : Type 0
OneFinding = (fields : FieldTable) (p q : Policy) (c : CertificateValue) (v w : Finding)
    → IsFinding fields p q c v → IsFinding fields p q c w → v ≡ w

-- what a comparison answers is told of its names
told_for : (program : Program) (left right : List ℕ) (a : Compared) → IsCompared program left right (Ok a) → IsToldFor program left right (told_of a)
told_for program left right (Related c) h = h
told_for program left right (Broken f) h = h

module _ (program other : Program) (same : program_by program ≡ program_by other) (left right : List ℕ) where
  -- what is told of two names is one
  pub one_told_for : OnePrinted → IsFieldTable program.fields → (a b : Told) → IsToldFor program left right a → IsToldFor other left right b → a ≡ b
  one_told_for law table a b h k =
      one_told law program.fields h.0 h.1 table a b h.4
      (told_alike other.fields program.fields k.0 h.0 k.1 h.1 b (sym (fields_alike program other same)) (sym (one_policy program other same left h.0 k.0 h.2 k.2)) (sym (one_policy program other same right h.1 k.1 h.3 k.3)) k.4)

  -- so is what comparing them answers
  pub one_compared : OnePrinted → IsFieldTable program.fields → (a b : Compared) → IsCompared program left right (Ok a) → IsCompared other left right (Ok b) → told_of a ≡ told_of b
  one_compared law table a b h k = one_told_for law table (told_of a) (told_of b) (told_for program left right a h) (told_for other left right b k)

  -- nothing is told of a name without a policy
  pub none_told : (a : Told) → IsToldFor program left right a → LacksOne other left right → ⊥
  none_told a h k =
      ⊎_elim
      (λ n. none_some h.0 (sym n ∙ sym (named_alike program other same left) ∙ h.2))
      (λ n. none_some h.1 (sym n ∙ sym (named_alike program other same right) ∙ h.3))
      k

  -- what is found of a certificate for two names is one
  pub one_found_for : OneFinding → (c : CertificateValue) (v w : Finding) → IsFoundFor program left right c v → IsFoundFor other left right c w → v ≡ w
  one_found_for law c v w h k =
      law program.fields h.0 (marked_from h.1 (1 + dups_of h.0)) c v w h.4
      (finding_alike other.fields program.fields k.0 h.0 k.1 h.1 c w (sym (fields_alike program other same)) (sym (one_policy program other same left h.0 k.0 h.2 k.2)) (sym (one_policy program other same right h.1 k.1 h.3 k.3)) k.4)

  -- and none is of a name without a policy
  pub none_found : (c : CertificateValue) (v : Finding) → IsFoundFor program left right c v → LacksOne other left right → ⊥
  none_found c v h k =
      ⊎_elim
      (λ n. none_some h.0 (sym n ∙ sym (named_alike program other same left) ∙ h.2))
      (λ n. none_some h.1 (sym n ∙ sym (named_alike program other same right) ∙ h.3))
      k
