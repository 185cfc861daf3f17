-- One packet alone of those in range, and the fabric's histories from it that end elsewhere than at the moved packet.
use Rattle.std.proofs.Common.{◌≡◌, ◌≢◌, ℕ, zero, suc, ◌+◌, ◌<◌, ◌≤◌, ⊎_elim, List, [], ◌∷◌, ◌++◌, length, refl, sym, ap, subst, ◌∙◌, arith}
use Rattle.std.specs.Prelude.{◌↔◌, slice_index}
use Rattle.std.proofs.lemmas.Bool.{cases_lt}
use Rattle.std.proofs.lemmas.Grind.{same_number_lists}
use Rattle.std.proofs.lemmas.List.{append-nil, get_or_past}
use Rattle.nk_field.specs.declared.packet.Packet.{Packet}
use Rattle.nk_field.specs.Packet.{FieldTable, IsPacket}
use Rattle.nk_policy.specs.Policy.{Policy}
use Rattle.nk_policy.specs.Meaning.{keep, way_of_all, Gives}
use Rattle.nk_policy.specs.Ranges.{IsInRange}
use Rattle.nk_policy.proofs.InRange.{ways_keep}
use Rattle.nk_policy.proofs.LabelSteps.{gives_is_runs}
use Rattle.nk_names.specs.ProgramValue.{VirtualLink}
use Rattle.nk_virtual.specs.Fabrics.{moved_along}
use Rattle.nk_virtual.specs.Questions.{tests_from, only, elsewhere}
use Rattle.nk_virtual.proofs.Literals.{plain}
use Rattle.nk_virtual.proofs.Entries.{test_first}

-- tests from a field on keep the packet that has these values there
tests_way : (x : Packet) (f : ℕ) (ms : List ℕ) (z : Packet) (w : List Packet) (y : Packet)
    → way_of_all (tests_from f ms x) plain z w y
    ↔ (((i : ℕ) → i < length ms → slice_index z (f + i) ≡ slice_index x (f + i)) × keep z w y)
tests_way x f [] z w y = (λ r. (λ i lt. absurd (omega (arith, lt)), r), λ h. h.1)
tests_way x f (m ∷ ms) z w y =
    let first = test_first f (slice_index x f) (way_of_all (tests_from (f + 1) ms x) plain) z w y in
    let rest = tests_way x (f + 1) ms z w y in (
      λ r.
          let a = first.0 r in
          let b = rest.0 a.1 in
          (here a.0 b.0, b.1),
      λ h. first.1 (this h.0, rest.1 (following h.0, h.1)),
    )
  where
    here : slice_index z f ≡ slice_index x f
        → ((i : ℕ) → i < length ms → slice_index z ((f + 1) + i) ≡ slice_index x ((f + 1) + i))
        → (i : ℕ) → i < length (m ∷ ms) → slice_index z (f + i) ≡ slice_index x (f + i)
    here e more zero lt =
        let same : f + 0 ≡ f = omega arith in
        ap (slice_index z) same ∙ e ∙ ap (slice_index x) (sym same)
    here e more (suc i) lt =
        let next : f + suc i ≡ (f + 1) + i = omega arith in
        ap (slice_index z) next ∙ more i (omega (arith, lt)) ∙ ap (slice_index x) (sym next)

    this : ((i : ℕ) → i < length (m ∷ ms) → slice_index z (f + i) ≡ slice_index x (f + i))
        → slice_index z f ≡ slice_index x f
    this all =
        let same : f ≡ f + 0 = omega arith in
        ap (slice_index z) same ∙ all 0 (omega arith) ∙ ap (slice_index x) (sym same)

    following : ((i : ℕ) → i < length (m ∷ ms) → slice_index z (f + i) ≡ slice_index x (f + i))
        → (i : ℕ) → i < length ms → slice_index z ((f + 1) + i) ≡ slice_index x ((f + 1) + i)
    following all i lt =
        let next : (f + 1) + i ≡ f + suc i = omega arith in
        ap (slice_index z) next ∙ all (suc i) (omega (arith, lt)) ∙ ap (slice_index x) (sym next)

module _ (fields : FieldTable) where
  -- packets in range with the same values of all fields are one
  same_packet : (z x : Packet) → IsPacket fields z → IsPacket fields x
      → ((i : ℕ) → i < length fields.maxima → slice_index z i ≡ slice_index x i) → z ≡ x
  same_packet z x a b same =
      same_number_lists z x (a.places ∙ sym b.places)
      (λ i lt. ⊎_elim (λ among. same i among) (λ past. none z a i past ∙ sym (none x b i past)) (cases_lt i (length fields.maxima)))
    where
      none : (v : Packet) → IsPacket fields v → (i : ℕ) → length fields.maxima ≤ i → slice_index v i ≡ 0
      none v h i past =
          let most : slice_index fields.maxima i ≡ 0 = get_or_past fields.maxima i 0 past in
          omega (arith, most, h.within i)

  -- one packet alone of those in range
  pub only_way : (x z : Packet) → IsPacket fields x → IsPacket fields z → (w : List Packet) (y : Packet)
      → Gives (only fields x) z w y ↔ ((z ≡ x) × keep z w y)
  only_way x z a b w y =
      let t = tests_way x 0 fields.maxima z w y in (
        λ r. let h = t.0 r in (same_packet z x b a (from_zero h.0), h.1),
        λ h. t.1 (λ i lt. ap (λ v. slice_index v (0 + i)) h.0, h.1),
      )
    where
      from_zero : ((i : ℕ) → i < length fields.maxima → slice_index z (0 + i) ≡ slice_index x (0 + i))
          → (i : ℕ) → i < length fields.maxima → slice_index z i ≡ slice_index x i
      from_zero all i lt =
          let same : i ≡ 0 + i = omega arith in
          ap (slice_index z) same ∙ all i lt ∙ ap (slice_index x) (sym same)

  -- a history of a policy in range ends at a packet in range
  pub ends_in_range : (p : Policy) → IsInRange p fields → (z : Packet) (w : List Packet) (y : Packet)
      → Gives p z w y → IsPacket fields z → IsPacket fields y
  ends_in_range p q z w y g h = let r = (gives_is_runs p z w y).0 g in ways_keep fields p q z r.0 y r.2 h

  -- the fabric's histories from one packet that end elsewhere
  pub elsewhere_way : (k : VirtualLink) → IsInRange k.fabric fields → (x : Packet) → IsPacket fields x
      → IsPacket fields (moved_along k x) → (z : Packet) → IsPacket fields z → (w : List Packet) (y : Packet)
      → Gives (elsewhere fields k x) z w y ↔ ((z ≡ x) × Gives k.fabric z w y × (y ≢ moved_along k x))
  elsewhere_way k range x a m z b w y = (
    λ r.
        let o = (only_way x z a b r.0 r.2).0 r.4 in
        let s = r.5 in
        let t = s.5 in
        let front : w ≡ r.1 = r.3 ∙ ap (λ v. v ++ r.1) o.1.0 in
        let back : r.1 ≡ s.0 = s.3 ∙ ap (λ v. s.0 ++ v) (t.3 ∙ ap (λ v. v ++ t.1) t.4.0.0 ∙ t.5.0) ∙ append-nil s.0 in
        let end : y ≡ s.2 = t.5.1 ∙ t.4.0.1 in
        let g : Gives k.fabric z s.0 s.2 = subst (λ v. Gives k.fabric v s.0 s.2) o.1.1 s.4 in
        let g' : Gives k.fabric z w y = subst (λ v. Gives k.fabric z w v) (sym end) (subst (λ v. Gives k.fabric z v s.2) (sym (front ∙ back)) g) in
        let last : IsPacket fields s.2 = ends_in_range k.fabric range z s.0 s.2 g b in (
          o.0,
          g',
          λ e. t.4.1 ((only_way (moved_along k x) s.2 m last [] s.2).1 (sym end ∙ e, (refl, refl))),
        ),
    λ h.
        let last : IsPacket fields y = ends_in_range k.fabric range z w y h.1 b in (
          [],
          w,
          z,
          refl,
          (only_way x z a b [] z).1 (h.0, (refl, refl)),
          (
            w,
            [],
            y,
            sym (append-nil w),
            h.1,
            ([], [], y, refl, ((refl, refl), λ o. h.2 ((only_way (moved_along k x) y m last [] y).0 o).0), (refl, refl)),
          ),
        ),
  )
