-- From a packet in range, a policy in range ends and records at packets in range.
use Rattle.std.proofs.Common.{◌≡◌, ◌≢◌, ℕ, ◌≤◌, ◌⊎◌, inl, inr, ⊎_elim, List, length, sym, ap, subst, ◌∙◌, arith, length-set, get_or-set_other, get_or-set_same}
use Rattle.std.specs.Prelude.{slice_index, slice_set}
use Rattle.std.proofs.lemmas.Bool.{cases_lt}
use Rattle.std.proofs.lemmas.List.{get_or_past}
use Rattle.nk_field.specs.declared.packet.Packet.{Packet}
use Rattle.nk_field.specs.Packet.{FieldTable, IsPacket}
use Rattle.nk_policy.specs.Policy.{Policy}
use Rattle.nk_policy.specs.Meaning.{way_of}
use Rattle.nk_policy.specs.Progress.{Marked, numbered, RecordsAt}
use Rattle.nk_policy.specs.After.{after}
use Rattle.nk_policy.specs.Ranges.{IsInRange, IsValueOf}
use Rattle.nk_policy.proofs.Kept

-- after a write the value is the one that was there, or the one written at its own place
index_after : (pk : List ℕ) (f n g : ℕ)
    → (slice_index (slice_set pk f n) g ≡ slice_index pk g) ⊎ ((g ≡ f) × (slice_index (slice_set pk f n) g ≡ n))
index_after pk f n g =
    ⊎_elim
    (λ lt. let ne : g ≢ f = omega arith in inl (get_or-set_other pk f g n 0 ne))
    (λ le.
    ⊎_elim
    (λ gt. let ne : g ≢ f = omega arith in inl (get_or-set_other pk f g n 0 ne))
    (λ ge.
    let same : g ≡ f = omega arith in
    ⊎_elim
    (λ within. inr (same, ap (λ i. slice_index (slice_set pk f n) i) same ∙ get_or-set_same pk f n 0 within))
    (λ past.
    let long : length (slice_set pk f n) ≤ g = omega (arith, length-set pk f n) in
    let long' : length pk ≤ g = omega arith in
    inl (get_or_past (slice_set pk f n) g 0 long ∙ sym (get_or_past pk g 0 long')))
    (cases_lt f (length pk)))
    (cases_lt f g))
    (cases_lt g f)

module _ (fields : FieldTable) where
  -- a write of a value in range keeps the packet in range
  set_keeps : (pk : List ℕ) (f n : ℕ) → n ≤ slice_index fields.maxima f → IsPacket fields pk
      → IsPacket fields (slice_set pk f n)
  set_keeps pk f n fits h = record {
    places = length-set pk f n ∙ h.places;
    within = λ g.
        ⊎_elim
        (λ same. subst (λ i. i ≤ slice_index fields.maxima g) (sym same) (h.within g))
        (λ new. subst (λ i. i ≤ slice_index fields.maxima g) (sym new.1) (subst (λ i. n ≤ slice_index fields.maxima i) (sym new.0) fits))
        (index_after pk f n g);
  }

  -- each way of a policy in range does
  pub ways_keep : (p : Policy) → IsInRange p fields → (pk : Packet) (w : Marked) (y : Packet)
      → way_of p numbered pk w y → IsPacket fields pk → IsPacket fields y
  ways_keep p q = Kept.ways_keep (IsValueOf fields) (λ pk. IsPacket fields pk) set_keeps p q

  -- and so is all that it records
  pub records_keep : (p : Policy) → IsInRange p fields
      → (pk : Packet) (u : Marked) (x : Packet) (l : ℕ) → RecordsAt p pk u x l → IsPacket fields pk
      → IsPacket fields x
  records_keep p q = Kept.records_keep (IsValueOf fields) (λ pk. IsPacket fields pk) set_keeps p q

  -- what is left after a dup is in range too
  pub after_in_range : (p : Policy) (k : ℕ) → IsInRange p fields → IsInRange (after p k) fields
  after_in_range p k q = Kept.after_assigns (IsValueOf fields) (λ pk. IsPacket fields pk) set_keeps p k q
