-- A packet that is read is in the fields' ranges, and its tag is 0.
use Rattle.std.proofs.Common.{◌≡◌, ◌≢◌, ◌<◌, ◌≤◌, ◌+◌, ℕ, zero, suc, Bool, true, false, not, cond, Option, None, Some, Result, Ok, Err, List, [], ◌∷◌, ◌++◌, ◌⊎◌, inl, inr, length, get_or, refl, sym, ap, subst, ◌∙◌, arith, codes, length-set, get_or-set_same, get_or-set_other}
use Rattle.std.specs.Prelude.{◌==◌, ◌&&◌, nat_le, filter, replicate, slice_set, slice_index, IfOk}
use Rattle.std.specs.List.{range_with_len}
use Rattle.std.specs.Str.{all_ascii_digits}
use Rattle.std.specs.Str.Parse.{digits_value}
use Rattle.std.proofs.lemmas.Bool.Decides.{nat_tests, eqb_tells}
use Rattle.std.proofs.lemmas.Grind.{same_number_lists}
use Rattle.std.proofs.lemmas.List.{get_or-replicate}
use Rattle.std.proofs.Math.ListN.{get_or-eq_default}
use Rattle.nk_field.specs.Packet.{FieldTable, IsPacket, erased, IsUntagged}
use Rattle.nk_field.specs.Texts.{is_tag, is_shown, shown, name_of, rest_after_prefix, number_upto, number_if_any, value_in, with_value, read_items}
use Rattle.nk_field.specs.declared.packet.Packet.{Packet}
use Rattle.nk_field.specs.declared.reading.PacketError.{PacketError}
use Rattle.nk_field.proofs.ReadBack.{kept, cleared, without_length}

-- a packet in range whose tag is 0
pub record IsGiven (t : FieldTable) (pk : List ℕ) : Type 0 where
  pub packet : IsPacket t pk
  pub no_tag : (k : ℕ) → is_tag t k ≡ true → get_or pk k 0 ≡ 0

-- a number that is read isn't above the largest
number_below : (max v : ℕ) (ds : List ℕ) → number_upto max ds ≡ Some v → v ≤ max
number_below max v ds h = by_test (not (length ds == 0) && all_ascii_digits ds) (nat_le (digits_value 10 ds) max) refl h
  where
    by_test : (a b : Bool) → nat_le (digits_value 10 ds) max ≡ b → cond (a && b) (Some (digits_value 10 ds)) None ≡ Some v → v ≤ max
    by_test true true e g =
        let le : digits_value 10 ds ≤ max = grind (arith, nat_tests) in
        let same : digits_value 10 ds ≡ v = cc in
        omega (arith, le, same)
    by_test true false e g = absurd cc
    by_test false b e g = absurd cc

value_below : (max v : ℕ) (o : Option (List ℕ)) → number_if_any max o ≡ Some v → v ≤ max
value_below max v None h = absurd cc
value_below max v (Some ds) h = number_below max v ds h

-- one value more
set_given : (t : FieldTable) (pk : List ℕ) (f v : ℕ) → is_tag t f ≡ false → v ≤ slice_index t.maxima f → IsGiven t pk → IsGiven t (slice_set pk f v)
set_given t pk f v plain le is = record {
  packet = record { places = length-set pk f v ∙ is.packet.places; within = within };
  no_tag = no_tag;
}
  where
    within : (k : ℕ) → slice_index (slice_set pk f v) k ≤ slice_index t.maxima k
    within k = elim (eqb_tells k f) [
      | inl here ↦ at here.1
      | inr there ↦ omega (arith, is.packet.within k, get_or-set_other pk f k v 0 there.1)
    ]
      where
        inside : (k < length pk) ⊎ (length pk ≤ k) → k ≡ f → slice_index (slice_set pk f v) k ≤ slice_index t.maxima k
        inside (inl lt) e =
            let top : slice_index t.maxima f ≡ slice_index t.maxima k = ap (slice_index t.maxima) (sym e) in
            let value : slice_index (slice_set pk f v) k ≡ v = ap (λ j. get_or (slice_set pk f v) j 0) e ∙ get_or-set_same pk f v 0 (omega (arith, e)) in
            omega (arith, top, value, le)
        inside (inr past) e =
            let value : slice_index (slice_set pk f v) k ≡ 0 = get_or-eq_default (slice_set pk f v) 0 (omega (arith, length-set pk f v)) in
            omega (arith, value)

        sides : (k < length pk) ⊎ (length pk ≤ k)
        sides = grind (arith)

        at : k ≡ f → slice_index (slice_set pk f v) k ≤ slice_index t.maxima k
        at e = inside sides e

    no_tag : (k : ℕ) → is_tag t k ≡ true → get_or (slice_set pk f v) k 0 ≡ 0
    no_tag k e =
        let other : k ≢ f = λ same. absurd (let tag : is_tag t f ≡ true = ap (is_tag t) (sym same) ∙ e in cc) in
        get_or-set_other pk f k v 0 other ∙ is.no_tag k e

-- none of the fields is the tag
abbrev pub NoneTag : FieldTable → List ℕ → Type 0
NoneTag t [] = Unit {0}
NoneTag t (f ∷ fs) = (is_tag t f ≡ false) × NoneTag t fs

-- the packet of an answer
abbrev pub in_ok : Packet → Result Packet PacketError → Packet
in_ok other (Ok p) = p
in_ok other (Err e) = other

-- a packet that is read of one that is so is so
pub read_given : (t : FieldTable) (fs : List ℕ) (its : List (List ℕ)) (n : ℕ) (qk r : Packet) → NoneTag t fs → IsGiven t qk
    → read_items t fs its n qk ≡ Ok r → IsGiven t r
read_given t [] [] n qk r plain is e = subst (IsGiven t) (ap (in_ok qk) e) is
read_given t [] (i ∷ rest) n qk r plain is e = absurd cc
read_given t (f ∷ fs) [] n qk r plain is e = absurd cc
read_given t (f ∷ fs) (i ∷ rest) n qk r plain is e =
    by_value (value_in t f i) refl (λ v gives. read_given t fs rest (n + 1) (slice_set qk f v) r plain.1 (set_given t qk f v plain.0 (value_below (slice_index t.maxima f) v (rest_after_prefix (name_of t f ++ codes "=") i) gives) is)) e
  where
    by_value : (o : Option ℕ) → value_in t f i ≡ o
        → ((v : ℕ) → value_in t f i ≡ Some v → read_items t fs rest (n + 1) (slice_set qk f v) ≡ Ok r → IsGiven t r)
        → with_value o (n + 1) (λ v. read_items t fs rest (n + 1) (slice_set qk f v)) ≡ Ok r → IsGiven t r
    by_value None is_none step g = absurd cc
    by_value (Some v) gives step g = step v gives g

none_tag : (t : FieldTable) (a n : ℕ) → NoneTag t (filter (is_shown t false) (range_with_len a n))
none_tag t a zero = tt
none_tag t a (suc n) = by_test (is_tag t a) refl (none_tag t (a + 1) n)
  where
    by_test : (b : Bool) → is_tag t a ≡ b → NoneTag t (filter (is_shown t false) (range_with_len (a + 1) n))
        → NoneTag t (cond (not b) (a ∷ filter (is_shown t false) (range_with_len (a + 1) n)) (filter (is_shown t false) (range_with_len (a + 1) n)))
    by_test true e rest = rest
    by_test false e rest = (e, rest)

abbrev zero_packet : List ℕ
zero_packet = replicate 18 0

zeros : (k : ℕ) → get_or zero_packet k 0 ≡ 0
zeros k = by_place (grind (arith))
  where
    by_place : (k < 18) ⊎ (18 ≤ k) → get_or zero_packet k 0 ≡ 0
    by_place (inl lt) = get_or-replicate 18 k 0 0 lt
    by_place (inr past) = get_or-eq_default zero_packet 0 past

-- a packet whose tag is 0 is as it is without the tag
pub given_untagged : (t : FieldTable) (pk : List ℕ) → IsGiven t pk → IsUntagged t pk
given_untagged t pk is = same_number_lists (erased t pk) pk (without_length t.tag pk) (λ k lt. by_test k (omega (arith, without_length t.tag pk)) (is_tag t k) refl)
  where
    by_test : (k : ℕ) → k < length pk → (b : Bool) → is_tag t k ≡ b → get_or (erased t pk) k 0 ≡ get_or pk k 0
    by_test k lt true e = cleared t.tag pk k e lt ∙ sym (is.no_tag k e)
    by_test k lt false e = kept t.tag pk k e

-- what is read is a packet of the fields, and its tag is 0
pub answer_given : (t : FieldTable) (its : List (List ℕ)) (answer : Result Packet PacketError)
    → answer ≡ read_items t (shown t false) its 0 (replicate 18 0) → IfOk answer (λ p. IsPacket t p × IsUntagged t p)
answer_given t its (Err e) same = tt
answer_given t its (Ok p) same =
    let is = read_given t (shown t false) its 0 (replicate 18 0) p (none_tag t 0 (length t.maxima))
    record { packet = record { places = refl; within = λ k. omega (arith, zeros k) }; no_tag = λ k e. zeros k } (sym same) in
    (is.packet, given_untagged t p is)
