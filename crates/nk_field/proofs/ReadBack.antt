-- What is printed of a packet is read back.
use Rattle.std.proofs.Common.{◌≡◌, ◌≢◌, ◌<◌, ◌≤◌, ◌+◌, ◌-◌, ◌^◌, ℕ, zero, suc, Bool, true, false, not, cond, Option, None, Some, Ok, List, [], ◌∷◌, ◌++◌, ◌⊎◌, inl, inr, ⊎_elim, length, get_or, refl, sym, ap, subst, ◌∙◌, arith, append-nil, codes, decimal, length-set, get_or-set_same, get_or-set_other}
use Rattle.std.specs.Prelude.{◌==◌, All, filter, map, replicate, slice_set, slice_index}
use Rattle.std.specs.List.{join_by, range_with_len, slice_split}
use Rattle.std.proofs.Math.ListN.{get_or-eq_default}
use Rattle.std.proofs.lemmas.Bool.Decides.{nat_tests, eqb_tells, leb_tells}
use Rattle.std.proofs.lemmas.Fmt.{decimal_is_IsNumeral}
use Rattle.std.proofs.lemmas.Grind.{same_number_lists}
use Rattle.std.proofs.lemmas.List.{get_or_default, get_or-replicate}
use Rattle.std.proofs.lemmas.List.Elements.{All-append, All-cons}
use Rattle.std.proofs.lemmas.List.Splits.{slice_split_none, slice_split_at}
use Rattle.std.proofs.lemmas.Str.Parse.{digit_at}
use Rattle.nk_field.specs.Packet.{FieldTable, IsPacket, without, erased}
use Rattle.nk_field.specs.Texts.{is_this, is_tag, is_shown, shown, name_of, item_text, packet_bytes, number_if_any, value_in, with_value, read_items, ReadsPrinted}
use Rattle.nk_field.specs.declared.packet.Packet.{Packet}
use Rattle.nk_field.proofs.Printing.{shown_first}
use Rattle.nk_field.proofs.Items.{after_here, number_is, own}

-- a text without a comma
abbrev pub NoComma : List ℕ → Type 0
NoComma xs = All (λ b. (b == 44) ≡ false) xs

-- each of these gives a text without a comma
abbrev pub EachPlain : (ℕ → List ℕ) → List ℕ → Type 0
EachPlain g [] = Unit {0}
EachPlain g (f ∷ fs) = NoComma (g f) × EachPlain g fs

-- texts without commas, joined by commas, are split into the same texts
pub split_joined : (g : ℕ → List ℕ) (x : ℕ) (xs : List ℕ) → EachPlain g (x ∷ xs)
    → slice_split (λ b. b == 44) (join_by g (codes ",") (x ∷ xs)) ≡ map g (x ∷ xs)
split_joined g x [] h = ap (slice_split (λ b. b == 44)) (append-nil (g x)) ∙ slice_split_none (λ b. b == 44) (g x) h.0
split_joined g x (y ∷ ys) h =
    slice_split_at (λ b. b == 44) (g x) 44 (join_by g (codes ",") (y ∷ ys)) h.0 refl
    ∙ ap (λ l. g x ∷ l) (split_joined g y ys h.1)

-- a number's digits have no comma
decimal_plain : (n : ℕ) → n < 2 ^ 64 → NoComma (decimal n)
decimal_plain n lt k d within =
    let digit = digit_at (decimal n) k (decimal_is_IsNumeral n lt).0.1 within in
    let same : get_or (decimal n) k d ≡ get_or (decimal n) k 0 = get_or_default (decimal n) k d 0 within in
    let differs : get_or (decimal n) k d ≢ 44 = omega (arith, digit.0, same) in
    grind (arith, nat_tests, differs)

-- what isn't a comma fails the test
plain_from : (xs : List ℕ) → All (λ b. b ≢ 44) xs → NoComma xs
plain_from xs h k d within = let differs = h k d within in grind (arith, nat_tests, differs)

-- nor has an item a comma
item_plain : (t : FieldTable) (pk : List ℕ) (f : ℕ) → All (λ b. b ≢ 44) (name_of t f) → slice_index pk f < 2 ^ 64 → NoComma (item_text t pk f)
item_plain t pk f name small =
    All-append (λ b. (b == 44) ≡ false) (name_of t f ++ codes "=") (decimal (slice_index pk f))
    (All-append (λ b. (b == 44) ≡ false) (name_of t f) (codes "=") (plain_from (name_of t f) name)
    (All-cons (λ b. (b == 44) ≡ false) 61 [] refl (λ k d within. absurd (omega arith))))
    (decimal_plain (slice_index pk f) small)

-- the value of an item that was printed
item_value : (t : FieldTable) (pk : List ℕ) (f : ℕ) → slice_index pk f ≤ slice_index t.maxima f → slice_index pk f < 2 ^ 64
    → value_in t f (item_text t pk f) ≡ Some (slice_index pk f)
item_value t pk f le small =
    let is = decimal_is_IsNumeral (slice_index pk f) small in
    ap (number_if_any (slice_index t.maxima f)) (after_here (name_of t f ++ codes "=") (decimal (slice_index pk f)))
    ∙ number_is (slice_index t.maxima f) (slice_index pk f) (decimal (slice_index pk f)) (own.from (decimal (slice_index pk f)) is.0.1) is.0.0 is.1 le

-- a packet with the values of another at these fields
abbrev pub put_all : List ℕ → List ℕ → List ℕ → List ℕ
put_all pk [] qk = qk
put_all pk (f ∷ fs) qk = put_all pk fs (slice_set qk f (slice_index pk f))

-- the values in range at these fields
abbrev pub EachFits : FieldTable → List ℕ → List ℕ → Type 0
EachFits t pk [] = Unit {0}
EachFits t pk (f ∷ fs) = ((slice_index pk f ≤ slice_index t.maxima f) × (slice_index pk f < 2 ^ 64)) × EachFits t pk fs

-- printed items are read
pub read_printed : (t : FieldTable) (pk : List ℕ) (fs : List ℕ) (n : ℕ) (qk : Packet) → EachFits t pk fs
    → read_items t fs (map (item_text t pk) fs) n qk ≡ Ok (put_all pk fs qk)
read_printed t pk [] n qk h = refl
read_printed t pk (f ∷ fs) n qk h =
    ap (λ o. with_value o (n + 1) (λ v. read_items t fs (map (item_text t pk) fs) (n + 1) (slice_set qk f v))) (item_value t pk f h.0.0 h.0.1)
    ∙ read_printed t pk fs (n + 1) (slice_set qk f (slice_index pk f)) h.1

-- as many values as before
put_length : (pk fs qk : List ℕ) → length (put_all pk fs qk) ≡ length qk
put_length pk [] qk = refl
put_length pk (f ∷ fs) qk = put_length pk fs (slice_set qk f (slice_index pk f)) ∙ length-set qk f (slice_index pk f)

-- a field that isn't written stays
put_other : (p : ℕ → Bool) (pk qk : List ℕ) (a n k : ℕ) → (p k ≡ false) ⊎ ((k < a) ⊎ (a + n ≤ k))
    → get_or (put_all pk (filter p (range_with_len a n)) qk) k 0 ≡ get_or qk k 0
put_other p pk qk a zero k h = refl
put_other p pk qk a (suc n) k h = by_test (p a) refl (put_other p pk qk (a + 1) n k further) (put_other p pk (slice_set qk a (slice_index pk a)) (a + 1) n k further)
  where
    further : (p k ≡ false) ⊎ ((k < a + 1) ⊎ (a + 1 + n ≤ k))
    further = ⊎_elim inl (λ o. inr (⊎_elim (λ lt. inl (omega arith)) (λ le. inr (omega arith)) o)) h

    apart : p a ≡ true → k ≢ a
    apart passes e = ⊎_elim (λ fails. let other : p k ≡ true = ap p e ∙ passes in cc) (λ o. ⊎_elim (λ lt. omega arith) (λ le. omega arith) o) h

    by_test : (b : Bool) → p a ≡ b
        → get_or (put_all pk (filter p (range_with_len (a + 1) n)) qk) k 0 ≡ get_or qk k 0
        → get_or (put_all pk (filter p (range_with_len (a + 1) n)) (slice_set qk a (slice_index pk a))) k 0 ≡ get_or (slice_set qk a (slice_index pk a)) k 0
        → get_or (put_all pk (cond b (a ∷ filter p (range_with_len (a + 1) n)) (filter p (range_with_len (a + 1) n))) qk) k 0 ≡ get_or qk k 0
    by_test false e plain set_first = plain
    by_test true e plain set_first = set_first ∙ get_or-set_other qk a k (slice_index pk a) 0 (apart e)

-- a field that is written has the other packet's value
put_same : (p : ℕ → Bool) (pk qk : List ℕ) (a n k : ℕ) → p k ≡ true → a ≤ k → k < a + n → k < length qk
    → get_or (put_all pk (filter p (range_with_len a n)) qk) k 0 ≡ get_or pk k 0
put_same p pk qk a zero k passes low high within = absurd (omega arith)
put_same p pk qk a (suc n) k passes low high within =
    elim (eqb_tells a k) [
      | inl here ↦ at_first here.1
      | inr there ↦ by_test (p a) (put_same p pk qk (a + 1) n k passes (omega (arith, there.1)) (omega arith) within)
          (put_same p pk (slice_set qk a (slice_index pk a)) (a + 1) n k passes (omega (arith, there.1)) (omega arith) (omega (arith, length-set qk a (slice_index pk a))))
    ]
  where
    by_test : (b : Bool)
        → get_or (put_all pk (filter p (range_with_len (a + 1) n)) qk) k 0 ≡ get_or pk k 0
        → get_or (put_all pk (filter p (range_with_len (a + 1) n)) (slice_set qk a (slice_index pk a))) k 0 ≡ get_or pk k 0
        → get_or (put_all pk (cond b (a ∷ filter p (range_with_len (a + 1) n)) (filter p (range_with_len (a + 1) n))) qk) k 0 ≡ get_or pk k 0
    by_test false plain set_first = plain
    by_test true plain set_first = set_first

    at_first : a ≡ k → get_or (put_all pk (cond (p a) (a ∷ filter p (range_with_len (a + 1) n)) (filter p (range_with_len (a + 1) n))) qk) k 0 ≡ get_or pk k 0
    at_first e =
        let here : p a ≡ true = ap p e ∙ passes in
        ap (λ b. get_or (put_all pk (cond b (a ∷ filter p (range_with_len (a + 1) n)) (filter p (range_with_len (a + 1) n))) qk) k 0) here
        ∙ put_other p pk (slice_set qk a (slice_index pk a)) (a + 1) n k (inr (inl (omega (arith, e))))
        ∙ ap (λ j. get_or (slice_set qk a (slice_index pk a)) j 0) (sym e)
        ∙ get_or-set_same qk a (slice_index pk a) 0 (omega (arith, e))
        ∙ ap (λ j. get_or pk j 0) e

-- the fields that pass a test have plain items, where each that passes has
each_plain : (g : ℕ → List ℕ) (p : ℕ → Bool) (a n : ℕ) → ((f : ℕ) → f < a + n → p f ≡ true → NoComma (g f)) → EachPlain g (filter p (range_with_len a n))
each_plain g p a zero h = tt
each_plain g p a (suc n) h =
    by_test (p a) (λ passes. h a (omega arith) passes) (each_plain g p (a + 1) n (λ f lt passes. h f (omega arith) passes))
  where
    by_test : (b : Bool) → (b ≡ true → NoComma (g a)) → EachPlain g (filter p (range_with_len (a + 1) n))
        → EachPlain g (cond b (a ∷ filter p (range_with_len (a + 1) n)) (filter p (range_with_len (a + 1) n)))
    by_test true first rest = (first refl, rest)
    by_test false first rest = rest

-- and values in range
each_fits : (t : FieldTable) (pk : List ℕ) (p : ℕ → Bool) (a n : ℕ)
    → ((f : ℕ) → f < a + n → (slice_index pk f ≤ slice_index t.maxima f) × (slice_index pk f < 2 ^ 64)) → EachFits t pk (filter p (range_with_len a n))
each_fits t pk p a zero h = tt
each_fits t pk p a (suc n) h = by_test (p a) (h a (omega arith)) (each_fits t pk p (a + 1) n (λ f lt. h f (omega arith)))
  where
    by_test : (b : Bool) → (slice_index pk a ≤ slice_index t.maxima a) × (slice_index pk a < 2 ^ 64) → EachFits t pk (filter p (range_with_len (a + 1) n))
        → EachFits t pk (cond b (a ∷ filter p (range_with_len (a + 1) n)) (filter p (range_with_len (a + 1) n)))
    by_test true first rest = (first, rest)
    by_test false first rest = rest

not_true : (b : Bool) → not b ≡ true → b ≡ false
not_true true h = absurd cc
not_true false h = refl

not_false : (b : Bool) → b ≡ true → not b ≡ false
not_false b h = ap not h

not_one : (b : Bool) → b ≡ false → not b ≡ true
not_one b h = ap not h

-- another field than the one that is set to 0
pub kept : (o : Option ℕ) (pk : List ℕ) (k : ℕ) → is_this o k ≡ false → get_or (without o pk) k 0 ≡ get_or pk k 0
kept None pk k h = refl
kept (Some f) pk k h = let other : k ≢ f = grind (arith, nat_tests) in get_or-set_other pk f k 0 0 other

-- that one
pub cleared : (o : Option ℕ) (pk : List ℕ) (k : ℕ) → is_this o k ≡ true → k < length pk → get_or (without o pk) k 0 ≡ 0
cleared None pk k h lt = absurd cc
cleared (Some f) pk k h lt =
    let same : k ≡ f = grind (arith, nat_tests) in
    ap (λ j. get_or (slice_set pk f 0) j 0) same ∙ get_or-set_same pk f 0 0 (omega (arith, same))

-- a value that was 0 is 0
still_zero : (o : Option ℕ) (pk : List ℕ) (k : ℕ) → k < length pk → get_or pk k 0 ≡ 0 → get_or (without o pk) k 0 ≡ 0
still_zero o pk k lt zero_there = by_test (is_this o k) refl
  where
    by_test : (b : Bool) → is_this o k ≡ b → get_or (without o pk) k 0 ≡ 0
    by_test true e = cleared o pk k e lt
    by_test false e = kept o pk k e ∙ zero_there

pub without_length : (o : Option ℕ) (pk : List ℕ) → length (without o pk) ≡ length pk
without_length None pk = refl
without_length (Some f) pk = length-set pk f 0

-- the packet that is read has each value but the tag's
value_read : (t : FieldTable) (pk : List ℕ) (k : ℕ) → IsPacket t pk → length t.maxima ≤ 18 → k < 18
    → get_or (put_all pk (shown t false) (replicate 18 0)) k 0 ≡ get_or (erased t pk) k 0
value_read t pk k is few lt =
    elim (leb_tells (suc k) (length t.maxima)) [
      | inl field ↦ by_test (is_tag t k) refl (omega (arith, field.1))
      | inr past ↦
          let above : slice_index t.maxima k ≡ 0 = get_or-eq_default t.maxima 0 (omega (arith, past.1)) in
          let none : get_or pk k 0 ≡ 0 = omega (arith, is.within k, above) in
          put_other (is_shown t false) pk (replicate 18 0) 0 (length t.maxima) k (inr (inr (omega (arith, past.1))))
          ∙ get_or-replicate 18 k 0 0 lt ∙ sym (still_zero t.tag pk k (omega (arith, is.places)) none)
    ]
  where
    by_test : (b : Bool) → is_tag t k ≡ b → k < length t.maxima
        → get_or (put_all pk (shown t false) (replicate 18 0)) k 0 ≡ get_or (erased t pk) k 0
    by_test false e field =
        put_same (is_shown t false) pk (replicate 18 0) 0 (length t.maxima) k (not_one (is_tag t k) e) (omega arith) (omega arith) lt
        ∙ sym (kept t.tag pk k e)
    by_test true e field =
        put_other (is_shown t false) pk (replicate 18 0) 0 (length t.maxima) k (inl (not_false (is_tag t k) e))
        ∙ get_or-replicate 18 k 0 0 lt ∙ sym (cleared t.tag pk k e (omega (arith, is.places)))

-- what is printed without the tag is read as the packet with tag 0
pub printed_is_read : ReadsPrinted
printed_is_read t pk is small plain packet =
    let bound : (f : ℕ) → f < length t.maxima → slice_index pk f < 2 ^ 64 = λ f lt. (let top = small f 0 lt in let le = packet.within f in omega (arith, top, le)) in
    let fits : EachFits t pk (shown t false) = each_fits t pk (is_shown t false) 0 (length t.maxima) (λ f lt. (packet.within f, bound f (omega arith))) in
    let commas : EachPlain (item_text t pk) (shown t false) =
    each_plain (item_text t pk) (is_shown t false) 0 (length t.maxima) (λ f lt passes.
    let field : f < length t.maxima = omega arith in
    item_plain t pk f (plain f field (not_true (is_tag t f) passes)) (bound f field)) in
    let first = filter (is_shown t false) (range_with_len 1 (length t.maxima - 1)) in
    let begins : shown t false ≡ 0 ∷ first = shown_first t false is in
    let pieces : slice_split (λ b. b == 44) (packet_bytes t false pk) ≡ map (item_text t pk) (shown t false) =
    subst (λ fs. slice_split (λ b. b == 44) (join_by (item_text t pk) (codes ",") fs) ≡ map (item_text t pk) fs) (sym begins)
    (split_joined (item_text t pk) 0 first (subst (EachPlain (item_text t pk)) begins commas)) in
    let same : put_all pk (shown t false) (replicate 18 0) ≡ erased t pk =
    same_number_lists (put_all pk (shown t false) (replicate 18 0)) (erased t pk)
    (put_length pk (shown t false) (replicate 18 0) ∙ sym packet.places ∙ sym (without_length t.tag pk))
    (λ k lt. value_read t pk k packet is.few (omega (arith, put_length pk (shown t false) (replicate 18 0)))) in
    ap (λ its. read_items t (shown t false) its 0 (replicate 18 0)) pieces
    ∙ read_printed t pk (shown t false) 0 (replicate 18 0) fits
    ∙ ap Ok same
