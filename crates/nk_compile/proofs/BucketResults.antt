-- A bucket of the printed table sends its result's packet with the result's tag.
use Rattle.std.proofs.Common.{◌≡◌, ◌≢◌, ℕ, zero, suc, ◌+◌, ◌<◌, ◌≤◌, Bool, true, false, ◌⊎◌, inl, inr, ⊎_elim, Some, None, List, [], ◌∷◌, length, refl, sym, ap, subst, ◌∙◌, arith, get_or-set_other, get_or-set_same, length-set, ext_get_or}
use Rattle.std.specs.Prelude.{◌==◌, ◌&&◌, not, nat_lt, if◌then◌else◌, map, filter, slice_index, slice_set}
use Rattle.std.proofs.lemmas.Bool.{cases_lt}
use Rattle.nk_field.specs.declared.packet.Packet.{Packet}
use Rattle.nk_field.specs.Act.{applied}
use Rattle.nk_field.specs.Packet.{FieldTable, IsPacket}
use Rattle.nk_field.proofs.Lists.{In, in_mapped, from_mapped, numbers_decided}
use Rattle.nk_store.specs.Intervals.{counted}
use Rattle.nk_table.specs.declared.Exit.TheVariants.{Back, Port}
use Rattle.nk_table.specs.Rules.{sent, sent_by}
use Rattle.nk_extract.specs.RuleTree.{put}
use Rattle.nk_extract.specs.Buckets.{changes, bucket_of}

-- a number passes the test with itself
pub same_number : (m n : ℕ) → m ≡ n → m == n ≡ true
same_number m n h = grind (arith, h)

-- other numbers fail the test
pub other_number : (m n : ℕ) → m ≢ n → m == n ≡ false
other_number m n h = grind (arith, h)

-- a number below another
less_true : (m n : ℕ) → m < n → nat_lt m n ≡ true
less_true m n h = grind (arith, h)

-- an assignment put in among others
pub in_put : (a : ℕ × ℕ) (xs : List (ℕ × ℕ)) → In (put a xs) a
in_put a [] = inl refl
in_put a (b ∷ bs) = by (nat_lt a.0 b.0) (in_put a bs)
  where
    by : (c : Bool) → In (put a bs) a → In (if c then a ∷ b ∷ bs else b ∷ put a bs) a
    by true h = inl refl
    by false h = inr h

-- the others stay
pub put_keeps : (a : ℕ × ℕ) (xs : List (ℕ × ℕ)) (x : ℕ × ℕ) → In xs x → In (put a xs) x
put_keeps a [] x h = absurd h
put_keeps a (b ∷ bs) x h = by (nat_lt a.0 b.0) (⊎_elim (λ e. inl e) (λ r. inr (put_keeps a bs x r)) h)
  where
    by : (c : Bool) → In (b ∷ put a bs) x → In (if c then a ∷ b ∷ bs else b ∷ put a bs) x
    by true k = inr h
    by false k = k

-- and nothing else comes
pub from_put : (a : ℕ × ℕ) (xs : List (ℕ × ℕ)) (x : ℕ × ℕ) → In (put a xs) x → (x ≡ a) ⊎ In xs x
from_put a [] x h = ⊎_elim (λ e. inl e) (λ r. absurd r) h
from_put a (b ∷ bs) x h = by (nat_lt a.0 b.0) (λ r. from_put a bs x r) h
  where
    by :
        (c : Bool) → (In (put a bs) x → (x ≡ a) ⊎ In bs x) → In (if c then a ∷ b ∷ bs else b ∷ put a bs) x
        → (x ≡ a) ⊎ In (b ∷ bs) x
    by true f k = k
    by false f k = ⊎_elim (λ e. inr (inl e)) (λ r. ⊎_elim (λ e. inl e) (λ i. inr (inr i)) (f r)) k

-- what passes is kept
pub in_filter : {X : Type 0} (test : X → Bool) (xs : List X) (x : X) → In xs x → test x ≡ true → In (filter test xs) x
in_filter test [] x h e = absurd h
in_filter test (y ∷ ys) x h e =
    ⊎_elim
    (λ s. subst (λ b. In (if b then y ∷ filter test ys else filter test ys) x) (sym (ap test (sym s) ∙ e)) (inl s))
    (λ s. by (test y) (in_filter test ys x s e))
    h
  where
    by : (b : Bool) → In (filter test ys) x → In (if b then y ∷ filter test ys else filter test ys) x
    by true i = inr i
    by false i = i

-- what is kept passes
pub from_filter :
    {X : Type 0} (test : X → Bool) (xs : List X) (x : X) → In (filter test xs) x → In xs x × (test x ≡ true)
from_filter test [] x h = absurd h
from_filter test (y ∷ ys) x h = by (test y) refl (λ r. from_filter test ys x r) h
  where
    by :
        (b : Bool) → test y ≡ b → (In (filter test ys) x → In ys x × (test x ≡ true))
        → In (if b then y ∷ filter test ys else filter test ys) x → In (y ∷ ys) x × (test x ≡ true)
    by true e f k = ⊎_elim (λ s. (inl s, ap test s ∙ e)) (λ s. let r = f s in (inr r.0, r.1)) k
    by false e f k = let r = f k in (inr r.0, r.1)

-- a number in the range is counted
pub in_counted : (from n i : ℕ) → from ≤ i → i < from + n → In (counted from n) i
in_counted from zero i le lt = absurd (omega (arith, le, lt))
in_counted from (suc n) i le lt =
    ⊎_elim
    (λ e. inl (sym e))
    (λ ne.
    let le' : from + 1 ≤ i = omega (arith, le, ne) in
    let lt' : i < (from + 1) + n = omega (arith, lt) in
    inr (in_counted (from + 1) n i le' lt'))
    (numbers_decided from i)

-- assignments of values of y make a place y's where they set it or it is so already
applied_at :
    (sets : List (ℕ × ℕ)) (y c : List ℕ)
    → ((a : ℕ × ℕ) → In sets a → (a.1 ≡ slice_index y a.0) × (a.0 < length c)) → (i : ℕ)
    → In (map (λ (a : ℕ × ℕ). a.0) sets) i ⊎ (slice_index c i ≡ slice_index y i)
    → slice_index (applied sets c) i ≡ slice_index y i
applied_at [] y c h i k = ⊎_elim (λ r. absurd r) (λ r. r) k
applied_at (a ∷ rest) y c h i k =
    applied_at rest y (slice_set c a.0 a.1)
    (λ b m. let s = h b (inr m) in (s.0, subst (λ n. b.0 < n) (sym (length-set c a.0 a.1)) s.1))
    i
    (⊎_elim
    (λ e. inr (ap (λ j. slice_index (slice_set c a.0 a.1) j) e ∙ get_or-set_same c a.0 a.1 0 (h a (inl refl)).1 ∙ (h a (inl refl)).0 ∙ ap (λ j. slice_index y j) (sym e)))
    (λ ne.
    ⊎_elim
    (λ r. ⊎_elim (λ e. absurd (ne e)) (λ m. inl m) r)
    (λ r. inr (get_or-set_other c a.0 i a.1 0 ne ∙ r))
    k)
    (numbers_decided i a.0))

-- assignments keep the length
applied_length : (sets : List (ℕ × ℕ)) (c : List ℕ) → length (applied sets c) ≡ length c
applied_length [] c = refl
applied_length (a ∷ rest) c = applied_length rest (slice_set c a.0 a.1) ∙ length-set c a.0 a.1

module _ (fields : FieldTable) (tag : ℕ) (past : 2 ≤ tag) (within : tag < length fields.maxima) (few : length fields.maxima ≤ 18) where
  -- how many fields
  abbrev width : ℕ
  width = length fields.maxima

  module _ (x z : Packet) (tg t' : ℕ) (px : IsPacket fields x) (pz : IsPacket fields z) (stays : slice_index z 0 ≡ slice_index x 0) where
    -- a field that differs is assigned
    in_changes :
        (i : ℕ) → 1 < i → i < width → i ≢ tag → slice_index x i ≢ slice_index z i
        → In (map (λ (a : ℕ × ℕ). a.0) (changes width tag x z)) i
    in_changes i lt less ne differ =
        let le : 0 ≤ i = omega arith in
        let less' : i < 0 + width = omega (arith, less) in
        let test : (nat_lt 1 i && not (i == tag)) && not (slice_index x i == slice_index z i) ≡ true = passes (nat_lt 1 i) (i == tag) (slice_index x i == slice_index z i) (less_true 1 i lt) (other_number i tag ne) (other_number (slice_index x i) (slice_index z i) differ) in
        in_mapped (λ (a : ℕ × ℕ). a.0) (changes width tag x z) (i, slice_index z i)
        (in_mapped (λ f. (f, slice_index z f)) (filter (λ f. nat_lt 1 f && not (f == tag) && not (slice_index x f == slice_index z f)) (counted 0 width)) i
        (in_filter (λ f. nat_lt 1 f && not (f == tag) && not (slice_index x f == slice_index z f)) (counted 0 width) i (in_counted 0 width i le less') test))
      where
        passes : (a b c : Bool) → a ≡ true → b ≡ false → c ≡ false → (a && not b) && not c ≡ true
        passes true false false e f g = refl
        passes a b c e f g = cc

    -- each assignment is of the goal's value
    each_set :
        (a : ℕ × ℕ) → In (put (tag, t') (changes width tag x z)) a
        → (a.1 ≡ slice_index (slice_set z tag t') a.0) × (a.0 < length (slice_set x tag tg))
    each_set a h =
        ⊎_elim
        (λ e.
        let long : tag < length z = omega (arith, pz.places, within, few) in
        let long' : tag < length (slice_set x tag tg) = omega (arith, px.places, length-set x tag tg, within, few) in (
          ap (λ (b : ℕ × ℕ). b.1) e ∙ sym (get_or-set_same z tag t' 0 long) ∙ ap (λ j. slice_index (slice_set z tag t') j) (sym (ap (λ (b : ℕ × ℕ). b.0) e)),
          subst (λ j. j < length (slice_set x tag tg)) (sym (ap (λ (b : ℕ × ℕ). b.0) e)) long',
        ))
        (λ m.
        let s = from_mapped (λ f. (f, slice_index z f)) (filter (λ f. nat_lt 1 f && not (f == tag) && not (slice_index x f == slice_index z f)) (counted 0 width)) a m in
        let f = from_filter (λ f. nat_lt 1 f && not (f == tag) && not (slice_index x f == slice_index z f)) (counted 0 width) s.0 s.1 in
        let ne : s.0 ≢ tag = λ e. not_tag s.0 f.1 e in
        let small : s.0 < width = omega (arith, counted_below 0 width s.0 f.0) in
        let long : s.0 < length (slice_set x tag tg) = omega (arith, px.places, length-set x tag tg, small, few) in (
          ap (λ (b : ℕ × ℕ). b.1) s.2 ∙ sym (get_or-set_other z tag s.0 t' 0 ne) ∙ ap (λ j. slice_index (slice_set z tag t') j) (sym (ap (λ (b : ℕ × ℕ). b.0) s.2)),
          subst (λ j. j < length (slice_set x tag tg)) (sym (ap (λ (b : ℕ × ℕ). b.0) s.2)) long,
        ))
        (from_put (tag, t') (changes width tag x z) a h)
      where
        fails : (a b c : Bool) → b ≡ true → (a && not b) && not c ≡ true → ⊥
        fails true true c e f = cc
        fails false true c e f = cc
        fails a false c e f = cc

        not_tag :
            (f : ℕ) → (nat_lt 1 f && not (f == tag)) && not (slice_index x f == slice_index z f) ≡ true
            → f ≡ tag → ⊥
        not_tag f h e = fails (nat_lt 1 f) (f == tag) (slice_index x f == slice_index z f) (same_number f tag e) h

        counted_below : (from n i : ℕ) → In (counted from n) i → i < from + n
        counted_below from zero i h = absurd h
        counted_below from (suc n) i h =
            ⊎_elim
            (λ e. omega (arith, e))
            (λ r. let b = counted_below (from + 1) n i r in omega (arith, b))
            h

    -- where the port is not to be changed, the assignments make the packet
    made_at :
        (i : ℕ) → (i ≡ 1 → slice_index x 1 ≡ slice_index z 1)
        → slice_index (applied (put (tag, t') (changes width tag x z)) (slice_set x tag tg)) i ≡ slice_index (slice_set z tag t') i
    made_at i port =
        applied_at (put (tag, t') (changes width tag x z)) (slice_set z tag t') (slice_set x tag tg) each_set i
        (⊎_elim
        (λ e. inl (subst (λ j. In (map (λ (a : ℕ × ℕ). a.0) (put (tag, t') (changes width tag x z))) j) (sym e) (in_mapped (λ (a : ℕ × ℕ). a.0) (put (tag, t') (changes width tag x z)) (tag, t') (in_put (tag, t') (changes width tag x z)))))
        (λ ne.
        let rest = get_or-set_other x tag i tg 0 ne in
        let rest' = get_or-set_other z tag i t' 0 ne in
        ⊎_elim
        (λ same. inr (rest ∙ same ∙ sym rest'))
        (λ differ.
        ⊎_elim
        (λ less.
        ⊎_elim
        (λ small. absurd (differ (low i small port)))
        (λ big.
        let lt : 1 < i = omega (arith, big) in
        let m = from_mapped (λ (a : ℕ × ℕ). a.0) (changes width tag x z) i (in_changes i lt less ne differ) in
        inl (subst (λ j. In (map (λ (a : ℕ × ℕ). a.0) (put (tag, t') (changes width tag x z))) j) (sym m.2) (in_mapped (λ (a : ℕ × ℕ). a.0) (put (tag, t') (changes width tag x z)) m.0 (put_keeps (tag, t') (changes width tag x z) m.0 m.1))))
        (cases_lt i 2))
        (λ far. absurd (differ (beyond i far)))
        (cases_lt i width))
        (numbers_decided (slice_index x i) (slice_index z i)))
        (numbers_decided i tag))
      where
        low : (i : ℕ) → i < 2 → (i ≡ 1 → slice_index x 1 ≡ slice_index z 1) → slice_index x i ≡ slice_index z i
        low zero lt h = sym stays
        low (suc zero) lt h = h refl
        low (suc (suc i)) lt h = absurd (omega (arith, lt))

        none_past : (ms : List ℕ) (i : ℕ) → length ms ≤ i → slice_index ms i ≡ 0
        none_past [] i le = refl
        none_past (m ∷ ms) zero le = absurd (omega (arith, le))
        none_past (m ∷ ms) (suc i) le = let le' : length ms ≤ i = omega (arith, le) in none_past ms i le'

        beyond : (i : ℕ) → width ≤ i → slice_index x i ≡ slice_index z i
        beyond i le =
            let none = none_past fields.maxima i le in
            let a = px.within i in
            let b = pz.within i in
            omega (arith, none, a, b)

    -- the bucket's packet, before and after its exit
    same_ends :
        (q : List ℕ) → length q ≡ length z → ((i : ℕ) → slice_index q i ≡ slice_index (slice_set z tag t') i)
        → q ≡ slice_set z tag t'
    same_ends q long h = ext_get_or 0 q (slice_set z tag t') (long ∙ sym (length-set z tag t')) (λ i lt. h i)

    -- the packet made is as long
    exit_length : length (applied (put (tag, t') (changes width tag x z)) (slice_set x tag tg)) ≡ length z
    exit_length =
        applied_length (put (tag, t') (changes width tag x z)) (slice_set x tag tg)
        ∙ length-set x tag tg
        ∙ px.places
        ∙ sym pz.places

    -- a bucket sends its result's packet with the result's tag
    pub sends : sent_by (slice_set x tag tg) (bucket_of width tag x z t') ≡ Some (slice_set z tag t')
    sends =
        ⊎_elim
        (λ same.
        ap (λ b. sent (slice_set x tag tg) (if b then Back else Port (slice_index z 1)) made) (same_number (slice_index x 1) (slice_index z 1) same)
        ∙ ap Some (same_ends made exit_length (λ i. made_at i (λ e. same))))
        (λ differ.
        let kept : slice_index (slice_set x tag tg) 1 ≡ slice_index x 1 = get_or-set_other x tag 1 tg 0 not_tag in
        let other : slice_index z 1 ≢ slice_index (slice_set x tag tg) 1 = λ e. differ (sym (e ∙ kept)) in
        ap (λ b. sent (slice_set x tag tg) (if b then Back else Port (slice_index z 1)) made) (other_number (slice_index x 1) (slice_index z 1) differ)
        ∙ ap (λ b. if b then None else Some (slice_set made 1 (slice_index z 1))) (other_number (slice_index z 1) (slice_index (slice_set x tag tg) 1) other)
        ∙ ap Some (same_ends (slice_set made 1 (slice_index z 1)) (length-set made 1 (slice_index z 1) ∙ exit_length) by))
        (numbers_decided (slice_index x 1) (slice_index z 1))
      where
        made : List ℕ
        made = applied (put (tag, t') (changes width tag x z)) (slice_set x tag tg)

        not_tag : ◌≢◌ {A = ℕ} 1 tag
        not_tag = λ e. omega (arith, past, e)

        by : (i : ℕ) → slice_index (slice_set made 1 (slice_index z 1)) i ≡ slice_index (slice_set z tag t') i
        by i =
            ⊎_elim
            (λ e.
            let long : 1 < length made = omega (arith, exit_length, pz.places) in
            ap (λ j. slice_index (slice_set made 1 (slice_index z 1)) j) e
            ∙ get_or-set_same made 1 (slice_index z 1) 0 long
            ∙ sym (get_or-set_other z tag 1 t' 0 not_tag)
            ∙ ap (λ j. slice_index (slice_set z tag t') j) (sym e))
            (λ ne. get_or-set_other made 1 i (slice_index z 1) 0 ne ∙ made_at i (λ e. absurd (ne e)))
            (numbers_decided i 1)
