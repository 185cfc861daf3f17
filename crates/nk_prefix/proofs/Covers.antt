-- Which values are in the blocks of an interval, and in which.
use Rattle.std.proofs.Common.{◌≡◌, ℕ, zero, suc, ◌+◌, ◌-◌, ◌*◌, ◌/◌, ◌%◌, ◌^◌, ◌<◌, ◌≤◌, refl, ap, ◌∙◌, sym, subst, arith, inl, inr, ◌⊎◌, List, [], ◌∷◌}
use Rattle.std.specs.Prelude.{◌==◌, ◌&&◌, nat_lt, nat_le, Bool, true, false, cond, if◌then◌else◌, count_by, Contains}
use Rattle.std.proofs.lemmas.Nat.{pow_pos, mod-mul-add}
use Rattle.std.proofs.lemmas.List.Sums.{sum_by-cons}
use Rattle.std.proofs.lemmas.List.Elements.{All-nil, All-cons, All-contains, Contains-append_cases, Contains-append_right}
use Rattle.std.proofs.lemmas.Bool.Decides.{nat_tests, leb_tells, eqb_tells}
use Rattle.nk_prefix.specs.Prefix.{digits_of, agrees_to}
use Rattle.nk_prefix.specs.Blocks.{fits, largest_fit, end_of, blocks_from, blocks_of, is_in_block, BlocksAscend, IsBlockOf}
use Rattle.nk_prefix.proofs.Powers.{near, near_back, max_below}
use Rattle.nk_prefix.proofs.Fitting.{not_true, fits_says, fits_one, largest_fits, largest_is}
use Rattle.nk_prefix.proofs.Cuts.{step, first, first_free, cut_on, cut_stop, cut_past, cut_next, goes_on, IsPiece, pieces, ends}

-- a test of two numbers that holds
equal_if : (a b : ℕ) → (a == b) ≡ true → a ≡ b
equal_if a b h = elim (eqb_tells a b) [ inl same ↦ same.1 | inr other ↦ absurd (cc (other.0, h)) ]

test_if : (a b : ℕ) → a ≡ b → (a == b) ≡ true
test_if a b h = elim (eqb_tells a b) [ inl same ↦ same.0 | inr other ↦ absurd (other.1 h) ]

below_mod : (n d : ℕ) → n < d → n % d ≡ n
below_mod n d h = let same : n ≡ 0 * d + n = omega arith in ap (λ k. k % d) same ∙ mod-mul-add 0 d n h

-- the values that agree with an aligned prefix lie in its block
pub agree_near :
    (v len d x : ℕ) → v % 2 ^ (d - len) ≡ 0 → agrees_to v len d x ≡ true → (v ≤ x) × (x < v + 2 ^ (d - len))
agree_near v len d x a h = near (2 ^ (d - len)) v x (pow_pos (d - len)) a (equal_if (x / 2 ^ (d - len)) (v / 2 ^ (d - len)) h)

-- and all that lie there agree
pub near_agree :
    (v len d x : ℕ) → v % 2 ^ (d - len) ≡ 0 → v ≤ x → x < v + 2 ^ (d - len) → agrees_to v len d x ≡ true
near_agree v len d x a low high =
    test_if (x / 2 ^ (d - len)) (v / 2 ^ (d - len)) (near_back (2 ^ (d - len)) v x (pow_pos (d - len)) a low high)

both_are : (p q : Bool) → p ≡ true → q ≡ true → (p && q) ≡ true
both_are p q a b = rw (a, b)

-- agreeing with an aligned prefix is lying in its block
pub agree_is :
    (v len d x : ℕ) → v % 2 ^ (d - len) ≡ 0 → agrees_to v len d x ≡ (nat_le v x && nat_lt x (v + 2 ^ (d - len)))
agree_is v len d x a =
    elim (leb_tells v x) [
      | inr under ↦
          not_true (agrees_to v len d x) (λ h. let at = agree_near v len d x a h in absurd (omega (arith, at.0, under.1)))
          ∙ sym (ap (λ p. p && nat_lt x (v + 2 ^ (d - len))) under.0)
      | inl low ↦
          elim (leb_tells (suc x) (v + 2 ^ (d - len))) [
            | inl high ↦ near_agree v len d x a low.1 (omega (arith, high.1)) ∙ sym (both_are (nat_le v x) (nat_lt x (v + 2 ^ (d - len))) low.0 high.0)
            | inr over ↦
                not_true (agrees_to v len d x) (λ h. let at = agree_near v len d x a h in absurd (omega (arith, at.1, over.1)))
                ∙ sym (ap (λ p. nat_le v x && p) over.0 ∙ ap (λ p. p && false) low.0)
          ]
    ]

-- a prefix of all digits is the exact value
pub exact : (v d x : ℕ) → agrees_to v d d x ≡ (x == v)
exact v d x =
    let zero_free : d - d ≡ 0 = omega arith in
    let whole : (y : ℕ) → y / 1 ≡ y = λ y. omega arith in
    ap (λ k. x / 2 ^ k == v / 2 ^ k) zero_free ∙ ap (λ y. y == v / 1) (whole x) ∙ ap (λ y. x == y) (whole v)

-- the first block is aligned
pub first_aligned : (d e v : ℕ) → v ≤ e → v % 2 ^ (d - (d - largest_fit v e d)) ≡ 0
first_aligned d e v h = subst (λ s. v % s ≡ 0) (sym (first_free d e v)) (fits_says v e (largest_fit v e d) (largest_fits v e d h)).0

-- what agrees with the first block
pub first_near : (d e v x : ℕ) → v ≤ e → agrees_to v (d - largest_fit v e d) d x ≡ true → (v ≤ x) × (x < v + step d e v)
first_near d e v x h a =
    let at = agree_near v (d - largest_fit v e d) d x (first_aligned d e v h) a in
    (at.0, subst (λ s. x < v + s) (first_free d e v) at.1)

pub near_first : (d e v x : ℕ) → v ≤ e → v ≤ x → x < v + step d e v → agrees_to v (d - largest_fit v e d) d x ≡ true
near_first d e v x h low high =
    near_agree v (d - largest_fit v e d) d x (first_aligned d e v h) low (subst (λ s. x < v + s) (sym (first_free d e v)) high)

-- each block begins after the one before
pub ascends : (e max n v : ℕ) → BlocksAscend max v (blocks_from (digits_of max) e max n v)
ascends e max zero v = tt
ascends e max (suc n) v =
    elim (goes_on e max v) [
      | inl on ↦
          subst (BlocksAscend max v) (sym (cut_on (digits_of max) e max n v on.0 on.1))
          (refl, subst (λ s. BlocksAscend max (v + s) (blocks_from (digits_of max) e max n (v + step (digits_of max) e v))) (sym (first_free (digits_of max) e v)) (ascends e max n (v + step (digits_of max) e v)))
      | inr stop ↦ subst (BlocksAscend max v) (sym (cut_stop (digits_of max) e max (suc n) v stop)) tt
    ]

-- an element at the head, or after it
pub there_first : (b : ℕ × ℕ) (bs : List (ℕ × ℕ)) → Contains (b ∷ bs) b
there_first b bs = (0, omega arith, refl)

pub there_later : (c b : ℕ × ℕ) (bs : List (ℕ × ℕ)) → Contains bs b → Contains (c ∷ bs) b
there_later c b bs h = Contains-append_right (c ∷ []) bs b h

pub there_cases : (c b : ℕ × ℕ) (bs : List (ℕ × ℕ)) → Contains (c ∷ bs) b → (c ≡ b) ⊎ Contains bs b
there_cases c b bs h =
    elim (Contains-append_cases (c ∷ []) bs b h) [
      | inl one ↦ inl (All-contains (λ z. c ≡ z) (c ∷ []) b (All-cons (λ z. c ≡ z) c [] refl (All-nil (λ z. c ≡ z))) one)
      | inr more ↦ inr more
    ]

-- a value up to the end and the largest value is in a block
pub found :
    (d e m n v x : ℕ) → v ≤ x → x ≤ e → x ≤ m → e + 1 ≤ v + n
    → (b : ℕ × ℕ) × Contains (blocks_from d e m n v) b × (agrees_to b.0 b.1 d x ≡ true)
found d e m zero v x low high most room = absurd (omega (arith, low, high, room))
found d e m (suc n) v x low high most room =
    let a : v ≤ e = omega (arith, low, high) in
    let on = cut_on d e m n v a (omega (arith, low, most)) in
    elim (leb_tells (v + step d e v) x) [
      | inl later ↦
          let (b, there, agrees) = found d e m n (v + step d e v) x later.1 high most (omega (arith, room, pow_pos (largest_fit v e d))) in
          (b, subst (λ bs. Contains bs b) (sym on) (there_later (first d e v) b (blocks_from d e m n (v + step d e v)) there), agrees)
      | inr here ↦
          (first d e v, subst (λ bs. Contains bs (first d e v)) (sym on) (there_first (first d e v) (blocks_from d e m n (v + step d e v))), near_first d e v x a low here.1)
    ]

-- a block of a cut from v on, as a piece
pub piece_of : (d e m n v : ℕ) (b : ℕ × ℕ) → Contains (blocks_from d e m n v) b → IsPiece d e m v b
piece_of d e m n v b h = All-contains (IsPiece d e m v) (blocks_from d e m n v) b (pieces d e m n v v (omega arith)) h

-- no value is in the first block and in a later one
first_alone :
    (d e m n v x : ℕ) (b : ℕ × ℕ) → v ≤ e → Contains (blocks_from d e m n (v + step d e v)) b
    → agrees_to v (d - largest_fit v e d) d x ≡ true → agrees_to b.0 b.1 d x ≡ true → ⊥
first_alone d e m n v x b a there here later =
    let p = piece_of d e m n (v + step d e v) b there in
    let low = agree_near b.0 b.1 d x p.aligned later in
    let high = first_near d e v x a here in
    absurd (omega (arith, p.low, low.0, high.1))

-- two blocks of an interval that have a value in common are one
pub alone :
    (d e m n v x : ℕ) (b c : ℕ × ℕ) → Contains (blocks_from d e m n v) b → Contains (blocks_from d e m n v) c
    → agrees_to b.0 b.1 d x ≡ true → agrees_to c.0 c.1 d x ≡ true → b ≡ c
alone d e m zero v x b c inb inc p q = absurd (All-contains (λ z. ⊥) [] b (All-nil (λ z. ⊥)) inb)
alone d e m (suc n) v x b c inb inc p q =
    elim (goes_on e m v) [
      | inr stop ↦ absurd (All-contains (λ z. ⊥) [] b (All-nil (λ z. ⊥)) (subst (λ bs. Contains bs b) (cut_stop d e m (suc n) v stop) inb))
      | inl on ↦
          let eq = cut_on d e m n v on.0 on.1 in
          let rest : List (ℕ × ℕ) = blocks_from d e m n (v + step d e v) in
          let one = there_cases (first d e v) b rest (subst (λ bs. Contains bs b) eq inb) in
          let two = there_cases (first d e v) c rest (subst (λ bs. Contains bs c) eq inc) in
          elim one [
            | inl here ↦
                elim two [
                  | inl there ↦ sym here ∙ there
                  | inr later ↦ absurd (first_alone d e m n v x c on.0 later (subst (λ z. agrees_to z.0 z.1 d x ≡ true) (sym here) p) q)
                ]
            | inr late ↦
                elim two [
                  | inl there ↦ absurd (first_alone d e m n v x b on.0 late (subst (λ z. agrees_to z.0 z.1 d x ≡ true) (sym there) q) p)
                  | inr later ↦ alone d e m n (v + step d e v) x b c late later p q
                ]
          ]
    ]

-- up to the largest value, an interval's end and where it counts as ending are the same
pub end_same : (lo hi max x : ℕ) → hi ≤ max → x ≤ max → x ≤ end_of lo hi max → x ≤ hi
end_same lo hi max x h m e =
    elim (ends lo hi max h) [ inl is ↦ omega (arith, is, e) | inr past ↦ omega (arith, past.0, m) ]

pub end_past : (lo hi max : ℕ) → hi ≤ max → hi ≤ end_of lo hi max
end_past lo hi max h =
    elim (ends lo hi max h) [ inl is ↦ omega (arith, is) | inr past ↦ omega (arith, past.0, past.2, max_below max) ]

-- a block without a shared digit begins at 0 and has all values
no_digit :
    (lo hi max : ℕ) (b : ℕ × ℕ) → hi ≤ max → IsPiece (digits_of max) (end_of lo hi max) max lo b → b.1 ≡ 0
    → (lo ≡ 0) × (hi ≡ max)
no_digit lo hi max b h p z =
    let all : 2 ^ (digits_of max - b.1) ≡ 2 ^ digits_of max = (let none : digits_of max - b.1 ≡ digits_of max = omega (arith, z) in ap (λ k. 2 ^ k) none) in
    let under : b.0 < 2 ^ digits_of max = omega (arith, p.before_max, max_below max) in
    let start : b.0 % 2 ^ digits_of max ≡ 0 = subst (λ s. b.0 % s ≡ 0) all p.aligned in
    let begins : b.0 ≡ 0 = sym (below_mod b.0 (2 ^ digits_of max) under) ∙ start in (
      omega (arith, begins, p.low),
      elim (ends lo hi max h) [
        | inl is ↦ omega (arith, is, p.inside, all, max_below max, h)
        | inr past ↦ past.0
      ],
    )

some_shared :
    (lo hi max : ℕ) (b : ℕ × ℕ) → hi ≤ max → IsPiece (digits_of max) (end_of lo hi max) max lo b
    → ((lo ≡ 0) × (hi ≡ max) → ⊥) → 1 ≤ b.1
some_shared lo hi max b h p n =
    elim (leb_tells 1 b.1) [
      | inl some ↦ some.1
      | inr none ↦ absurd (n (no_digit lo hi max b h p (omega (arith, none.1))))
    ]

-- what a piece of an interval's cut is
pub block_from_piece :
    (lo hi max : ℕ) (b : ℕ × ℕ) → hi ≤ max → IsPiece (digits_of max) (end_of lo hi max) max lo b → IsBlockOf lo hi max b
block_from_piece lo hi max b h p = record {
  low = p.low;
  high = end_same lo hi max b.0 h p.before_max p.before_end;
  aligned = p.aligned;
  most = p.shared;
  least = λ n. some_shared lo hi max b h p (λ all. n all.0);
  whole = λ n. some_shared lo hi max b h p (λ all. n all.1);
}

-- a value in range that is in a block of an interval is in the interval
pub in_interval :
    (lo hi max x : ℕ) (b : ℕ × ℕ) → hi ≤ max → x ≤ max → Contains (blocks_of lo hi max) b → is_in_block max x b ≡ true
    → (lo ≤ x) × (x ≤ hi)
in_interval lo hi max x b h m there agrees =
    let p = piece_of (digits_of max) (end_of lo hi max) max (end_of lo hi max + 1) lo b there in
    let at = agree_near b.0 b.1 (digits_of max) x p.aligned agrees in
    (omega (arith, p.low, at.0), end_same lo hi max x h m (omega (arith, p.inside, at.1)))

-- a value of an interval is in a block of it
pub has_block :
    (lo hi max x : ℕ) → hi ≤ max → lo ≤ x → x ≤ hi
    → (b : ℕ × ℕ) × Contains (blocks_of lo hi max) b × (is_in_block max x b ≡ true)
has_block lo hi max x h low high =
    found (digits_of max) (end_of lo hi max) max (end_of lo hi max + 1) lo x low (omega (arith, high, end_past lo hi max h)) (omega (arith, h, high)) (omega arith)

-- what each block of an interval is
pub blocks_are :
    (lo hi max : ℕ) (b : ℕ × ℕ) → hi ≤ max → Contains (blocks_of lo hi max) b → IsBlockOf lo hi max b
blocks_are lo hi max b h there =
    block_from_piece lo hi max b h (piece_of (digits_of max) (end_of lo hi max) max (end_of lo hi max + 1) lo b there)

abbrev one_if : Bool → ℕ
one_if b = cond b 1 0

-- none lies where there is none
past_end : (v e x : ℕ) → e < v → one_if (nat_le v x && nat_le x e) ≡ 0
past_end v e x h = grind (arith, nat_tests, h)

before_first : (v e x : ℕ) → x < v → one_if (nat_le v x && nat_le x e) ≡ 0
before_first v e x h = grind (arith, nat_tests, h)

lies_here : (v e x : ℕ) → v ≤ x → x ≤ e → one_if (nat_le v x && nat_le x e) ≡ 1
lies_here v e x low high = grind (arith, nat_tests, low, high)

lies_later : (v w e x : ℕ) → v ≤ x → w ≤ x → one_if (nat_le v x && nat_le x e) ≡ one_if (nat_le w x && nat_le x e)
lies_later v w e x a b = grind (arith, nat_tests, a, b)

le_if : (a b : ℕ) → nat_le a b ≡ true → a ≤ b
le_if a b h = elim (leb_tells a b) [ inl le ↦ le.1 | inr gt ↦ absurd (cc (gt.0, h)) ]

-- a block of two values doesn't end where it begins
too_large : (v : ℕ) → fits v v 1 ≡ false
too_large v = not_true (fits v v 1) (λ h. let says = fits_says v v 1 h in absurd (omega (arith, says.1)))

-- how many of the blocks from v on a value is in
pub counted_in :
    (d e m n v x : ℕ) → x ≤ m → e + 1 ≤ v + n
    → count_by (λ b. agrees_to b.0 b.1 d x) (blocks_from d e m n v) ≡ one_if (nat_le v x && nat_le x e)
counted_in d e m zero v x most room = sym (past_end v e x (omega (arith, room)))
counted_in d e m (suc n) v x most room =
    let test : ℕ × ℕ → Bool = λ b. agrees_to b.0 b.1 d x in
    elim (goes_on e m v) [
      | inr stop ↦
          ap (count_by test) (cut_stop d e m (suc n) v stop)
          ∙ elim stop [
            | inl past ↦ sym (past_end v e x past)
            | inr over ↦ sym (before_first v e x (omega (arith, over, most)))
          ]
      | inl on ↦
          let size = pow_pos (largest_fit v e d) in
          let inside = (fits_says v e (largest_fit v e d) (largest_fits v e d on.0)).1 in
          let rest = counted_in d e m n (v + step d e v) x most (omega (arith, room, size)) in
          ap (count_by test) (cut_on d e m n v on.0 on.1)
          ∙ sum_by-cons (λ b. one_if (test b)) (first d e v) (blocks_from d e m n (v + step d e v))
          ∙ elim (leb_tells v x) [
            | inr under ↦
                let not : test (first d e v) ≡ false = not_true (test (first d e v)) (λ h. let at = first_near d e v x on.0 h in absurd (omega (arith, at.0, under.1))) in
                let one : one_if (test (first d e v)) ≡ 0 = ap one_if not in
                omega (arith, one, rest, before_first v e x under.1, before_first (v + step d e v) e x (omega (arith, under.1)))
            | inl low ↦
                elim (leb_tells (v + step d e v) x) [
                  | inl later ↦
                      let not : test (first d e v) ≡ false = not_true (test (first d e v)) (λ h. let at = first_near d e v x on.0 h in absurd (omega (arith, at.1, later.1))) in
                      let one : one_if (test (first d e v)) ≡ 0 = ap one_if not in
                      omega (arith, one, rest, lies_later v (v + step d e v) e x low.1 later.1)
                  | inr here ↦
                      let one : one_if (test (first d e v)) ≡ 1 = ap one_if (near_first d e v x on.0 low.1 here.1) in
                      omega (arith, one, rest, before_first (v + step d e v) e x here.1, lies_here v e x low.1 (omega (arith, here.1, inside)))
                ]
          ]
    ]

-- up to the largest value, lying up to an interval's end is lying up to where it counts as ending
same_end :
    (lo hi max x : ℕ) → hi ≤ max → x ≤ max → nat_le x (end_of lo hi max) ≡ nat_le x hi
same_end lo hi max x h m =
    let e = end_of lo hi max in
    elim (leb_tells x hi) [
      | inl low ↦ grind (arith, nat_tests, low.1, end_past lo hi max h)
      | inr over ↦ not_true (nat_le x e) (λ t. let le = le_if x e t in absurd (omega (arith, over.1, end_same lo hi max x h m le))) ∙ sym over.0
    ]

-- a value in range is in one block of an interval that holds it, and else in none
pub counted_once :
    (lo hi max x : ℕ) → hi ≤ max → x ≤ max
    → count_by (is_in_block max x) (blocks_of lo hi max) ≡ (if nat_le lo x && nat_le x hi then 1 else 0)
counted_once lo hi max x h m =
    counted_in (digits_of max) (end_of lo hi max) max (end_of lo hi max + 1) lo x m (omega arith)
    ∙ ap (λ t. one_if (nat_le lo x && t)) (same_end lo hi max x h m)

-- blocks of two intervals, one after the other, have no value in range in common
pub apart :
    (lo hi lo' hi' max x : ℕ) (b c : ℕ × ℕ) → hi < lo' → hi' ≤ max → x ≤ max → hi ≤ max
    → Contains (blocks_of lo hi max) b → Contains (blocks_of lo' hi' max) c
    → is_in_block max x b ≡ true → is_in_block max x c ≡ true → ⊥
apart lo hi lo' hi' max x b c following h' m h inb inc p q =
    let one = in_interval lo hi max x b h m inb p in
    let two = in_interval lo' hi' max x c h' m inc q in
    absurd (omega (arith, one.1, two.0, following))

-- a single value is one block, of all digits
pub single : (v max : ℕ) → v ≤ max → blocks_of v v max ≡ (v, digits_of max) ∷ []
single v max h =
    let d = digits_of max in
    let is : end_of v v max ≡ v = elim (ends v v max h) [ inl same ↦ same | inr past ↦ absurd (omega (arith, past.1)) ] in
    let none : largest_fit v v d ≡ 0 = largest_is v v d 0 (omega arith) (omega arith) (fits_one v v (omega arith)) (λ l. too_large v) in
    let all : first d v v ≡ (v, d) = (let free : d - largest_fit v v d ≡ d = omega (arith, none) in ap (λ k. (v, k)) free) in
    ap (λ e. blocks_from d e max (e + 1) v) is
    ∙ cut_next d v max v (omega arith) h
    ∙ ap (λ bs. first d v v ∷ bs) (cut_past d v max (v + 1) (v + step d v v) (omega (arith, pow_pos (largest_fit v v d))))
    ∙ ap (λ b. b ∷ []) all
