-- A field's bit is above all the bits of the fields after it together.
use Rattle.std.proofs.Common.{◌≡◌, ◌≢◌, ℕ, zero, suc, ◌+◌, ◌-◌, ◌*◌, ◌^◌, ◌<◌, ◌≤◌, Bool, true, false, cond, inl, inr, List, [], ◌∷◌, length, replicate, refl, sym, ap, ◌∙◌, arith, get_or-set_other}
use Rattle.std.specs.Prelude.{◌==◌, ◌&&◌, not, nat_lt, count_by, slice_index, slice_set}
use Rattle.std.proofs.lemmas.Grind.{get_or-set_at}
use Rattle.std.proofs.lemmas.List.{get_or-replicate, length-set}
use Rattle.std.proofs.lemmas.List.Sums.{sum_by-cons}
use Rattle.std.proofs.lemmas.Nat.{pow_pos}
use Rattle.std.proofs.Math.Nat.{pow-suc}
use Rattle.std.proofs.Math.Pow.{pow_mono}
use Rattle.std.proofs.lemmas.Bool.Decides.{nat_tests, eqb_tells}
use Rattle.nk_store.specs.Intervals.{counted}
use Rattle.nk_extract.specs.RuleTree.{bit_of}

abbrev pub one_if : Bool → ℕ
one_if b = cond b 1 0

-- a count, one element on
pub counts : (p : ℕ → Bool) (x : ℕ) (xs : List ℕ) → count_by p (x ∷ xs) ≡ one_if (p x) + count_by p xs
counts p x xs = sum_by-cons (λ z. one_if (p z)) x xs

-- a weaker test counts as much
one_le : (a b : Bool) → (a ≡ true → b ≡ true) → one_if a ≤ one_if b
one_le true b h = rw (h refl) (omega arith)
one_le false b h = omega arith

-- a weaker test counts as many
count_le :
    (p q : ℕ → Bool) (xs : List ℕ) → ((x : ℕ) → p x ≡ true → q x ≡ true) → count_by p xs ≤ count_by q xs
count_le p q [] h = omega arith
count_le p q (x ∷ xs) h = omega (arith, counts p x xs, counts q x xs, count_le p q xs h, one_le (p x) (q x) (h x))

-- and more where one element passes it alone
count_lt :
    (p q : ℕ → Bool) (from n z : ℕ) → ((x : ℕ) → p x ≡ true → q x ≡ true) → from ≤ z → z < from + n
    → p z ≡ false → q z ≡ true → count_by p (counted from n) < count_by q (counted from n)
count_lt p q from zero z h a b e f = absurd (omega (arith, a, b))
count_lt p q from (suc n) z h a b e f =
    elim (eqb_tells from z) [
      | inl same ↦
          let e' : one_if (p from) ≡ 0 = ap one_if (ap p same.1 ∙ e) in
          let f' : one_if (q from) ≡ 1 = ap one_if (ap q same.1 ∙ f) in
          omega (arith, counts p from (counted (from + 1) n), counts q from (counted (from + 1) n), count_le p q (counted (from + 1) n) h, e', f')
      | inr other ↦
          omega (arith, counts p from (counted (from + 1) n), counts q from (counted (from + 1) n), one_le (p from) (q from) (h from), count_lt p q (from + 1) n z h (omega (arith, a, other.1)) (omega (arith, b)) e f)
    ]

-- a matchable field after f
abbrev following : ℕ → ℕ → ℕ → Bool
following tag f g = nat_lt f g && not (g == tag)

-- what is after a later field is after an earlier one
after_less : (tag f g x : ℕ) → f < g → following tag g x ≡ true → following tag f x ≡ true
after_less tag f g x h e = grind (arith, nat_tests, h, e)

-- no field is after itself
after_self : (tag g : ℕ) → following tag g g ≡ false
after_self tag g = grind (arith, nat_tests)

-- a later field but the tag is after
after_here : (tag f g : ℕ) → f < g → g ≢ tag → following tag f g ≡ true
after_here tag f g h n = grind (arith, nat_tests, h, n)

-- twice the bit of a field is at most the bit of one before it
pub bits_double :
    (width tag f g : ℕ) → f < g → g < width → g ≢ tag → 2 * bit_of width tag g ≤ bit_of width tag f
bits_double width tag f g h w n =
    let few = count_by (following tag g) (counted 0 width) in
    let many = count_by (following tag f) (counted 0 width) in
    let lt : few < many = count_lt (following tag g) (following tag f) 0 width g (λ x e. after_less tag f g x h e) (omega arith) (omega (arith, w)) (after_self tag g) (after_here tag f g h n) in
    let le : 2 ^ suc few ≤ 2 ^ many = pow_mono (omega (arith, lt)) in
    omega (arith, le, pow-suc 2 few)

-- a bit is above 0
pub bit_positive : (width tag f : ℕ) → 0 < bit_of width tag f
bit_positive width tag f = pow_pos (count_by (following tag f) (counted 0 width))

-- all of so many values are so many
all_count : (from n : ℕ) → count_by (λ g. true) (counted from n) ≡ n
all_count from zero = refl
all_count from (suc n) =
    let rest = all_count (from + 1) n in
    omega (arith, counts (λ g. true) from (counted (from + 1) n), rest)

-- with a tag after the port, eighteen fields have sixteen bits
pub bits_fit : (width tag : ℕ) → 2 ≤ tag → tag < width → width ≤ 18 → bit_of width tag 0 ≤ 65536
bits_fit width tag past declared few =
    let untagged = count_lt (following tag 0) (λ g. nat_lt 0 g) 0 width tag (λ x e. grind (arith, nat_tests, e)) (omega arith) (omega (arith, declared)) (grind (arith, nat_tests)) (grind (arith, nat_tests, past)) in
    let named = count_lt (λ g. nat_lt 0 g) (λ g. true) 0 width 0 (λ x e. refl) (omega arith) (omega (arith, declared)) refl refl in
    let most : count_by (following tag 0) (counted 0 width) ≤ 16 = let all = all_count 0 width in omega (arith, untagged, named, all, few) in
    pow_mono {i = count_by (following tag 0) (counted 0 width)} {j = 16} most

-- a test that fails at the first values counts after them
count_past :
    (p : ℕ → Bool) (from k n : ℕ) → ((x : ℕ) → x < from + k → p x ≡ false)
    → count_by p (counted from (k + n)) ≡ count_by p (counted (from + k) n)
count_past p from zero n h =
    let none : zero + n ≡ n = omega arith in
    let here : from ≡ from + zero = omega arith in
    ap (λ z. count_by p (counted from z)) none ∙ ap (λ z. count_by p (counted z n)) here
count_past p from (suc k) n h =
    let one : suc k + n ≡ suc (k + n) = omega arith in
    let on : from + 1 + k ≡ from + suc k = omega arith in
    ap (λ z. count_by p (counted from z)) one
    ∙ counts p from (counted (from + 1) (k + n))
    ∙ ap (λ b. one_if b + count_by p (counted (from + 1) (k + n))) (h from (omega arith))
    ∙ (let rest : 0 + count_by p (counted (from + 1) (k + n)) ≡ count_by p (counted (from + 1) (k + n)) = omega arith in rest)
    ∙ count_past p (from + 1) k n (λ x l. h x (omega (arith, l)))
    ∙ ap (λ z. count_by p (counted z n)) on

-- tests that agree from a value on count alike
count_same :
    (p q : ℕ → Bool) (from n : ℕ) → ((x : ℕ) → from ≤ x → p x ≡ q x)
    → count_by p (counted from n) ≡ count_by q (counted from n)
count_same p q from zero h = refl
count_same p q from (suc n) h =
    counts p from (counted (from + 1) n)
    ∙ ap (λ b. one_if b + count_by p (counted (from + 1) n)) (h from (omega arith))
    ∙ ap (λ c. one_if (q from) + c) (count_same p q (from + 1) n (λ x l. h x (omega (arith, l))))
    ∙ sym (counts q from (counted (from + 1) n))

-- a field but the tag
abbrev pub untagged : ℕ → ℕ → Bool
untagged tag g = not (g == tag)

-- one bit for each matchable field from a place on
abbrev pub bit_from : ℕ → ℕ → ℕ → ℕ
bit_from width tag k = 2 ^ count_by (λ g. not (g == tag)) (counted k (width - k))

-- a field up to f is not after it
not_after : (tag f x : ℕ) → x < 0 + (f + 1) → following tag f x ≡ false
not_after tag f x h = grind (arith, nat_tests, h)

-- a field from f + 1 on is, but for the tag
past_after : (tag f x : ℕ) → f + 1 ≤ x → following tag f x ≡ untagged tag x
past_after tag f x h = grind (arith, nat_tests, h)

-- a field's bit is by the fields from the next one on
bit_is : (width tag f : ℕ) → f < width → bit_of width tag f ≡ bit_from width tag (f + 1)
bit_is width tag f h =
    let all : width ≡ f + 1 + (width - (f + 1)) = omega (arith, h) in
    let next : 0 + (f + 1) ≡ f + 1 = omega arith in
    ap (λ n. 2 ^ n)
    (ap (λ n. count_by (following tag f) (counted 0 n)) all
    ∙ count_past (following tag f) 0 (f + 1) (width - (f + 1)) (not_after tag f)
    ∙ ap (λ k. count_by (following tag f) (counted k (width - (f + 1)))) next
    ∙ count_same (following tag f) (untagged tag) (f + 1) (width - (f + 1)) (past_after tag f))

-- after all fields there is none
bit_past : (width tag f : ℕ) → width ≤ f → bit_of width tag f ≡ 1
bit_past width tag f h =
    let all : width ≡ width + 0 = omega arith in
    ap (λ n. 2 ^ n)
    (ap (λ n. count_by (following tag f) (counted 0 n)) all
    ∙ count_past (following tag f) 0 width 0 (λ x l. not_after tag f x (omega (arith, l, h))))

-- from there on there are no bits
pub bits_end : (width tag : ℕ) → 1 ≡ bit_from width tag width
bits_end width tag =
    let none : 0 ≡ width - width = omega arith in
    ap (λ n. 2 ^ count_by (untagged tag) (counted width n)) none

-- a power of two doubled or not
power_by : (b : Bool) (n : ℕ) → cond b (2 ^ n * 2) (2 ^ n) ≡ 2 ^ (one_if b + n)
power_by true n =
    let e : 1 + n ≡ suc n = omega arith in
    sym (ap (λ k. 2 ^ k) e ∙ pow-suc 2 n)
power_by false n = ap (λ k. 2 ^ k) (let e : n ≡ 0 + n = omega arith in e)

-- the bits from one place before
pub bits_before :
    (width tag k bit after : ℕ) → 0 < k → k ≤ width → bit ≡ bit_from width tag k
    → after ≡ cond (not (k - 1 == tag)) (bit * 2) bit → after ≡ bit_from width tag (k - 1)
bits_before width tag k bit after some within is made =
    let n = count_by (untagged tag) (counted (k - 1 + 1) (width - k)) in
    let here : k ≡ k - 1 + 1 = omega (arith, some) in
    let more : suc (width - k) ≡ width - (k - 1) = omega (arith, some, within) in
    let bit_n : bit ≡ 2 ^ n = is ∙ ap (λ z. 2 ^ count_by (untagged tag) (counted z (width - k))) here in
    made
    ∙ ap (λ b. cond (not (k - 1 == tag)) (b * 2) b) bit_n
    ∙ power_by (untagged tag (k - 1)) n
    ∙ ap (λ c. 2 ^ c) (sym (counts (untagged tag) (k - 1) (counted (k - 1 + 1) (width - k))))
    ∙ ap (λ c. 2 ^ count_by (untagged tag) (counted (k - 1) c)) more

-- eighteen fields have at most eighteen bits
pub bits_small : (width tag k bit : ℕ) → width ≤ 18 → bit ≡ bit_from width tag k → bit ≤ 262144
bits_small width tag k bit few is =
    let count = count_by (untagged tag) (counted k (width - k)) in
    let most : count ≤ 18 = omega (arith, few, count_le (untagged tag) (λ g. true) (counted k (width - k)) (λ x e. refl), all_count k (width - k)) in
    let power : 2 ^ count ≤ 2 ^ 18 = pow_mono {i = count} {j = 18} most in
    rw is power

-- a table has the bits of the fields from a place on
abbrev pub HasBitsFrom : ℕ → ℕ → ℕ → List ℕ → Type 0
HasBitsFrom k width tag bits = (f : ℕ) → k ≤ f → f < 18 → slice_index bits f ≡ bit_of width tag f

-- a table of ones has those after all fields
pub ones_end : (width tag : ℕ) → HasBitsFrom width width tag (replicate 18 1)
ones_end width tag f h l = get_or-replicate 18 f 1 0 l ∙ sym (bit_past width tag f h)

-- one more bit is put in the table
pub bit_put :
    (width tag k bit : ℕ) (bits : List ℕ) → 0 < k → k ≤ width → width ≤ 18 → length bits ≡ 18
    → bit ≡ bit_from width tag k → HasBitsFrom k width tag bits
    → HasBitsFrom (k - 1) width tag (slice_set bits (k - 1) bit)
bit_put width tag k bit bits some within few long is has f h l =
    elim (eqb_tells (k - 1) f) [
      | inl same ↦
          let here : k ≡ f + 1 = omega (arith, some, same.1) in
          get_or-set_at bits (k - 1) f bit 0 (sym same.1) (omega (arith, long, few, some, within))
          ∙ is
          ∙ ap (λ z. bit_from width tag z) here
          ∙ sym (bit_is width tag f (omega (arith, here, within)))
      | inr other ↦
          get_or-set_other bits (k - 1) f bit 0 (λ e. other.1 (sym e))
          ∙ (let ne = other.1 in has f (omega (arith, h, ne)) l)
    ]

-- it has as many places
pub long_put : (k bit : ℕ) (bits : List ℕ) → length bits ≡ 18 → length (slice_set bits k bit) ≡ 18
long_put k bit bits long = length-set bits k bit ∙ long
