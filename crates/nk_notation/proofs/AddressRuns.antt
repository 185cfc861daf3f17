-- A run that is read as an address.
use Rattle.std.proofs.Common.{◌≡◌, ◌⊎◌, ◌<◌, ◌≤◌, ◌+◌, ◌*◌, ◌/◌, ◌%◌, ◌^◌, ◌==◌, ◌&&◌, ℕ, suc, Bool, true, false, not, cond, List, [], ◌∷◌, ◌++◌, length, take, drop, decimal, refl, sym, ap, subst, inl, inr, ◌∙◌, arith}
use Rattle.std.proofs.lemmas.Bool.Decides.{nat_tests}
use Rattle.std.proofs.lemmas.Fmt.{decimal_nonempty}
use Rattle.std.proofs.lemmas.List.Sums.{take_while-cons}
use Rattle.std.proofs.lemmas.Slice.Eq.{bytes_eq-Decides}
use Rattle.std.specs.Prelude.{Option, Some, None, Ok, bytes_eq, nat_le, take_while}
use Rattle.nk_lex.specs.Lex.{value_of}
use Rattle.nk_number_forms.specs.Forms.{address_of, address_text, after_first, before_first, first_place}
use Rattle.nk_number_forms.specs.Numbers.{number_within}
use Rattle.nk_notation.specs.declared.outward.Form.TheVariants as form
use Rattle.nk_notation.specs.Inward.{run_in}
use Rattle.nk_notation.specs.Outward.{form_text, largest_in_form}
use Rattle.nk_notation.proofs.Addresses.{by_octets, of_octets, text_by_octets}
use Rattle.nk_notation.proofs.ReadBack.{values_back}

abbrev held_number : Option ℕ → ℕ
held_number None = 0
held_number (Some n) = n

-- a text is read as a number only if it is the decimal text of it
read_by : (most v : ℕ) (w : List ℕ) (n : ℕ) (t u : Bool) → nat_le v most ≡ t → bytes_eq w (decimal v) ≡ u
    → cond (t && u) (Some v) None ≡ Some n → (w ≡ decimal n) × (n ≤ most)
read_by most v w n true true e same h =
    let is : v ≡ n = ap held_number h in
    let le : v ≤ most = grind (arith, nat_tests) in
    (subst (λ m. w ≡ decimal m) is ((bytes_eq-Decides w (decimal v)).0 same), omega arith)
read_by most v w n true false e same h = absurd cc
read_by most v w n false u e same h = absurd cc

is_read : (most : ℕ) (w : List ℕ) (n : ℕ) → number_within most w ≡ Some n → (w ≡ decimal n) × (n ≤ most)
unfolding number_within
is_read most w n h = read_by most (value_of w) w n (nat_le (value_of w) most) (bytes_eq w (decimal (value_of w))) refl refl h

-- a text before its first dot and after it, or nothing after it
abbrev IsCutAt : ℕ → List ℕ → Type 0
IsCutAt k w = (w ≡ take k w ++ 46 ∷ drop (k + 1) w) ⊎ (drop (k + 1) w ≡ [])

cut_by : (b : ℕ) (w run : List ℕ) → IsCutAt (length run) w → (t : Bool) → not (b == 46) ≡ t → IsCutAt (length (cond t (b ∷ run) [])) (b ∷ w)
cut_by b w run (inl h) true e =
    let k = length run in
    let same : suc (k + 1) ≡ suc k + 1 = omega arith in
    inl (ap (λ l. b ∷ l) h ∙ ap (λ m. b ∷ (take k w ++ 46 ∷ drop m (b ∷ w))) same)
cut_by b w run (inr h) true e =
    let same : suc (length run) + 1 ≡ suc (length run + 1) = omega arith in
    inr (ap (λ m. drop m (b ∷ w)) same ∙ h)
cut_by b w run h false e = let is : b ≡ 46 = grind (arith, nat_tests) in inl (ap (λ c. c ∷ w) is)

cut_at : (w : List ℕ) → IsCutAt (first_place 46 w) w
unfolding first_place
cut_at [] = inr refl
cut_at (b ∷ w) =
    subst (λ run. IsCutAt (length run) (b ∷ w)) (sym (take_while-cons (λ c. not (c == 46)) b w))
    (cut_by b w (take_while (λ c. not (c == 46)) w) (cut_at w) (not (b == 46)) refl)

-- no number stands in no bytes
filled : (y : ℕ) → number_within 255 [] ≡ Some y → ⊥
filled y h =
    let r = is_read 255 [] y h in
    let none : length (decimal y) ≡ 0 = sym (ap length r.0) in
    omega (arith, none, decimal_nonempty y (omega arith))

-- a number after a dot wants the dot
has_dot : (g : List ℕ → List ℕ) → g [] ≡ [] → (w : List ℕ) (y : ℕ) → number_within 255 (g (after_first 46 w)) ≡ Some y
    → w ≡ before_first 46 w ++ 46 ∷ after_first 46 w
unfolding before_first after_first
has_dot g none w y h = elim (cut_at w) as (λ _. w ≡ take (first_place 46 w) w ++ 46 ∷ drop (first_place 46 w + 1) w) [
  | inl e ↦ e
  | inr e ↦ absurd (filled y (ap (number_within 255) (sym none ∙ ap g (sym e)) ∙ h))
]

-- four octets that make a number
record AreOctets (a b c d : Option ℕ) (n : ℕ) : Type 0 where
  first : ℕ
  second : ℕ
  third : ℕ
  fourth : ℕ
  a_is : a ≡ Some first
  b_is : b ≡ Some second
  c_is : c ≡ Some third
  d_is : d ≡ Some fourth
  make : first * 16777216 + second * 65536 + third * 256 + fourth ≡ n

are_octets : (a b c d : Option ℕ) (n : ℕ) → of_octets a b c d ≡ Some n → AreOctets a b c d n
unfolding of_octets
are_octets (Some x) (Some y) (Some z) (Some u) n h = record {
  first = x;
  second = y;
  third = z;
  fourth = u;
  a_is = refl;
  b_is = refl;
  c_is = refl;
  d_is = refl;
  make = ap held_number h;
}
are_octets a b c d n h = absurd cc

before_none : before_first 46 [] ≡ []
unfolding before_first first_place
before_none = refl

-- what is read as an address is the text of it
address_is : (w : List ℕ) (n : ℕ) → address_of w ≡ Some n → (w ≡ address_text n) × (n < 2 ^ 32)
address_is w n h =
    let w1 = after_first 46 w in
    let w2 = after_first 46 w1 in
    let w3 = after_first 46 w2 in
    let o = are_octets (number_within 255 (before_first 46 w)) (number_within 255 (before_first 46 w1)) (number_within 255 (before_first 46 w2)) (number_within 255 w3) n (sym (by_octets w) ∙ h) in
    let a = is_read 255 (before_first 46 w) o.first o.a_is in
    let b = is_read 255 (before_first 46 w1) o.second o.b_is in
    let c = is_read 255 (before_first 46 w2) o.third o.c_is in
    let d = is_read 255 w3 o.fourth o.d_is in
    let e0 = has_dot (before_first 46) before_none w o.second o.b_is in
    let e1 = has_dot (before_first 46) before_none w1 o.third o.c_is in
    let e2 = has_dot (λ v. v) refl w2 o.fourth o.d_is in
    let la = a.1 in
    let lb = b.1 in
    let lc = c.1 in
    let ld = d.1 in
    let make = o.make in
    let a_is : o.first ≡ n / 16777216 = omega (arith, la, lb, lc, ld, make) in
    let b_is : o.second ≡ n / 65536 % 256 = omega (arith, la, lb, lc, ld, make) in
    let c_is : o.third ≡ n / 256 % 256 = omega (arith, la, lb, lc, ld, make) in
    let d_is : o.fourth ≡ n % 256 = omega (arith, la, lb, lc, ld, make) in
    let t3 : w3 ≡ decimal (n % 256) = d.0 ∙ ap decimal d_is in
    let t2 : w2 ≡ decimal (n / 256 % 256) ++ 46 ∷ decimal (n % 256)
    = e2 ∙ ap (λ v. v ++ 46 ∷ w3) (c.0 ∙ ap decimal c_is) ∙ ap (λ v. decimal (n / 256 % 256) ++ 46 ∷ v) t3 in
    let t1 : w1 ≡ decimal (n / 65536 % 256) ++ 46 ∷ (decimal (n / 256 % 256) ++ 46 ∷ decimal (n % 256))
    = e1 ∙ ap (λ v. v ++ 46 ∷ w2) (b.0 ∙ ap decimal b_is) ∙ ap (λ v. decimal (n / 65536 % 256) ++ 46 ∷ v) t2 in
    let t0 : w ≡ decimal (n / 16777216) ++ 46 ∷ (decimal (n / 65536 % 256) ++ 46 ∷ (decimal (n / 256 % 256) ++ 46 ∷ decimal (n % 256)))
    = e0 ∙ ap (λ v. v ++ 46 ∷ w1) (a.0 ∙ ap decimal a_is) ∙ ap (λ v. decimal (n / 16777216) ++ 46 ∷ v) t1 in
    (t0 ∙ sym (text_by_octets n), omega (arith, la, lb, lc, ld, make))

-- such a run is written as the number
pub address_run : (tables tests : Bool) (lead w : List ℕ) (n : ℕ) → address_of w ≡ Some n → run_in tables tests lead w ≡ Ok (lead ++ decimal n)
unfolding form_text largest_in_form
address_run tables tests lead w n h =
    let is = address_is w n h in
    ap (run_in tables tests lead) is.0 ∙ values_back form.Address n (omega (arith, is.1)) tables tests lead
