-- An address that is written is read back.
use Rattle.std.proofs.Common.{◌≡◌, ◌<◌, ◌≤◌, ◌+◌, ◌*◌, ◌/◌, ◌%◌, ◌^◌, ◌==◌, ◌&&◌, ℕ, suc, true, not, cond, List, [], ◌∷◌, ◌++◌, length, take, drop, decimal, refl, ap, ◌∙◌, arith, append_assoc}
use Rattle.std.proofs.lemmas.Bool.Decides.{nat_tests}
use Rattle.std.proofs.lemmas.Slice.Eq.{bytes_eq-Decides}
use Rattle.std.specs.Prelude.{Option, Some, None, bytes_eq, nat_le, option_and_then}
use Rattle.std.specs.List.{list_all}
use Rattle.nk_lex.specs.Classes.{is_digit}
use Rattle.nk_lex.specs.Lex.{largest, value_of}
use Rattle.nk_lex.proofs.Digits.{both_pass, digits_of, run_is}
use Rattle.nk_number_forms.specs.Forms.{address_of, address_text, before_first, after_first, first_place}
use Rattle.nk_number_forms.specs.Numbers.{number_within}
use Rattle.nk_notation.proofs.Cuts.{not_that}

same_bytes : (w : List ℕ) → bytes_eq w w ≡ true
same_bytes w = (bytes_eq-Decides w w).1 refl

-- the decimal text of a number is read as the number
pub number_is : (most n : ℕ) → n ≤ most → most ≤ largest → number_within most (decimal n) ≡ Some n
unfolding number_within
number_is most n le small =
    let value : value_of (decimal n) ≡ n = (digits_of n (omega arith)).value in
    let fits : nat_le n most ≡ true = grind (arith, nat_tests) in
    ap (λ v. cond (nat_le v most && bytes_eq (decimal n) (decimal v)) (Some v) None) value
    ∙ ap (λ t. cond (t && bytes_eq (decimal n) (decimal n)) (Some n) None) fits
    ∙ ap (λ t. cond (true && t) (Some n) None) (same_bytes (decimal n))

no_dot : (xs : List ℕ) → list_all is_digit xs ≡ true → list_all (λ b. not (b == 46)) xs ≡ true
no_dot [] h = refl
no_dot (x ∷ xs) h =
    let parts = both_pass (is_digit x) (list_all is_digit xs) h in
    ap (λ t. not t && list_all (λ b. not (b == 46)) xs) (not_that is_digit 46 x refl parts.0)
    ∙ ap (λ t. true && t) (no_dot xs parts.1)

pub decimal_digits : (n : ℕ) → n ≤ largest → list_all is_digit (decimal n) ≡ true
decimal_digits n le =
    let d = digits_of n le in
    ap (list_all is_digit) d.are ∙ ap (λ t. t && list_all is_digit d.rest) d.first_digit ∙ ap (λ t. true && t) d.digits

pub take_all : (w r : List ℕ) → take (length w) (w ++ r) ≡ w
take_all [] r = refl
take_all (x ∷ xs) r = ap (λ l. x ∷ l) (take_all xs r)

pub drop_past : (w : List ℕ) (b : ℕ) (r : List ℕ) → drop (length w + 1) (w ++ b ∷ r) ≡ r
drop_past [] b r = refl
drop_past (x ∷ xs) b r =
    let e : suc (length xs) + 1 ≡ suc (length xs + 1) = omega arith in
    ap (λ k. drop k (x ∷ xs ++ b ∷ r)) e ∙ drop_past xs b r

dot_at : (w r : List ℕ) → list_all is_digit w ≡ true → first_place 46 (w ++ 46 ∷ r) ≡ length w
unfolding first_place
dot_at w r h = ap length (run_is (λ b. not (b == 46)) w (46 ∷ r) (no_dot w h) refl)

before_dot : (w r : List ℕ) → list_all is_digit w ≡ true → before_first 46 (w ++ 46 ∷ r) ≡ w
unfolding before_first
before_dot w r h = ap (λ k. take k (w ++ 46 ∷ r)) (dot_at w r h) ∙ take_all w (46 ∷ r)

after_dot : (w r : List ℕ) → list_all is_digit w ≡ true → after_first 46 (w ++ 46 ∷ r) ≡ r
unfolding after_first
after_dot w r h = ap (λ k. drop (k + 1) (w ++ 46 ∷ r)) (dot_at w r h) ∙ drop_past w 46 r

-- the number of four octets, where they are some
unfoldable pub of_octets : Option ℕ → Option ℕ → Option ℕ → Option ℕ → Option ℕ
of_octets a b c d =
    option_and_then (λ x. option_and_then (λ y. option_and_then (λ z. option_and_then (λ u. Some (x * 16777216 + y * 65536 + z * 256 + u)) d) c) b) a

pub by_octets : (w : List ℕ) → address_of w ≡ of_octets (number_within 255 (before_first 46 w)) (number_within 255 (before_first 46 (after_first 46 w)))
    (number_within 255 (before_first 46 (after_first 46 (after_first 46 w)))) (number_within 255 (after_first 46 (after_first 46 (after_first 46 w))))
unfolding address_of of_octets
by_octets w = refl

octets_are : (a b c d : ℕ) → a ≤ 255 → b ≤ 255 → c ≤ 255 → d ≤ 255
    → address_of (decimal a ++ 46 ∷ (decimal b ++ 46 ∷ (decimal c ++ 46 ∷ decimal d))) ≡ Some (a * 16777216 + b * 65536 + c * 256 + d)
unfolding of_octets
octets_are a b c d la lb lc ld =
    let w2 = decimal c ++ 46 ∷ decimal d in
    let w1 = decimal b ++ 46 ∷ w2 in
    let w0 = decimal a ++ 46 ∷ w1 in
    let da = decimal_digits a (omega arith) in
    let db = decimal_digits b (omega arith) in
    let dc = decimal_digits c (omega arith) in
    let e1 : after_first 46 w0 ≡ w1 = after_dot (decimal a) w1 da in
    let e2 : after_first 46 (after_first 46 w0) ≡ w2 = ap (after_first 46) e1 ∙ after_dot (decimal b) w2 db in
    let e3 : after_first 46 (after_first 46 (after_first 46 w0)) ≡ decimal d = ap (after_first 46) e2 ∙ after_dot (decimal c) (decimal d) dc in
    let a1 : number_within 255 (before_first 46 w0) ≡ Some a = ap (number_within 255) (before_dot (decimal a) w1 da) ∙ number_is 255 a la (omega arith) in
    let b1 : number_within 255 (before_first 46 (after_first 46 w0)) ≡ Some b =
    ap (λ w. number_within 255 (before_first 46 w)) e1 ∙ ap (number_within 255) (before_dot (decimal b) w2 db) ∙ number_is 255 b lb (omega arith) in
    let c1 : number_within 255 (before_first 46 (after_first 46 (after_first 46 w0))) ≡ Some c =
    ap (λ w. number_within 255 (before_first 46 w)) e2 ∙ ap (number_within 255) (before_dot (decimal c) (decimal d) dc) ∙ number_is 255 c lc (omega arith) in
    let d1 : number_within 255 (after_first 46 (after_first 46 (after_first 46 w0))) ≡ Some d = ap (number_within 255) e3 ∙ number_is 255 d ld (omega arith) in
    by_octets w0
    ∙ ap (λ o. of_octets o (number_within 255 (before_first 46 (after_first 46 w0))) (number_within 255 (before_first 46 (after_first 46 (after_first 46 w0))))
    (number_within 255 (after_first 46 (after_first 46 (after_first 46 w0))))) a1
    ∙ ap (λ o. of_octets (Some a) o (number_within 255 (before_first 46 (after_first 46 (after_first 46 w0)))) (number_within 255 (after_first 46 (after_first 46 (after_first 46 w0))))) b1
    ∙ ap (λ o. of_octets (Some a) (Some b) o (number_within 255 (after_first 46 (after_first 46 (after_first 46 w0))))) c1
    ∙ ap (λ o. of_octets (Some a) (Some b) (Some c) o) d1

-- the octets of a number are the number
octets_make : (n : ℕ) → n / 16777216 * 16777216 + n / 65536 % 256 * 65536 + n / 256 % 256 * 256 + n % 256 ≡ n
octets_make n = omega arith

-- the text of an address by its octets
pub text_by_octets : (n : ℕ) → address_text n
    ≡ decimal (n / 16777216) ++ 46 ∷ (decimal (n / 65536 % 256) ++ 46 ∷ (decimal (n / 256 % 256) ++ 46 ∷ decimal (n % 256)))
text_by_octets n =
    let a = decimal (n / 16777216) in
    let b = decimal (n / 65536 % 256) in
    let c = decimal (n / 256 % 256) in
    let d = decimal (n % 256) in
    append_assoc (a ++ 46 ∷ b) (46 ∷ c) (46 ∷ d) ∙ append_assoc a (46 ∷ b) (46 ∷ c ++ 46 ∷ d)

pub read_back : (n : ℕ) → n < 2 ^ 32 → address_of (address_text n) ≡ Some n
read_back n lt =
    let a = n / 16777216 in
    let b = n / 65536 % 256 in
    let c = n / 256 % 256 in
    let d = n % 256 in
    ap address_of (text_by_octets n)
    ∙ octets_are a b c d (omega arith) (omega arith) (omega arith) (omega arith)
    ∙ ap Some (octets_make n)
