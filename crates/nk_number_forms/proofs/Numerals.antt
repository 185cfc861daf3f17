-- Decimal digits without leading zeros are the text of their value, and no other text is.
use Rattle.std.proofs.Common.{◌≡◌, ◌<◌, ◌≤◌, ◌+◌, ◌-◌, ◌*◌, ◌^◌, ◌==◌, ◌&&◌, ◌||◌, ℕ, zero, suc, Bool, true, false, not, cond, List, length, decimal, fold, refl, sym, ap, ◌∙◌, arith, rules}
use Rattle.std.proofs.lemmas.Bool.{false≢true}
use Rattle.std.proofs.lemmas.Bool.Decides.{nat_tests}
use Rattle.std.proofs.lemmas.Fmt.{decimal-digits_value, decimal_nonempty, digits_decimal, first_decimal, decimal_digit, length-decimal-le}
use Rattle.std.proofs.lemmas.Slice.Eq.{bytes_eq-Decides}
use Rattle.std.proofs.lemmas.Str.Parse.{IsNumeralModel, numerals_by_fold}
use Rattle.std.specs.Prelude.{Some, None, bytes_eq, get_or, nat_le, nat_lt}
use Rattle.std.specs.List.{list_all}
use Rattle.nk_lex.specs.Classes.{is_digit}
use Rattle.nk_lex.specs.Lex.{largest, value_of}
use Rattle.nk_lex.proofs.Digits.{both_pass}
use Rattle.nk_number_forms.specs.Numbers.{is_numeral, number_within}

own : IsNumeralModel (λ ds. list_all is_digit ds ≡ true) value_of
own = numerals_by_fold _ (search rules) (fold (λ n d. n * 10 + (d - 48))) (search rules)

-- the tests of a numeral, one by one
record IsNumeralText (w : List ℕ) : Type 0 where
  some : 0 < length w
  leads : get_or w 0 0 ≡ 48 → length w ≡ 1
  digits : list_all is_digit w ≡ true

numeral_tests : (w : List ℕ) → is_numeral w ≡ true → IsNumeralText w
unfolding is_numeral
numeral_tests w h =
    let outer = both_pass (not (length w == 0) && (length w == 1 || not (get_or w 0 0 == 48))) (list_all is_digit w) h in
    let inner = both_pass (not (length w == 0)) (length w == 1 || not (get_or w 0 0 == 48)) outer.0 in
    let filled : not (length w == 0) ≡ true = inner.0 in
    let first : (length w == 1 || not (get_or w 0 0 == 48)) ≡ true = inner.1 in
    record { some = grind (arith, nat_tests); leads = λ e. grind (arith, nat_tests); digits = outer.1 }

numeral_to : (w : List ℕ) → IsNumeralText w → is_numeral w ≡ true
unfolding is_numeral
numeral_to w t =
    let some : 0 < length w = t.some in
    let filled : not (length w == 0) ≡ true = grind (arith, nat_tests) in
    let leads : get_or w 0 0 ≡ 48 → length w ≡ 1 = t.leads in
    let first : (length w == 1 || not (get_or w 0 0 == 48)) ≡ true = grind (arith, nat_tests, leads) in
    ap (λ b. b && (length w == 1 || not (get_or w 0 0 == 48)) && list_all is_digit w) filled
    ∙ ap (λ b. b && list_all is_digit w) first
    ∙ t.digits

-- the text of a number is a numeral
decimal_leads : (n : ℕ) → n < 2 ^ 64 → get_or (decimal n) 0 0 ≡ 48 → length (decimal n) ≡ 1
decimal_leads zero small e = ap length (decimal_digit 0 (omega arith))
decimal_leads (suc n) small e = absurd (omega (arith, e, first_decimal (suc n) (omega arith) small))

decimal_numeral : (n : ℕ) → n < 2 ^ 64 → is_numeral (decimal n) ≡ true
decimal_numeral n small = numeral_to (decimal n) (record { some = decimal_nonempty n small; leads = decimal_leads n small; digits = digits_decimal own n small })

-- where the value is small enough
within_by : (most : ℕ) (w : List ℕ) → most ≤ largest → is_numeral w ≡ true → (t : Bool) → nat_le (value_of w) most ≡ t
    → cond (t && bytes_eq w (decimal (value_of w))) (Some (value_of w)) None ≡ cond t (Some (value_of w)) None
within_by most w small is true e =
    let le : value_of w ≤ most = grind (arith, nat_tests) in
    let t = numeral_tests w is in
    let same : decimal (value_of w) ≡ w = decimal-digits_value own w t.digits t.some t.leads (omega arith) in
    ap (λ b. cond b (Some (value_of w)) None) ((bytes_eq-Decides w (decimal (value_of w))).1 (sym same))
within_by most w small is false e = refl

-- a numeral is the number that it writes, if that is no larger
pub numeral_within : (most : ℕ) (w : List ℕ) → most ≤ largest → is_numeral w ≡ true
    → number_within most w ≡ cond (nat_le (value_of w) most) (Some (value_of w)) None
unfolding number_within
numeral_within most w small is = within_by most w small is (nat_le (value_of w) most) refl

none_by : (most : ℕ) (w : List ℕ) → most ≤ largest → is_numeral w ≡ false → (t u : Bool) → nat_le (value_of w) most ≡ t → bytes_eq w (decimal (value_of w)) ≡ u
    → cond (t && u) (Some (value_of w)) None ≡ None
none_by most w small isnt true true e same =
    let le : value_of w ≤ most = grind (arith, nat_tests) in
    let is : w ≡ decimal (value_of w) = (bytes_eq-Decides w (decimal (value_of w))).0 same in
    absurd (false≢true (sym isnt ∙ ap is_numeral is ∙ decimal_numeral (value_of w) (omega arith)))
none_by most w small isnt true false e same = refl
none_by most w small isnt false u e same = refl

-- no other text is a number
pub no_numeral : (most : ℕ) (w : List ℕ) → most ≤ largest → is_numeral w ≡ false → number_within most w ≡ None
unfolding number_within
no_numeral most w small isnt = none_by most w small isnt (nat_le (value_of w) most) (bytes_eq w (decimal (value_of w))) refl refl

long_by : (w : List ℕ) → 3 < length w → (t u : Bool) → nat_le (value_of w) 255 ≡ t → bytes_eq w (decimal (value_of w)) ≡ u
    → cond (t && u) (Some (value_of w)) None ≡ None
long_by w long true true e same =
    let le : value_of w ≤ 255 = grind (arith, nat_tests) in
    let is : w ≡ decimal (value_of w) = (bytes_eq-Decides w (decimal (value_of w))).0 same in
    let short : length (decimal (value_of w)) ≤ 3 = length-decimal-le 3 (value_of w) (omega arith) (omega arith) (omega arith) in
    let as_long : length w ≡ length (decimal (value_of w)) = ap length is in
    absurd (omega arith)
long_by w long true false e same = refl
long_by w long false u e same = refl

long_none : (w : List ℕ) → 3 < length w → number_within 255 w ≡ None
unfolding number_within
long_none w long = long_by w long (nat_le (value_of w) 255) (bytes_eq w (decimal (value_of w))) refl refl

-- a numeral of at most three digits is an octet, if it is small enough
pub octet_within : (w : List ℕ) → (nat_lt (length w) 4 && is_numeral w) ≡ true
    → number_within 255 w ≡ cond (nat_le (value_of w) 255) (Some (value_of w)) None
octet_within w h = numeral_within 255 w (omega arith) (both_pass (nat_lt (length w) 4) (is_numeral w) h).1

none_short : (w : List ℕ) → (t : Bool) → nat_lt (length w) 4 ≡ t → (t && is_numeral w) ≡ false → number_within 255 w ≡ None
none_short w true e h = no_numeral 255 w (omega arith) h
none_short w false e h = let long : 3 < length w = grind (arith, nat_tests) in long_none w long

-- no other text is one
pub no_octet : (w : List ℕ) → (nat_lt (length w) 4 && is_numeral w) ≡ false → number_within 255 w ≡ None
no_octet w h = none_short w (nat_lt (length w) 4) refl h
