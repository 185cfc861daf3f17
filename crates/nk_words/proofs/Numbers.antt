-- A number among the words.
use Rattle.std.proofs.Common.{◌≡◌, ◌<◌, ◌^◌, ◌==◌, ◌&&◌, ℕ, List, [], ◌∷◌, Bool, true, false, length, refl, arith, nat_lt, Some, None, cond}
use Rattle.std.specs.Char.{is_ascii_digit, digit_value}
use Rattle.std.specs.List.{list_all}
use Rattle.std.specs.Str.Parse.{AllDigits, IsNumeral, digits_value, without_leading_plus}
use Rattle.std.proofs.lemmas.Bool.Decides.{nat_tests}
use Rattle.nk_words.specs.Number.{is_number_upto, number_of_word}

-- both of two tests that hold together
pub both : (a b : Bool) → (a && b) ≡ true → (a ≡ true) × (b ≡ true)
both true b h = (refl, h)
both false b h = cc

digit_below : (c : ℕ) → is_ascii_digit c ≡ true → digit_value c < 10
digit_below c h = grind (arith, nat_tests)

-- a digit is no plus sign
not_plus : (c : ℕ) → is_ascii_digit c ≡ true → (c == 43) ≡ false
not_plus c h = grind (arith, nat_tests)

all_digits : (word : List ℕ) → list_all is_ascii_digit word ≡ true → AllDigits 10 word
all_digits [] h = tt
all_digits (c ∷ cs) h =
    let p : (is_ascii_digit c ≡ true) × (list_all is_ascii_digit cs ≡ true) = both _ _ h in
    (digit_below c p.0, all_digits cs p.1)

no_plus : (word : List ℕ) → list_all is_ascii_digit word ≡ true → without_leading_plus word ≡ word
no_plus [] h = refl
no_plus (c ∷ cs) h =
    let p : (is_ascii_digit c ≡ true) × (list_all is_ascii_digit cs ≡ true) = both _ _ h in
    rw (not_plus c p.0) refl

-- a word that `parse` doesn't read has no number up to the largest one
pub no_number : (largest : ℕ) (word : List ℕ) → largest < 2 ^ 64 → list_all is_ascii_digit word ≡ true
    → (IsNumeral 10 (without_leading_plus word) × (digits_value 10 (without_leading_plus word) < 2 ^ 64) → ⊥)
    → None ≡ number_of_word largest word
no_number largest word m digits none = by_test (is_number_upto largest word) refl
  where
    out : is_number_upto largest word ≡ true → ⊥
    out h =
        let p = both (list_all is_ascii_digit word) _ h in
        let q = both (nat_lt 0 (length word)) _ p.1 in
        none
        (rw (no_plus word digits)
        ((grind (arith, nat_tests, q.0), all_digits word digits), grind (arith, nat_tests, q.1, m)))

    by_test : (b : Bool) → is_number_upto largest word ≡ b → None ≡ cond b (Some (digits_value 10 word)) None
    by_test true h = absurd (out h)
    by_test false h = refl
