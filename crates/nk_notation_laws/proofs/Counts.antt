-- Numbers that nk counts to are plain numbers, however large.
use Rattle.std.proofs.Common.{◌≡◌, ◌<◌, ◌≤◌, ◌+◌, ◌/◌, ◌%◌, ◌^◌, ◌==◌, ℕ, Bool, true, false, List, [], ◌∷◌, ◌++◌, decimal, refl, sym, ap, subst, arith}
use Rattle.std.proofs.lemmas.Bool.Decides.{nat_tests}
use Rattle.std.proofs.lemmas.Fmt.{decimal_by_steps}
use Rattle.std.specs.List.{list_all}
use Rattle.nk_lex.specs.Classes.{is_digit}
use Rattle.nk_lex.proofs.Digits.{both_pass}
use Rattle.nk_number_forms.specs.Forms.{first_byte, is_hexadecimal}
use Rattle.nk_notation.specs.Lexemes.{is_run_byte}
use Rattle.nk_notation.proofs.Cuts.{not_that}
use Rattle.nk_notation.proofs.WrittenForms.{all_cons, and_false, digit_other, is_other, not_coloned}
use Rattle.nk_notation_laws.specs.Laws.{IsCount}
use Rattle.nk_notation_laws.proofs.Places.{no_field}
use Rattle.nk_notation_laws.proofs.PlainTexts.{alone_still, left_run}
use Rattle.nk_notation_laws.proofs.PrintedTables.{Runs}
use Rattle.nk_notation_laws.proofs.RunsAgain.{all_two, digit_nameless, digit_run, is_nameless}
use Rattle.nk_notation_laws.proofs.Shapes.{IsStill}
use Rattle.nk_notation_laws.proofs.WordsAgain.{nameless_front}

-- digits, the first of them apart
record AreDigits (n : ℕ) (ds : List ℕ) : Type 0 where
  first : ℕ
  rest : List ℕ
  are : ds ≡ first ∷ rest
  first_digit : is_digit first ≡ true
  digits : list_all is_digit rest ≡ true

digit : (k : ℕ) → k < 10 → is_digit (48 + k) ≡ true
digit k lt = grind (arith, nat_tests)

one_digit : (n : ℕ) → n < 10 → AreDigits n ((48 + n) ∷ [])
one_digit n lt = record { first = 48 + n; rest = []; are = refl; first_digit = digit n lt; digits = refl }

more_digits : (n : ℕ) (ds : List ℕ) → 10 ≤ n → AreDigits (n / 10) ds → AreDigits n (ds ++ ((48 + n % 10) ∷ []))
more_digits n ds le d =
    let last : list_all is_digit ((48 + n % 10) ∷ []) ≡ true = all_cons is_digit (48 + n % 10) [] (digit (n % 10) (omega arith)) refl in
    record {
      first = d.first;
      rest = d.rest ++ (48 + n % 10) ∷ [];
      are = ap (λ l. l ++ (48 + n % 10) ∷ []) d.are;
      first_digit = d.first_digit;
      digits = all_two is_digit d.rest ((48 + n % 10) ∷ []) d.digits last;
    }

digits_of : (n : ℕ) → n < 2 ^ 64 → AreDigits n (decimal n)
digits_of n lt = decimal_by_steps AreDigits one_digit more_digits n lt

-- what holds of each digit
each_digit : (q : ℕ → Bool) → ((b : ℕ) → is_digit b ≡ true → q b ≡ true) → (w : List ℕ) → list_all is_digit w ≡ true → list_all q w ≡ true
each_digit q on [] h = refl
each_digit q on (b ∷ w) h =
    let parts = both_pass (is_digit b) (list_all is_digit w) h in
    all_cons q b w (on b parts.0) (each_digit q on w parts.1)

no_hexadecimal : (b : ℕ) (w : List ℕ) → list_all is_digit w ≡ true → is_hexadecimal (b ∷ w) ≡ false
unfolding is_hexadecimal
no_hexadecimal b [] h = and_false (b == 48) false refl
no_hexadecimal b (c ∷ w) h = and_false (b == 48) (c == 120) (not_that is_digit 120 c refl (both_pass (is_digit c) (list_all is_digit w) h).0)

begins_digit : (b : ℕ) (w : List ℕ) → is_digit b ≡ true → is_nameless (b ∷ w) ≡ true
unfolding first_byte
begins_digit b w h = digit_nameless (b ∷ w) h

digits_runs : (b : ℕ) (w : List ℕ) → is_digit b ≡ true → list_all is_digit w ≡ true → Runs (b ∷ w)
digits_runs b w first others = λ rest stops next.
    let all : list_all is_digit (b ∷ w) ≡ true = all_cons is_digit b w first others in
    let other : (c : ℕ) → is_digit c ≡ false → list_all (is_other c) (b ∷ w) ≡ true = λ c fails. each_digit (is_other c) (λ x passes. digit_other c x fails passes) (b ∷ w) all in
    let runs : list_all is_run_byte (b ∷ w) ≡ true = each_digit is_run_byte digit_run (b ∷ w) all in
    let odd : is_nameless (b ∷ w) ≡ true = begins_digit b w first in
    let still : IsStill (b ∷ w) = alone_still (b ∷ w) (other 46 refl) (other 47 refl) (not_coloned (b ∷ w) (other 58 refl)) (no_hexadecimal b w others) in
    left_run (b ∷ w) rest (nameless_front (b ∷ w) runs odd) runs (no_field (b ∷ w) odd) still stops next

pub runs_count : (n : ℕ) → IsCount n → Runs (decimal n)
runs_count n lt = let d = digits_of n lt in subst Runs (sym d.are) (digits_runs d.first d.rest d.first_digit d.digits)
