-- The digits of a number and runs of bytes.
use Rattle.std.proofs.Common.{◌≡◌, ◌<◌, ◌≤◌, ◌+◌, ◌-◌, ◌*◌, ◌/◌, ◌%◌, ℕ, List, [], ◌∷◌, ◌++◌, Bool, true, false, refl, ◌∙◌, ap, arith, cond, decimal, fold, ◌&&◌}
use Rattle.std.proofs.lemmas.Bool.Decides.{nat_tests}
use Rattle.std.proofs.lemmas.Fmt.{decimal_by_steps}
use Rattle.std.proofs.lemmas.List.Sums.{take_while-cons}
use Rattle.std.proofs.lemmas.List.Folds.{list_all-append}
use Rattle.std.specs.Prelude.{take_while, ⊤}
use Rattle.std.specs.List.{list_all}
use Rattle.nk_lex.specs.Classes.{is_digit}
use Rattle.nk_lex.specs.Lex.{largest, value_of}

-- two tests that pass together pass
pub both_pass : (a b : Bool) → (a && b) ≡ true → (a ≡ true) × (b ≡ true)
both_pass true true h = (refl, refl)
both_pass true false h = absurd cc
both_pass false b h = absurd cc

-- the bytes are none, or the first one fails the test
abbrev pub StopsAt : (ℕ → Bool) → List ℕ → Type 0
StopsAt p [] = ⊤
StopsAt p (b ∷ bs) = p b ≡ false

-- a run of bytes that pass, up to one that fails
pub run_is : (p : ℕ → Bool) (xs r : List ℕ) → list_all p xs ≡ true → StopsAt p r → take_while p (xs ++ r) ≡ xs
run_is p [] [] h s = refl
run_is p [] (b ∷ r) h s = take_while-cons p b r ∙ ap (λ t. cond t (b ∷ take_while p r) []) s
run_is p (x ∷ xs) r h s =
    let both = both_pass (p x) (list_all p xs) h in
    take_while-cons p x (xs ++ r)
    ∙ ap (λ t. cond t (x ∷ take_while p (xs ++ r)) []) both.0
    ∙ ap (λ l. x ∷ l) (run_is p xs r both.1 s)

-- digits of this value, the first of them apart
pub record Digits (n : ℕ) (ds : List ℕ) : Type 0 where
  pub first : ℕ
  pub rest : List ℕ
  pub are : ds ≡ first ∷ rest
  pub first_digit : is_digit first ≡ true
  pub digits : list_all is_digit rest ≡ true
  pub value : value_of ds ≡ n

-- the value with one more digit after
value_more : (ds : List ℕ) (start d : ℕ)
    → fold (λ n c. n * 10 + (c - 48)) start (ds ++ d ∷ []) ≡ fold (λ n c. n * 10 + (c - 48)) start ds * 10 + (d - 48)
value_more [] start d = refl
value_more (c ∷ ds) start d = value_more ds (start * 10 + (c - 48)) d

digit : (k : ℕ) → k < 10 → is_digit (48 + k) ≡ true
digit k lt = grind (arith, nat_tests)

one_digit : (n : ℕ) → n < 10 → Digits n ((48 + n) ∷ [])
one_digit n lt = record {
  first = 48 + n;
  rest = [];
  are = refl;
  first_digit = digit n lt;
  digits = refl;
  value = omega arith;
}

more_digits : (n : ℕ) (ds : List ℕ) → 10 ≤ n → Digits (n / 10) ds → Digits n (ds ++ ((48 + n % 10) ∷ []))
more_digits n ds le d = record {
  first = d.first;
  rest = d.rest ++ (48 + n % 10) ∷ [];
  are = ap (λ l. l ++ (48 + n % 10) ∷ []) d.are;
  first_digit = d.first_digit;
  digits = list_all-append is_digit d.rest ((48 + n % 10) ∷ [])
      ∙ ap (λ b. b && list_all is_digit ((48 + n % 10) ∷ [])) d.digits
      ∙ ap (λ b. b && true) (digit (n % 10) (omega arith));
  value = value_more ds 0 (48 + n % 10) ∙ (let e : value_of ds ≡ n / 10 = d.value in omega arith);
}

-- the digits that a number is written in
pub digits_of : (n : ℕ) → n ≤ largest → Digits n (decimal n)
digits_of n le = decimal_by_steps Digits one_digit more_digits n (omega arith)
