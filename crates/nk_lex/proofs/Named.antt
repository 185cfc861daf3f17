-- What a text has as a name is one.
use Rattle.std.proofs.Common.{◌≡◌, ◌+◌, ◌-◌, ◌==◌, ℕ, zero, suc, List, [], ◌∷◌, Bool, true, false, length, take, refl, sym, ◌∙◌, ap, subst, arith, cond, Option, ◌&&◌, IfSome}
use Rattle.std.proofs.lemmas.List.Elements.{All-nil, All-cons}
use Rattle.std.proofs.lemmas.List.Sums.{take_while-cons}
use Rattle.std.specs.Prelude.{All, Some, None, Ok, Err, nat_le, take_while, ⊤}
use Rattle.std.specs.List.{list_all}
use Rattle.std.specs.declared.result.Result.{Result}
use Rattle.nk_lex.specs.declared.token.Token.{Token}
use Rattle.nk_lex.specs.declared.token.LexError.{LexError}
use Rattle.nk_lex.specs.declared.kind.Kind.TheVariants as kind
use Rattle.nk_lex.specs.declared.front.Front.{Front}
use Rattle.nk_lex.specs.declared.front.Front.TheVariants as front
use Rattle.nk_lex.specs.Classes.{is_digit, is_name_byte, is_name_start, is_white}
use Rattle.nk_lex.specs.Lex.{cut, front_of, go_on, largest, line_after, number_of, one_byte, scan, single_of, starts_with_byte, symbol_of, value_of, with_length, with_token, Scanned}
use Rattle.nk_lex.specs.Spans.{tokens_before_fault}
use Rattle.nk_lex.specs.Spelling.{IsName, IsWord}
use Rattle.nk_lex.proofs.Standing.{IsSymbol, inside, of_both}

-- a token that is a name has one
abbrev IsNamed : Token → Type 0
IsNamed t = t.kind ≡ kind.Name → IsName t.text

-- the front of a list that passes, passes
run_passes : (p : ℕ → Bool) (xs : List ℕ) → list_all p (take_while p xs) ≡ true
run_passes p [] = refl
run_passes p (x ∷ xs) = ap (list_all p) (take_while-cons p x xs) ∙ by_test (p x) refl (run_passes p xs)
  where
    by_test : (t : Bool) → p x ≡ t → list_all p (take_while p xs) ≡ true → list_all p (cond t (x ∷ take_while p xs) []) ≡ true
    by_test true e h = ap (λ b. b && list_all p (take_while p xs)) e ∙ h
    by_test false e h = refl

-- and is as long as it is
run_taken : (p : ℕ → Bool) (xs : List ℕ) → take (length (take_while p xs)) xs ≡ take_while p xs
run_taken p [] = refl
run_taken p (x ∷ xs) =
    ap (λ l. take (length l) (x ∷ xs)) (take_while-cons p x xs) ∙ by_test (p x) (run_taken p xs) ∙ sym (take_while-cons p x xs)
  where
    by_test : (t : Bool) → take (length (take_while p xs)) xs ≡ take_while p xs
        → take (length (cond t (x ∷ take_while p xs) [])) (x ∷ xs) ≡ cond t (x ∷ take_while p xs) []
    by_test true h = ap (λ l. x ∷ l) h
    by_test false h = refl

-- a lexeme that is a name is a word
abbrev HasWord : List ℕ → Front → Type 0
HasWord bytes (front.Name n) = IsWord (take n bytes)
HasWord bytes f = ⊤

-- a name's bytes
word_is : (b : ℕ) (rest : List ℕ) → is_name_start b ≡ true
    → IsWord (take (length (take_while is_name_byte rest) + 1) (b ∷ rest))
word_is b rest h =
    let one : length (take_while is_name_byte rest) + 1 ≡ suc (length (take_while is_name_byte rest)) = omega arith in
    subst (λ n. IsWord (take n (b ∷ rest))) (sym one)
    (h, ap (list_all is_name_byte) (run_taken is_name_byte rest) ∙ run_passes is_name_byte rest)

-- no symbol is a name
symbol_word : (bytes : List ℕ) (b : ℕ) (rest : List ℕ) → HasWord bytes (symbol_of b rest)
symbol_word bytes b rest =
    of_both (HasWord bytes) (b == 61) _ _ (of_both (HasWord bytes) (starts_with_byte 62 rest) _ _ tt tt)
    (of_both (HasWord bytes) (b == 58) _ _ (of_both (HasWord bytes) (starts_with_byte 61 rest) _ _ tt tt)
    (of_both (HasWord bytes) (b == 45) _ _ (of_both (HasWord bytes) (starts_with_byte 62 rest) _ _ tt tt)
    (of_both (HasWord bytes) (b == 46) _ _ (of_both (HasWord bytes) (starts_with_byte 46 rest) _ _ tt tt)
    (single (single_of b)))))
  where
    single : (o : _) → HasWord bytes (one_byte o)
    single (Some k) = tt
    single None = tt

front_word : (b : ℕ) (rest : List ℕ) → HasWord (b ∷ rest) (front_of b rest)
front_word b rest =
    of_both (HasWord (b ∷ rest)) (is_white b) _ _ tt
    (of_both (HasWord (b ∷ rest)) (b == 35) _ _ tt
    (by_test (is_name_start b) refl))
  where
    by_test : (t : Bool) → is_name_start b ≡ t
        → HasWord (b ∷ rest) (cond t (front.Name (length (take_while is_name_byte rest) + 1))
        (cond (is_digit b) (front.Number (length (take_while is_digit rest) + 1)) (symbol_of b rest)))
    by_test true h = word_is b rest h
    by_test false h = of_both (HasWord (b ∷ rest)) (is_digit b) _ _ tt (symbol_word (b ∷ rest) b rest)

-- what was cut is no name that isn't one
abbrev IsCutNamed : Result (ℕ × Option Token) LexError → Type 0
IsCutNamed (Ok p) = IfSome p.1 IsNamed
IsCutNamed (Err e) = ⊤

number_named : (digits : List ℕ) (at n line : ℕ) → IsCutNamed (with_length n (number_of digits at n line))
number_named digits at n line =
    of_both (λ r. IsCutNamed (with_length n r)) (nat_le (value_of digits) largest) _ _ (λ e. absurd cc) tt

cut_named : (f : Front) (line at : ℕ) (bytes : List ℕ) → HasWord bytes f → IsSymbol f → IsCutNamed (cut f line at bytes)
cut_named (front.Blank n) line at bytes w s = tt
cut_named (front.Name n) line at bytes w s = λ e. (w, e)
cut_named (front.Number n) line at bytes w s = number_named (take n bytes) at n line
cut_named (front.Symbol n k) line at bytes w s = λ e. absurd (s.0 e)
cut_named front.Bad line at bytes w s = tt

with_named : (o : Option Token) (r : Scanned) → IfSome o IsNamed → All IsNamed r.0 → All IsNamed (with_token o r).0
with_named None r c h = h
with_named (Some t) r c h = All-cons IsNamed t r.0 c h

joined : (r : Result (ℕ × Option Token) LexError) (next : ℕ → Scanned) → IsCutNamed r → ((n : ℕ) → All IsNamed (next n).0)
    → All IsNamed (go_on r next).0
joined (Ok p) next c h = with_named p.1 (next p.0) c (h p.0)
joined (Err e) next c h = All-nil IsNamed

all_named : (xs : List ℕ) (skip line at : ℕ) → All IsNamed (scan xs skip line at).0
all_named [] skip line at = All-nil IsNamed
all_named (b ∷ rest) (suc skip) line at = all_named rest skip line (at + 1)
all_named (b ∷ rest) zero line at =
    joined (cut (front_of b rest) line at (b ∷ rest)) (λ n. scan rest (n - 1) (line_after line b) (at + 1))
    (cut_named (front_of b rest) line at (b ∷ rest) (front_word b rest) (inside b rest).symbol)
    (λ n. all_named rest (n - 1) (line_after line b) (at + 1))

pub names_are_names : (text : List ℕ) → All (λ t. t.kind ≡ kind.Name → IsName t.text) (tokens_before_fault text)
names_are_names text = all_named text 0 1 0
