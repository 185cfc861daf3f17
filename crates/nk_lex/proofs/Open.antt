-- Whether the lexeme at the front is open, by what it is.
use Rattle.std.proofs.Common.{◌≡◌, ◌+◌, ◌==◌, ◌&&◌, ℕ, suc, List, [], ◌∷◌, Bool, true, false, length, refl, ◌∙◌, ap, arith, cond}
use Rattle.std.proofs.lemmas.Bool.Decides.{nat_tests}
use Rattle.std.specs.Prelude.{nat_lt, take_while, Option, Some, None}
use Rattle.nk_lex.specs.declared.kind.Kind.{Kind}
use Rattle.std.specs.List.{list_all, prefix_len}
use Rattle.nk_lex.specs.declared.front.Front.{Front}
use Rattle.nk_lex.specs.declared.front.Front.TheVariants as front
use Rattle.nk_lex.specs.Classes.{is_digit, is_name_byte, is_name_start, is_white, not_line_feed}
use Rattle.nk_lex.specs.Lex.{front_of, one_byte, single_of, starts_with_byte, symbol_of}
use Rattle.nk_lex.specs.Pieces.{begins_longer, is_empty, is_open}
use Rattle.nk_lex.proofs.Standing.{of_both, run_length}

-- a run takes all bytes exactly where it has as many
all_run : (p : ℕ → Bool) (xs : List ℕ) → nat_lt (length xs) (length (take_while p xs) + 1) ≡ list_all p xs
all_run p xs = ap (λ n. nat_lt (length xs) (n + 1)) (run_length p xs) ∙ by_length xs
  where
    by_length : (xs : List ℕ) → nat_lt (length xs) (prefix_len p xs + 1) ≡ list_all p xs
    by_length [] = refl
    by_length (x ∷ xs) = by_test (p x) (by_length xs)
      where
        by_test : (t : Bool) → nat_lt (length xs) (prefix_len p xs + 1) ≡ list_all p xs
            → nat_lt (suc (length xs)) (cond t (1 + prefix_len p xs) 0 + 1) ≡ (t && list_all p xs)
        by_test true h =
            let one : nat_lt (suc (length xs)) (1 + prefix_len p xs + 1) ≡ nat_lt (length xs) (prefix_len p xs + 1)
            = grind (arith, nat_tests) in
            one ∙ h
        by_test false h = grind (arith, nat_tests)

-- whether a lexeme is open, by what stands at the front
abbrev pub open_front : ℕ → List ℕ → Front → Bool
open_front b rest (front.Blank n) = nat_lt (length rest) n
open_front b rest (front.Name n) = nat_lt (length rest) n
open_front b rest (front.Number n) = nat_lt (length rest) n
open_front b rest (front.Symbol n k) = cond (begins_longer b) (is_empty rest) false
open_front b rest front.Bad = cond (begins_longer b) (is_empty rest) false

-- a symbol, or none, is judged by its byte
one_open : (b : ℕ) (rest : List ℕ) (o : Option Kind) → open_front b rest (one_byte o) ≡ cond (begins_longer b) (is_empty rest) false
one_open b rest (Some k) = refl
one_open b rest None = refl

symbol_open : (b : ℕ) (rest : List ℕ) → open_front b rest (symbol_of b rest) ≡ cond (begins_longer b) (is_empty rest) false
symbol_open b rest =
    of_both P (b == 61) _ _ (of_both P (starts_with_byte 62 rest) _ _ refl refl)
    (of_both P (b == 58) _ _ (of_both P (starts_with_byte 61 rest) _ _ refl refl)
    (of_both P (b == 45) _ _ (of_both P (starts_with_byte 62 rest) _ _ refl refl)
    (of_both P (b == 46) _ _ (of_both P (starts_with_byte 46 rest) _ _ refl refl)
    (one_open b rest (single_of b)))))
  where
    P : Front → Type 0
    P f = open_front b rest f ≡ cond (begins_longer b) (is_empty rest) false

by_tests : (b : ℕ) (rest : List ℕ) (w c s d : Bool) (x1 x2 x3 x4 : Bool) (f0 f1 f2 f3 f4 : Front) → w ≡ false
    → open_front b rest f1 ≡ x1 → open_front b rest f2 ≡ x2 → open_front b rest f3 ≡ x3 → open_front b rest f4 ≡ x4
    → open_front b rest (cond w f0 (cond c f1 (cond s f2 (cond d f3 f4)))) ≡ cond w false (cond c x1 (cond s x2 (cond d x3 x4)))
by_tests b rest true c s d x1 x2 x3 x4 f0 f1 f2 f3 f4 h e1 e2 e3 e4 = absurd cc
by_tests b rest false true s d x1 x2 x3 x4 f0 f1 f2 f3 f4 h e1 e2 e3 e4 = e1
by_tests b rest false false true d x1 x2 x3 x4 f0 f1 f2 f3 f4 h e1 e2 e3 e4 = e2
by_tests b rest false false false true x1 x2 x3 x4 f0 f1 f2 f3 f4 h e1 e2 e3 e4 = e3
by_tests b rest false false false false x1 x2 x3 x4 f0 f1 f2 f3 f4 h e1 e2 e3 e4 = e4

-- a lexeme is open by what stands at the front, where that is no white space
pub open_by : (b : ℕ) (rest : List ℕ) (f : Front) → f ≡ front_of b rest → is_white b ≡ false → open_front b rest f ≡ is_open b rest
open_by b rest f e white =
    ap (open_front b rest) e
    ∙ by_tests b rest (is_white b) (b == 35) (is_name_start b) (is_digit b) _ _ _ _ (front.Blank 1) _ _ _ (symbol_of b rest) white
    (all_run not_line_feed rest) (all_run is_name_byte rest) (all_run is_digit rest) (symbol_open b rest)

-- a symbol that another byte makes longer is open where it stands alone
pub alone_open : (b : ℕ) (rest : List ℕ) → begins_longer b ≡ true → (length rest == 0) ≡ cond (begins_longer b) (is_empty rest) false
alone_open b [] h = rw h refl
alone_open b (x ∷ xs) h = rw h (grind (arith, nat_tests))
