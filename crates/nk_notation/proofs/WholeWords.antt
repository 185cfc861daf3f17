-- A word that stands whole at the front of the bytes that come next.
use Rattle.std.proofs.Common.{◌≡◌, ◌<◌, ◌≤◌, ◌+◌, ◌-◌, ◌&&◌, ℕ, suc, Bool, true, false, cond, List, [], ◌∷◌, ◌++◌, length, take, drop, get_or, refl, sym, ap, subst, ◌∙◌, arith, append_assoc}
use Rattle.std.proofs.lemmas.List.{length-take, take-append-drop, take_all}
use Rattle.std.proofs.lemmas.List.Sums.{take_while-cons}
use Rattle.std.specs.Prelude.{flat_map, take_while}
use Rattle.std.specs.List.{list_all}
use Rattle.nk_lex.proofs.Digits.{StopsAt}
use Rattle.nk_notation.specs.Lexemes.{Word, begins_word, cut_text, is_run_byte, lexemes_of, longest_word, without_long}
use Rattle.nk_notation.proofs.Cuts.{front_cut, short_word}

-- a run of this length ends before the bytes do: all of it passes, and what comes after it doesn't, whatever comes after the bytes
abbrev EndsRun : (ℕ → Bool) → (xs more run : List ℕ) → Type 0
EndsRun p xs more run = length run < length xs → (list_all p (take (length run) xs) ≡ true) × StopsAt p (drop (length run) xs ++ more)

run_by : (p : ℕ → Bool) (x : ℕ) (xs more run : List ℕ) → EndsRun p xs more run → (t : Bool) → p x ≡ t → EndsRun p (x ∷ xs) more (cond t (x ∷ run) [])
run_by p x xs more run ends true e = λ lt.
    let rest = ends (omega arith) in (ap (λ t. t && list_all p (take (length run) xs)) e ∙ rest.0, rest.1)
run_by p x xs more run ends false e = λ lt. (refl, e)

run_ends : (p : ℕ → Bool) (xs more : List ℕ) → EndsRun p xs more (take_while p xs)
run_ends p [] more = λ lt. absurd (omega arith)
run_ends p (x ∷ xs) more =
    subst (EndsRun p (x ∷ xs) more) (sym (take_while-cons p x xs)) (run_by p x xs more (take_while p xs) (run_ends p xs more) (p x) refl)

-- the lexemes where such a word begins a text
whole_word : (b : ℕ) (rest more : List ℕ) (n : ℕ) → begins_word b ≡ true → n ≡ length (take_while is_run_byte rest) + 1
    → n < length (b ∷ rest) → n ≤ longest_word → lexemes_of (b ∷ rest ++ more) ≡ Word (take n (b ∷ rest)) ∷ lexemes_of (drop n (b ∷ rest) ++ more)
whole_word b rest more n begins is lt le =
    let k = length (take_while is_run_byte rest) in
    let run = run_ends is_run_byte rest more (omega arith) in
    let short : length (b ∷ take k rest) ≤ longest_word = omega (arith, length-take k rest) in
    let front : lexemes_of ((b ∷ take k rest) ++ (drop k rest ++ more)) ≡ Word (b ∷ take k rest) ∷ lexemes_of (drop k rest ++ more)
    = ap (flat_map without_long) (front_cut (b ∷ take k rest) (drop k rest ++ more) (begins, run.0) run.1)
    ∙ short_word (b ∷ take k rest) (cut_text false (drop k rest ++ more)) short in
    let whole : rest ++ more ≡ take k rest ++ (drop k rest ++ more)
    = ap (λ v. v ++ more) (sym (take-append-drop k rest)) ∙ append_assoc (take k rest) (drop k rest) more in
    let same : suc k ≡ n = omega arith in
    subst (λ m. lexemes_of (b ∷ rest ++ more) ≡ Word (take m (b ∷ rest)) ∷ lexemes_of (drop m (b ∷ rest) ++ more)) same
    (ap (λ v. lexemes_of (b ∷ v)) whole ∙ front)

-- the lexemes where such a word begins a text, with the bytes in one list
pub front_word : (bytes more : List ℕ) (n : ℕ) → 1 ≤ length bytes → begins_word (get_or bytes 0 0) ≡ true
    → n ≡ length (take_while is_run_byte (take (length bytes - 1) (drop 1 bytes))) + 1 → n < length bytes → n ≤ longest_word
    → lexemes_of (bytes ++ more) ≡ Word (take n bytes) ∷ lexemes_of (drop n bytes ++ more)
front_word [] more n some begins is lt le = absurd (omega arith)
front_word (b ∷ rest) more n some begins is lt le =
    whole_word b rest more n begins (is ∙ ap (λ v. length (take_while is_run_byte v) + 1) (take_all (length (b ∷ rest) - 1) rest (omega arith))) lt le
