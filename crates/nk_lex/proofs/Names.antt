-- The texts of tokens are bytes of names, so they are text.
use Rattle.std.proofs.Common.{◌≡◌, ◌<◌, ◌+◌, ◌-◌, ◌==◌, ℕ, zero, suc, List, [], ◌∷◌, ◌++◌, Bool, true, false, length, take, drop, refl, sym, ap, arith, cond, Option, subst, get_or}
use Rattle.std.proofs.lemmas.Bool.Decides.{nat_tests}
use Rattle.std.proofs.Math.ListN.{get_or-append}
use Rattle.std.proofs.lemmas.List.{length-append}
use Rattle.std.proofs.lemmas.List.Elements.{All-nil}
use Rattle.std.proofs.lemmas.Str.{IsUtf8-from_ascii}
use Rattle.std.specs.Prelude.{Some, None, Ok, Err, take_while, nat_le, ⊤, IsUtf8, IsAscii}
use Rattle.std.specs.List.{All, prefix_len}
use Rattle.std.specs.declared.result.Result.{Result}
use Rattle.nk_lex.specs.declared.token.Token.{Token}
use Rattle.nk_lex.specs.declared.token.LexError.{LexError}
use Rattle.nk_lex.specs.declared.token.LexError.TheVariants as error
use Rattle.nk_lex.specs.declared.kind.Kind.{Kind}
use Rattle.nk_lex.specs.declared.kind.Kind.TheVariants as kind
use Rattle.nk_lex.specs.declared.front.Front.{Front}
use Rattle.nk_lex.specs.declared.front.Front.TheVariants as front
use Rattle.nk_lex.specs.Classes.{is_digit, is_name_byte, is_name_start, is_white}
use Rattle.nk_lex.specs.Lex.{Scanned, after, cut, front_of, go_on, largest, line_after, one_byte, scan, single_of, starts_with_byte, token, value_of, with_length}
use Rattle.nk_lex.specs.Spans.{tokens_before_fault}
use Rattle.nk_lex.proofs.Standing.{all_cons, of_both, run_length}

ascii_nil : IsAscii []
ascii_nil i = omega arith

ascii_cons : (b : ℕ) (bs : List ℕ) → b < 128 → IsAscii bs → IsAscii (b ∷ bs)
ascii_cons b bs low h zero = low
ascii_cons b bs low h (suc i) = h i

low_start : (b : ℕ) → is_name_start b ≡ true → b < 128
low_start b h = grind (arith, nat_tests)

low_name : (b : ℕ) → is_name_byte b ≡ true → b < 128
low_name b h = grind (arith, nat_tests)

-- a run of bytes of names
prefix_ascii : (xs : List ℕ) → IsAscii (take (prefix_len is_name_byte xs) xs)
prefix_ascii [] = ascii_nil
prefix_ascii (x ∷ xs) = by_test (is_name_byte x) refl (prefix_ascii xs)
  where
    by_test : (t : Bool) → is_name_byte x ≡ t → IsAscii (take (prefix_len is_name_byte xs) xs)
        → IsAscii (take (cond t (1 + prefix_len is_name_byte xs) 0) (x ∷ xs))
    by_test true h rest =
        let one : 1 + prefix_len is_name_byte xs ≡ suc (prefix_len is_name_byte xs) = omega arith in
        rw one (ascii_cons x (take (prefix_len is_name_byte xs) xs) (low_name x h) rest)
    by_test false h rest = ascii_nil

run_ascii : (b : ℕ) (rest : List ℕ) → is_name_start b ≡ true
    → IsAscii (take (length (take_while is_name_byte rest) + 1) (b ∷ rest))
run_ascii b rest h =
    let more : length (take_while is_name_byte rest) + 1 ≡ suc (prefix_len is_name_byte rest)
    = omega (arith, run_length is_name_byte rest) in
    rw more (ascii_cons b (take (prefix_len is_name_byte rest) rest) (low_start b h) (prefix_ascii rest))

-- a name at the front is text
abbrev IsNameFront : List ℕ → Front → Type 0
IsNameFront bytes (front.Name n) = IsAscii (take n bytes)
IsNameFront bytes f = ⊤

one_byte_names : (bytes : List ℕ) (o : Option Kind) → IsNameFront bytes (one_byte o)
one_byte_names bytes (Some k) = tt
one_byte_names bytes None = tt

front_names : (b : ℕ) (rest : List ℕ) → IsNameFront (b ∷ rest) (front_of b rest)
front_names b rest =
    of_both P (is_white b) _ _ tt
    (of_both P (b == 35) _ _ tt
    (by_start (is_name_start b) refl _
    (of_both P (is_digit b) _ _ tt
    (of_both P (b == 61) _ _ (of_both P (starts_with_byte 62 rest) _ _ tt tt)
    (of_both P (b == 58) _ _ (of_both P (starts_with_byte 61 rest) _ _ tt tt)
    (of_both P (b == 45) _ _ (of_both P (starts_with_byte 62 rest) _ _ tt tt)
    (of_both P (b == 46) _ _ (of_both P (starts_with_byte 46 rest) _ _ tt tt)
    (one_byte_names (b ∷ rest) (single_of b)))))))))
  where
    P : Front → Type 0
    P f = IsNameFront (b ∷ rest) f

    by_start : (t : Bool) → is_name_start b ≡ t → (other : Front) → IsNameFront (b ∷ rest) other
        → IsNameFront (b ∷ rest) (cond t (front.Name (length (take_while is_name_byte rest) + 1)) other)
    by_start true h other o = run_ascii b rest h
    by_start false h other o = o

-- a name at the front is UTF-8
pub a_name_is_text : (bytes : List ℕ) (n : ℕ) → 0 < length bytes → front.Name n ≡ front_of (get_or bytes 0 0) (drop 1 bytes)
    → IsUtf8 (take n bytes)
a_name_is_text [] n some e = absurd (omega arith)
a_name_is_text (b ∷ rest) n some e =
    IsUtf8-from_ascii (take n (b ∷ rest)) (subst (IsNameFront (b ∷ rest)) (sym e) (front_names b rest))

-- the token of a lexeme has a text of bytes of names
abbrev IsCutName : Result (ℕ × Option Token) LexError → Type 0
IsCutName (Ok (n, Some t)) = IsAscii t.text
IsCutName (Ok (n, None)) = ⊤
IsCutName (Err e) = ⊤

cut_name : (f : Front) (line at : ℕ) (bytes : List ℕ) → IsNameFront bytes f → IsCutName (cut f line at bytes)
cut_name (front.Blank n) line at bytes h = tt
cut_name (front.Name n) line at bytes h = h
cut_name (front.Number n) line at bytes h =
    of_both (λ r. IsCutName (with_length n r)) (nat_le (value_of (take n bytes)) largest)
    (Ok (token kind.Number at n line (value_of (take n bytes)) [])) (Err (error.NumberTooLarge line)) ascii_nil tt
cut_name (front.Symbol n k) line at bytes h = ascii_nil
cut_name front.Bad line at bytes h = tt

-- one lexeme more in front
one_more : (r : Result (ℕ × Option Token) LexError) (next : ℕ → Scanned) → IsCutName r
    → ((n : ℕ) → All (λ t. IsAscii t.text) (next n).0) → All (λ t. IsAscii t.text) (go_on r next).0
one_more (Err e) next c a = All-nil _
one_more (Ok (n, None)) next c a = a n
one_more (Ok (n, Some t)) next c a = all_cons (λ t. IsAscii t.text) t (next n).0 c (a n)

scan_names : (xs : List ℕ) (skip line at : ℕ) → All (λ t. IsAscii t.text) (scan xs skip line at).0
scan_names [] skip line at = All-nil _
scan_names (b ∷ rest) (suc skip) line at = scan_names rest skip line (at + 1)
scan_names (b ∷ rest) zero line at =
    one_more (cut (front_of b rest) line at (b ∷ rest)) (λ n. scan rest (n - 1) (line_after line b) (at + 1))
    (cut_name (front_of b rest) line at (b ∷ rest) (front_names b rest))
    (λ n. scan_names rest (n - 1) (line_after line b) (at + 1))

-- the texts of all tokens
pub texts_are_utf8 : (text : List ℕ) → All (λ t. IsUtf8 t.text) (tokens_before_fault text)
texts_are_utf8 text k d h =
    IsUtf8-from_ascii (get_or (tokens_before_fault text) k d).text (scan_names text 0 1 0 k d h)

-- tokens that begin those of a text have texts
pub front_is_utf8 : (text : List ℕ) (ts : List Token) (r : Scanned) → after ts r ≡ scan text 0 1 0
    → All (λ t. IsUtf8 t.text) ts
front_is_utf8 text ts r e k d h =
    let same : ts ++ r.0 ≡ tokens_before_fault text = ap (λ s. s.0) e in
    let less : k < length (ts ++ r.0) = omega (arith, length-append ts r.0) in
    let all : k < length (tokens_before_fault text) = subst (λ us. k < length us) same less in
    let one : IsUtf8 (get_or (tokens_before_fault text) k d).text = texts_are_utf8 text k d all in
    let there : IsUtf8 (get_or (ts ++ r.0) k d).text
    = subst (λ us. IsUtf8 (get_or us k d).text) (sym same) one in
    subst (λ t. IsUtf8 t.text) (get_or-append ts r.0 d k h) there
