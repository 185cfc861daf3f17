-- A text of lexemes is cut into their tokens.
use Rattle.std.proofs.Common.{◌≡◌, ◌≤◌, ◌+◌, ◌-◌, ◌==◌, ◌&&◌, ℕ, suc, List, [], ◌∷◌, ◌++◌, Bool, true, false, length, take, refl, sym, ◌∙◌, ap, arith, cond, Option, decimal}
use Rattle.std.proofs.lemmas.Bool.Decides.{nat_tests}
use Rattle.std.proofs.Math.Seq.{take-append_seam, drop-append_seam}
use Rattle.std.proofs.lemmas.List.{length-append}
use Rattle.std.specs.Prelude.{Some, None, Ok, take_while, nat_le}
use Rattle.std.specs.declared.result.Result.{Result}
use Rattle.nk_lex.specs.declared.token.Token.{Token}
use Rattle.nk_lex.specs.declared.token.LexError.{LexError}
use Rattle.nk_lex.specs.declared.token.LexError.TheVariants as error
use Rattle.nk_lex.specs.declared.kind.Kind.TheVariants as kind
use Rattle.nk_lex.specs.declared.front.Front.TheVariants as front
use Rattle.nk_lex.specs.Classes.{is_digit, is_name_byte, is_name_start, is_white}
use Rattle.nk_lex.specs.Kinds.{kind_of_name}
use Rattle.nk_lex.specs.Lex.{cut, front_of, go_on, largest, line_after, number_of, scan, token, value_of, with_length, with_token, tokens_of, lex_result}
use Rattle.nk_lex.specs.Spelling.{Sign, plus, semicolon, star, tilde, open_parenthesis, close_parenthesis, equal, becomes, fat_arrow, arrow, colon, comma, slash, dots, open_bracket, close_bracket, sign_bytes, sign_kind, Lexeme, space, line_feed, word, numeral, sign, text_of, tokens_from, IsWord, is_colon, begins_with_equal, IsApart, AreSeparate}
use Rattle.nk_lex.proofs.Steps.{skipped}
use Rattle.nk_lex.proofs.Digits.{StopsAt, run_is, Digits, digits_of}

-- what is cut off as a whole, and then the rest
one_cut : (b : ℕ) (bs r : List ℕ) (line at : ℕ) (t : Option Token)
    → cut (front_of b (bs ++ r)) line at (b ∷ bs ++ r) ≡ Ok (suc (length bs), t)
    → scan (b ∷ bs ++ r) 0 line at ≡ with_token t (scan r 0 (line_after line b) (at + suc (length bs)))
one_cut b bs r line at t e =
    let fits : length bs ≤ length (bs ++ r) = omega (arith, length-append bs r) in
    let places : at + 1 + length bs ≡ at + suc (length bs) = omega arith in
    let one : suc (length bs) - 1 ≡ length bs = omega arith in
    ap (λ c. go_on c (λ n. scan (bs ++ r) (n - 1) (line_after line b) (at + 1))) e
    ∙ ap (λ n. with_token t (scan (bs ++ r) n (line_after line b) (at + 1))) one
    ∙ ap (with_token t) (skipped (bs ++ r) (length bs) (line_after line b) (at + 1) fits
    ∙ ap (λ l. scan l 0 (line_after line b) (at + 1 + length bs)) (drop-append_seam bs r)
    ∙ ap (scan r 0 (line_after line b)) places)

-- which of the first tests passes
third : {X : Type 0} (t u v : Bool) (x y z w : X) → t ≡ false → u ≡ false → v ≡ true
    → cond t x (cond u y (cond v z w)) ≡ z
third t u v x y z w e f g = rw (e, f, g) refl

fourth : {X : Type 0} (s t u v : Bool) (a x y z w : X) → s ≡ false → t ≡ false → u ≡ false → v ≡ true
    → cond s a (cond t x (cond u y (cond v z w))) ≡ z
fourth s t u v a x y z w d e f g = rw (d, e, f, g) refl

-- the bytes of a run of this length
taken : (b : ℕ) (bs r : List ℕ) → take (suc (length bs)) (b ∷ bs ++ r) ≡ b ∷ bs
taken b bs r = ap (λ l. b ∷ l) (take-append_seam bs r)

pub name_front : (b : ℕ) (rest : List ℕ) → is_name_start b ≡ true
    → front_of b rest ≡ front.Name (length (take_while is_name_byte rest) + 1)
name_front b rest h =
    third (is_white b) (b == 35) (is_name_start b) _ _ _ _ (no_white b h) (no_comment b h) h
  where
    no_white : (b : ℕ) → is_name_start b ≡ true → is_white b ≡ false
    no_white b h = grind (arith, nat_tests)

    no_comment : (b : ℕ) → is_name_start b ≡ true → (b == 35) ≡ false
    no_comment b h = grind (arith, nat_tests)

pub digit_front : (b : ℕ) (rest : List ℕ) → is_digit b ≡ true
    → front_of b rest ≡ front.Number (length (take_while is_digit rest) + 1)
digit_front b rest h =
    fourth (is_white b) (b == 35) (is_name_start b) (is_digit b) _ _ _ _ _ (no_white b h) (no_comment b h) (no_start b h) h
  where
    no_white : (b : ℕ) → is_digit b ≡ true → is_white b ≡ false
    no_white b h = grind (arith, nat_tests)

    no_comment : (b : ℕ) → is_digit b ≡ true → (b == 35) ≡ false
    no_comment b h = grind (arith, nat_tests)

    no_start : (b : ℕ) → is_digit b ≡ true → is_name_start b ≡ false
    no_start b h = grind (arith, nat_tests)

-- a run of bytes after the first, and one more
run_length : (p : ℕ → Bool) (bs r : List ℕ) → take_while p (bs ++ r) ≡ bs
    → length (take_while p (bs ++ r)) + 1 ≡ suc (length bs)
run_length p bs r e = omega (arith, ap length e)

-- no name and no number begins with a line feed
same_line : (b line : ℕ) → (b == 10) ≡ false → line_after line b ≡ line
same_line b line h = ap (λ t. cond t (line + 1) line) h

word_cut : (w r : List ℕ) (line at : ℕ) → IsWord w → StopsAt is_name_byte r
    → scan (w ++ r) 0 line at
    ≡ with_token (Some (token (kind_of_name w) at (length w) line 0 w)) (scan r 0 line (at + length w))
word_cut [] r line at h s = absurd h
word_cut (b ∷ bs) r line at h s =
    one_cut b bs r line at (Some (token (kind_of_name (b ∷ bs)) at (length (b ∷ bs)) line 0 (b ∷ bs))) cut_is
    ∙ ap (λ l. with_token (Some (token (kind_of_name (b ∷ bs)) at (length (b ∷ bs)) line 0 (b ∷ bs))) (scan r 0 l (at + length (b ∷ bs)))) (same_line b line (no_feed b h.0))
  where
    no_feed : (b : ℕ) → is_name_start b ≡ true → (b == 10) ≡ false
    no_feed b h = grind (arith, nat_tests)

    cut_is : cut (front_of b (bs ++ r)) line at (b ∷ bs ++ r)
        ≡ Ok (suc (length bs), Some (token (kind_of_name (b ∷ bs)) at (suc (length bs)) line 0 (b ∷ bs)))
    cut_is =
        ap (λ f. cut f line at (b ∷ bs ++ r)) (name_front b (bs ++ r) h.0)
        ∙ ap (λ n. cut (front.Name n) line at (b ∷ bs ++ r)) (run_length is_name_byte bs r (run_is is_name_byte bs r h.1 s))
        ∙ ap (λ w. Ok (suc (length bs), Some (token (kind_of_name w) at (suc (length bs)) line 0 w))) (taken b bs r)

-- a number of this value
small_number : (ds : List ℕ) (at len line n : ℕ) → value_of ds ≡ n → n ≤ largest
    → number_of ds at len line ≡ Ok (token kind.Number at len line n [])
small_number ds at len line n e le =
    ap (λ t. cond t (Ok (token kind.Number at len line (value_of ds) [])) (Err' (error.NumberTooLarge line))) (within (value_of ds) (omega (arith, e)))
    ∙ ap (λ v. Ok (token kind.Number at len line v [])) e
  where
    Err' : LexError → Result Token LexError
    Err' e = Result.Err e

    within : (v : ℕ) → v ≤ largest → nat_le v largest ≡ true
    within v le = grind (arith, nat_tests)

number_cut : (n : ℕ) (ds r : List ℕ) (line at : ℕ) → n ≤ largest → Digits n ds → StopsAt is_digit r
    → scan (ds ++ r) 0 line at
    ≡ with_token (Some (token kind.Number at (length ds) line n [])) (scan r 0 line (at + length ds))
number_cut n ds r line at le d s =
    ap (λ l. scan (l ++ r) 0 line at) d.are
    ∙ one_cut d.first d.rest r line at (Some (token kind.Number at (length (d.first ∷ d.rest)) line n [])) cut_is
    ∙ ap (λ l. with_token (Some (token kind.Number at (length (d.first ∷ d.rest)) line n [])) (scan r 0 l (at + length (d.first ∷ d.rest)))) (same_line d.first line (no_feed d.first d.first_digit))
    ∙ ap (λ l. with_token (Some (token kind.Number at (length l) line n [])) (scan r 0 line (at + length l))) (sym d.are)
  where
    no_feed : (b : ℕ) → is_digit b ≡ true → (b == 10) ≡ false
    no_feed b h = grind (arith, nat_tests)

    cut_is : cut (front_of d.first (d.rest ++ r)) line at (d.first ∷ d.rest ++ r)
        ≡ Ok (suc (length d.rest), Some (token kind.Number at (suc (length d.rest)) line n []))
    cut_is =
        ap (λ f. cut f line at (d.first ∷ d.rest ++ r)) (digit_front d.first (d.rest ++ r) d.first_digit)
        ∙ ap (λ k. cut (front.Number k) line at (d.first ∷ d.rest ++ r)) (run_length is_digit d.rest r (run_is is_digit d.rest r d.digits s))
        ∙ ap (λ l. with_length (suc (length d.rest)) (number_of l at (suc (length d.rest)) line)) (taken d.first d.rest r)
        ∙ ap (with_length (suc (length d.rest))) (small_number (d.first ∷ d.rest) at (suc (length d.rest)) line n (ap value_of (sym d.are) ∙ d.value) le)

-- the byte that would make a symbol longer
abbrev longer : Sign → ℕ → Bool
longer equal b = b == 62
longer colon b = b == 61
longer s b = false

-- the token of a symbol
abbrev token_of_sign : Sign → (line at : ℕ) → Option Token
token_of_sign s line at = Some (token (sign_kind s) at (length (sign_bytes s)) line 0 [])

sign_cut : (s : Sign) (r : List ℕ) (line at : ℕ) → StopsAt (longer s) r
    → scan (sign_bytes s ++ r) 0 line at ≡ with_token (token_of_sign s line at) (scan r 0 line (at + length (sign_bytes s)))
sign_cut plus r line at s = one_cut 43 [] r line at (token_of_sign plus line at) refl
sign_cut semicolon r line at s = one_cut 59 [] r line at (token_of_sign semicolon line at) refl
sign_cut star r line at s = one_cut 42 [] r line at (token_of_sign star line at) refl
sign_cut tilde r line at s = one_cut 126 [] r line at (token_of_sign tilde line at) refl
sign_cut open_parenthesis r line at s = one_cut 40 [] r line at (token_of_sign open_parenthesis line at) refl
sign_cut close_parenthesis r line at s = one_cut 41 [] r line at (token_of_sign close_parenthesis line at) refl
sign_cut equal [] line at s = one_cut 61 [] [] line at (token_of_sign equal line at) refl
sign_cut equal (b ∷ r) line at s =
    one_cut 61 [] (b ∷ r) line at (token_of_sign equal line at)
    (ap (λ t. cut (cond t (front.Symbol 2 kind.FatArrow) (front.Symbol 1 kind.Equal)) line at (61 ∷ b ∷ r)) s)
sign_cut becomes r line at s = one_cut 58 (61 ∷ []) r line at (token_of_sign becomes line at) refl
sign_cut fat_arrow r line at s = one_cut 61 (62 ∷ []) r line at (token_of_sign fat_arrow line at) refl
sign_cut arrow r line at s = one_cut 45 (62 ∷ []) r line at (token_of_sign arrow line at) refl
sign_cut colon [] line at s = one_cut 58 [] [] line at (token_of_sign colon line at) refl
sign_cut colon (b ∷ r) line at s =
    one_cut 58 [] (b ∷ r) line at (token_of_sign colon line at)
    (ap (λ t. cut (cond t (front.Symbol 2 kind.Assign) (front.Symbol 1 kind.Colon)) line at (58 ∷ b ∷ r)) s)
sign_cut comma r line at s = one_cut 44 [] r line at (token_of_sign comma line at) refl
sign_cut slash r line at s = one_cut 47 [] r line at (token_of_sign slash line at) refl
sign_cut dots r line at s = one_cut 46 (46 ∷ []) r line at (token_of_sign dots line at) refl
sign_cut open_bracket r line at s = one_cut 91 [] r line at (token_of_sign open_bracket line at) refl
sign_cut close_bracket r line at s = one_cut 93 [] r line at (token_of_sign close_bracket line at) refl

-- ---- what stands after a lexeme

-- the first byte of a symbol
record Leads (s : Sign) : Type 0 where
  first : ℕ
  rest : List ℕ
  are : sign_bytes s ≡ first ∷ rest
  no_name : is_name_byte first ≡ false
  no_digit : is_digit first ≡ false
  no_greater : (first == 62) ≡ false
  no_equal : (first == 61) ≡ begins_with_equal s

leads : (s : Sign) → Leads s
leads plus = record { first = 43; rest = []; are = refl; no_name = refl; no_digit = refl; no_greater = refl; no_equal = refl }
leads semicolon = record { first = 59; rest = []; are = refl; no_name = refl; no_digit = refl; no_greater = refl; no_equal = refl }
leads star = record { first = 42; rest = []; are = refl; no_name = refl; no_digit = refl; no_greater = refl; no_equal = refl }
leads tilde = record { first = 126; rest = []; are = refl; no_name = refl; no_digit = refl; no_greater = refl; no_equal = refl }
leads open_parenthesis = record { first = 40; rest = []; are = refl; no_name = refl; no_digit = refl; no_greater = refl; no_equal = refl }
leads close_parenthesis = record { first = 41; rest = []; are = refl; no_name = refl; no_digit = refl; no_greater = refl; no_equal = refl }
leads equal = record { first = 61; rest = []; are = refl; no_name = refl; no_digit = refl; no_greater = refl; no_equal = refl }
leads becomes = record { first = 58; rest = 61 ∷ []; are = refl; no_name = refl; no_digit = refl; no_greater = refl; no_equal = refl }
leads fat_arrow = record { first = 61; rest = 62 ∷ []; are = refl; no_name = refl; no_digit = refl; no_greater = refl; no_equal = refl }
leads arrow = record { first = 45; rest = 62 ∷ []; are = refl; no_name = refl; no_digit = refl; no_greater = refl; no_equal = refl }
leads colon = record { first = 58; rest = []; are = refl; no_name = refl; no_digit = refl; no_greater = refl; no_equal = refl }
leads comma = record { first = 44; rest = []; are = refl; no_name = refl; no_digit = refl; no_greater = refl; no_equal = refl }
leads slash = record { first = 47; rest = []; are = refl; no_name = refl; no_digit = refl; no_greater = refl; no_equal = refl }
leads dots = record { first = 46; rest = 46 ∷ []; are = refl; no_name = refl; no_digit = refl; no_greater = refl; no_equal = refl }
leads open_bracket = record { first = 91; rest = []; are = refl; no_name = refl; no_digit = refl; no_greater = refl; no_equal = refl }
leads close_bracket = record { first = 93; rest = []; are = refl; no_name = refl; no_digit = refl; no_greater = refl; no_equal = refl }

-- bytes whose first one fails
stop : (p : ℕ → Bool) (bs r rest : List ℕ) (b : ℕ) → bs ≡ b ∷ rest → p b ≡ false → StopsAt p (bs ++ r)
stop p [] r rest b e h = absurd cc
stop p (c ∷ bs) r rest b e h = (let same : c ≡ b = cc in ap p same) ∙ h

-- no symbol goes on with a byte that is neither `>` nor `=`
not_longer : (s : Sign) (b : ℕ) → (b == 62) ≡ false → (b == 61) ≡ false → longer s b ≡ false
not_longer equal b h k = h
not_longer colon b h k = k
not_longer s b h k = refl

-- a symbol goes on with no other one from which it stands apart
sign_apart : (s : Sign) (b : ℕ) (t : Bool) → (b == 62) ≡ false → (b == 61) ≡ t → (is_colon s && t) ≡ false → longer s b ≡ false
sign_apart equal b t h k m = h
sign_apart colon b t h k m = k ∙ m
sign_apart s b t h k m = refl

-- the bytes that would make a lexeme longer
abbrev extends : Lexeme → ℕ → Bool
extends (word w) b = is_name_byte b
extends (numeral n) b = is_digit b
extends (sign s) b = longer s b
extends x b = false

-- no byte makes a space longer
blank_stops : (r : List ℕ) → StopsAt (λ b. false) r
blank_stops [] = tt
blank_stops (b ∷ r) = refl

start_no_digit : (b : ℕ) → is_name_start b ≡ true → is_digit b ≡ false
start_no_digit b h = grind (arith, nat_tests)

start_no_greater : (b : ℕ) → is_name_start b ≡ true → (b == 62) ≡ false
start_no_greater b h = grind (arith, nat_tests)

start_no_equal : (b : ℕ) → is_name_start b ≡ true → (b == 61) ≡ false
start_no_equal b h = grind (arith, nat_tests)

digit_no_greater : (b : ℕ) → is_digit b ≡ true → (b == 62) ≡ false
digit_no_greater b h = grind (arith, nat_tests)

digit_no_equal : (b : ℕ) → is_digit b ≡ true → (b == 61) ≡ false
digit_no_equal b h = grind (arith, nat_tests)

-- what stands apart after a lexeme doesn't make it longer
stops_after : (x : Lexeme) (ys : List Lexeme) → IsApart x ys → AreSeparate ys → StopsAt (extends x) (text_of ys)
stops_after space ys a h = blank_stops (text_of ys)
stops_after line_feed ys a h = blank_stops (text_of ys)
stops_after x [] a h = tt
stops_after (word w) (word v ∷ ys) a h = absurd cc
stops_after (word w) (numeral n ∷ ys) a h = absurd cc
stops_after (word w) (sign t ∷ ys) a h = let l = leads t in stop is_name_byte (sign_bytes t) (text_of ys) l.rest l.first l.are l.no_name
stops_after (numeral n) (word [] ∷ ys) a h = absurd h.0
stops_after (numeral n) (word (b ∷ bs) ∷ ys) a h = start_no_digit b h.0.0
stops_after (numeral n) (numeral m ∷ ys) a h = absurd cc
stops_after (numeral n) (sign t ∷ ys) a h = let l = leads t in stop is_digit (sign_bytes t) (text_of ys) l.rest l.first l.are l.no_digit
stops_after (sign s) (space ∷ ys) a h = not_longer s 32 refl refl
stops_after (sign s) (line_feed ∷ ys) a h = not_longer s 10 refl refl
stops_after (sign s) (word [] ∷ ys) a h = absurd h.0
stops_after (sign s) (word (b ∷ bs) ∷ ys) a h = not_longer s b (start_no_greater b h.0.0) (start_no_equal b h.0.0)
stops_after (sign s) (numeral m ∷ ys) a h =
    let d = digits_of m h.0 in
    stop (longer s) (decimal m) (text_of ys) d.rest d.first d.are (not_longer s d.first (digit_no_greater d.first d.first_digit) (digit_no_equal d.first d.first_digit))
stops_after (sign s) (sign t ∷ ys) a h =
    let l = leads t in
    stop (longer s) (sign_bytes t) (text_of ys) l.rest l.first l.are (sign_apart s l.first (begins_with_equal t) l.no_greater l.no_equal a)
stops_after x ys a h = refl

-- ---- all lexemes

-- the scan of a text of lexemes
scan_all : (xs : List Lexeme) (line at : ℕ) → AreSeparate xs → scan (text_of xs) 0 line at ≡ (tokens_from line at xs, None)
scan_all [] line at h = refl
scan_all (space ∷ xs) line at h = one_cut 32 [] (text_of xs) line at None refl ∙ scan_all xs line (at + 1) h.2
scan_all (line_feed ∷ xs) line at h = one_cut 10 [] (text_of xs) line at None refl ∙ scan_all xs (line + 1) (at + 1) h.2
scan_all (word w ∷ xs) line at h =
    word_cut w (text_of xs) line at h.0 (stops_after (word w) xs h.1 h.2)
    ∙ ap (with_token (Some (token (kind_of_name w) at (length w) line 0 w))) (scan_all xs line (at + length w) h.2)
scan_all (numeral n ∷ xs) line at h =
    number_cut n (decimal n) (text_of xs) line at h.0 (digits_of n h.0) (stops_after (numeral n) xs h.1 h.2)
    ∙ ap (with_token (Some (token kind.Number at (length (decimal n)) line n []))) (scan_all xs line (at + length (decimal n)) h.2)
scan_all (sign s ∷ xs) line at h =
    sign_cut s (text_of xs) line at (stops_after (sign s) xs h.1 h.2)
    ∙ ap (with_token (token_of_sign s line at)) (scan_all xs line (at + length (sign_bytes s)) h.2)

pub cuts : (xs : List Lexeme) → AreSeparate xs → tokens_of (text_of xs) ≡ Ok (tokens_from 1 0 xs)
cuts xs h = ap lex_result (scan_all xs 1 0 h)
