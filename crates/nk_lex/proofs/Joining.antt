-- Two texts with a line feed between them.
use Rattle.std.proofs.Common.{◌≡◌, ◌≤◌, ◌+◌, ◌-◌, ◌==◌, ℕ, zero, suc, List, [], ◌∷◌, ◌++◌, Bool, true, false, length, take, drop, refl, sym, ◌∙◌, ap, arith, cond, Option, subst, decimal}
use Rattle.std.proofs.lemmas.List.{take-append-le, take-append-drop}
use Rattle.std.specs.Prelude.{Some, None, Ok, Err, map, option_map, take_while, nat_le, ⊤}
use Rattle.std.specs.List.{prefix_len}
use Rattle.std.specs.declared.result.Result.{Result}
use Rattle.nk_lex.specs.declared.token.Token.{Token}
use Rattle.nk_lex.specs.declared.token.LexError.{LexError}
use Rattle.nk_lex.specs.declared.token.LexError.TheVariants as error
use Rattle.nk_lex.specs.declared.kind.Kind.{Kind}
use Rattle.nk_lex.specs.declared.kind.Kind.TheVariants as kind
use Rattle.nk_lex.specs.declared.front.Front.{Front}
use Rattle.nk_lex.specs.declared.front.Front.TheVariants as front
use Rattle.nk_lex.specs.Classes.{is_digit, is_name_byte, not_line_feed}
use Rattle.nk_lex.specs.Kinds.{kind_of_name}
use Rattle.nk_lex.specs.Lex.{Scanned, lex_result, cut, front_of, go_on, largest, line_after, number_of, scan, starts_with_byte, token, tokens_of, value_of, with_length, with_token}
use Rattle.nk_lex.specs.Spans.{line_feeds}
use Rattle.nk_lex.specs.Spelling.{Lexeme, sign_bytes, sign_kind, tokens_from}
use Rattle.nk_lex.specs.Joined.{joined, token_moved, fault_moved, joined_after}
use Rattle.nk_lex.proofs.Standing.{size, inside, run_length, feeds_append, line_feed_counts}

-- ---- a text further on

-- what was scanned, so many lines and places further on
abbrev moved : (lines places : ℕ) → Scanned → Scanned
moved lines places r = (map (token_moved lines places) r.0, option_map (fault_moved lines) r.1)

-- one lexeme, so many lines and places further on
abbrev cut_moved : (lines places : ℕ) → Result (ℕ × Option Token) LexError → Result (ℕ × Option Token) LexError
cut_moved lines places (Ok p) = Ok (p.0, option_map (token_moved lines places) p.1)
cut_moved lines places (Err e) = Err (fault_moved lines e)

module _ (lines places : ℕ) where
  -- a token further on
  token_moves : (k : Kind) (at n line value : ℕ) (text : List ℕ)
      → token k (at + places) n (line + lines) value text ≡ token_moved lines places (token k at n line value text)
  token_moves k at n line value text =
      ap (λ e. let t : Token = record { kind = k; start = at + places; end = e; line = line + lines; value = value; text = text } in t)
      (let e : at + places + n ≡ at + n + places = omega arith in e)

  number_moves : (n at line : ℕ) (digits : List ℕ)
      → with_length n (number_of digits (at + places) n (line + lines)) ≡ cut_moved lines places (with_length n (number_of digits at n line))
  number_moves n at line digits = by_test (nat_le (value_of digits) largest)
    where
      by_test : (t : Bool)
          → with_length n (cond t (Ok (token kind.Number (at + places) n (line + lines) (value_of digits) [])) (Err (error.NumberTooLarge (line + lines))))
          ≡ cut_moved lines places (with_length n (cond t (Ok (token kind.Number at n line (value_of digits) [])) (Err (error.NumberTooLarge line))))
      by_test true = ap (λ t. Ok (n, Some t)) (token_moves kind.Number at n line (value_of digits) [])
      by_test false = refl

  cut_moves : (x : Front) (line at : ℕ) (bytes : List ℕ)
      → cut x (line + lines) (at + places) bytes ≡ cut_moved lines places (cut x line at bytes)
  cut_moves (front.Blank n) line at bytes = refl
  cut_moves (front.Name n) line at bytes =
      ap (λ t. Ok (n, Some t)) (token_moves (kind_of_name (take n bytes)) at n line 0 (take n bytes))
  cut_moves (front.Number n) line at bytes = number_moves n at line (take n bytes)
  cut_moves (front.Symbol n k) line at bytes = ap (λ t. Ok (n, Some t)) (token_moves k at n line 0 [])
  cut_moves front.Bad line at bytes = refl

  go_on_moves : (r : Result (ℕ × Option Token) LexError) (next' next : ℕ → Scanned)
      → ((n : ℕ) → next' n ≡ moved lines places (next n))
      → go_on (cut_moved lines places r) next' ≡ moved lines places (go_on r next)
  go_on_moves (Err e) next' next same = refl
  go_on_moves (Ok (n, None)) next' next same = same n
  go_on_moves (Ok (n, Some t)) next' next same =
      ap (λ r. let p : Scanned = (token_moved lines places t ∷ r.0, r.1) in p) (same n)

  line_moves : (line b : ℕ) → line_after (line + lines) b ≡ line_after line b + lines
  line_moves line b = by_test (b == 10)
    where
      by_test : (t : Bool) → cond t (line + lines + 1) (line + lines) ≡ cond t (line + 1) line + lines
      by_test true = omega arith
      by_test false = refl

  scan_moves : (xs : List ℕ) (k line at : ℕ) → scan xs k (line + lines) (at + places) ≡ moved lines places (scan xs k line at)
  scan_moves [] k line at = refl
  scan_moves (b ∷ rest) (suc k) line at =
      ap (scan rest k (line + lines)) (let e : at + places + 1 ≡ at + 1 + places = omega arith in e)
      ∙ scan_moves rest k line (at + 1)
  scan_moves (b ∷ rest) zero line at =
      ap (λ c. go_on c (λ n. scan rest (n - 1) (line_after (line + lines) b) (at + places + 1))) (cut_moves (front_of b rest) line at (b ∷ rest))
      ∙ go_on_moves (cut (front_of b rest) line at (b ∷ rest)) (λ n. scan rest (n - 1) (line_after (line + lines) b) (at + places + 1))
      (λ n. scan rest (n - 1) (line_after line b) (at + 1))
      (λ n. ap (λ l. scan rest (n - 1) l (at + places + 1)) (line_moves line b)
      ∙ ap (scan rest (n - 1) (line_after line b + lines)) (let e : at + places + 1 ≡ at + 1 + places = omega arith in e)
      ∙ scan_moves rest (n - 1) (line_after line b) (at + 1))

-- ---- a text in front of a line feed

-- a run that a line feed ends
run_ends : (p : ℕ → Bool) → p 10 ≡ false → (xs c : List ℕ) → prefix_len p (xs ++ 10 ∷ c) ≡ prefix_len p xs
run_ends p none [] c = ap (λ t. cond t (1 + prefix_len p c) 0) none
run_ends p none (x ∷ xs) c = ap (λ n. cond (p x) (1 + n) 0) (run_ends p none xs c)

run_of : (p : ℕ → Bool) → p 10 ≡ false → (xs c : List ℕ) → length (take_while p (xs ++ 10 ∷ c)) ≡ length (take_while p xs)
run_of p none xs c = run_length p (xs ++ 10 ∷ c) ∙ run_ends p none xs c ∙ sym (run_length p xs)

-- the byte after a first one
starts_same : (d : ℕ) → (10 == d) ≡ false → (xs c : List ℕ) → starts_with_byte d (xs ++ 10 ∷ c) ≡ starts_with_byte d xs
starts_same d none [] c = none
starts_same d none (x ∷ xs) c = refl

-- what stands at the front stays
front_same : (b : ℕ) (xs c : List ℕ) → front_of b (xs ++ 10 ∷ c) ≡ front_of b xs
front_same b xs c =
    rw (
      run_of not_line_feed refl xs c,
      run_of is_name_byte refl xs c,
      run_of is_digit refl xs c,
      starts_same 62 refl xs c,
      starts_same 61 refl xs c,
      starts_same 46 refl xs c,
    ) refl

-- and is cut as before
pub cut_same : (x : Front) (line at : ℕ) (xs c : List ℕ) → size x ≤ length xs → cut x line at (xs ++ c) ≡ cut x line at xs
cut_same (front.Name n) line at xs c fits =
    ap (λ w. Ok (n, Some (token (kind_of_name w) at n line 0 w))) (take-append-le n xs c fits)
cut_same (front.Number n) line at xs c fits = ap (λ w. with_length n (number_of w at n line)) (take-append-le n xs c fits)
cut_same x line at xs c fits = refl

-- the lexeme was cut with this size
abbrev pub IsSized : ℕ → Result (ℕ × Option Token) LexError → Type 0
IsSized n (Ok p) = p.0 ≡ n
IsSized n (Err e) = ⊤

pub sized : (x : Front) (line at : ℕ) (bytes : List ℕ) → IsSized (size x) (cut x line at bytes)
sized (front.Number n) line at bytes = by_test (nat_le (value_of (take n bytes)) largest)
  where
    by_test : (t : Bool)
        → IsSized n (with_length n (cond t (Ok (token kind.Number at n line (value_of (take n bytes)) [])) (Err (error.NumberTooLarge line))))
    by_test true = refl
    by_test false = tt
sized front.Bad line at bytes = tt
sized x line at bytes = refl

-- the line on which a text ends, where the first bytes belong to the lexeme before
abbrev last_line : List ℕ → ℕ → ℕ → ℕ
last_line [] k line = line
last_line (b ∷ rest) zero line = last_line rest (size (front_of b rest) - 1) (line_after line b)
last_line (b ∷ rest) (suc k) line = last_line rest k line

last_line_counts : (xs : List ℕ) (k line : ℕ) → k ≤ length xs → last_line xs k line ≡ line + line_feeds (drop k xs)
last_line_counts [] zero line h = omega arith
last_line_counts [] (suc k) line h = absurd (omega arith)
last_line_counts (b ∷ rest) (suc k) line h = last_line_counts rest k line (let e : k ≤ length rest = omega arith in e)
last_line_counts (b ∷ rest) zero line h =
    let i = inside b rest in
    let n : ℕ = size (front_of b rest) - 1 in
    let fits : n ≤ length rest = omega (arith, i.fits) in
    let all : line_feeds rest ≡ line_feeds (take n rest) + line_feeds (drop n rest)
    = ap line_feeds (sym (take-append-drop n rest)) ∙ feeds_append (take n rest) (drop n rest) in
    omega (
      arith,
      last_line_counts rest n (line_after line b) fits,
      all,
      i.feeds,
      line_feed_counts line b,
      feeds_append (b ∷ []) rest,
    )

-- what is scanned after these tokens, unless they end with a fault
abbrev after_scan : List Token → Option LexError → Scanned → Scanned
after_scan ts None r = (ts ++ r.0, r.1)
after_scan ts (Some e) r = (ts, Some e)

-- what is scanned after what was scanned, unless this ends with a fault
abbrev both : Scanned → Scanned → Scanned
both r s = after_scan r.0 r.1 s

token_before : (t : Token) (ts : List Token) (o : Option LexError) (s : Scanned)
    → with_token (Some t) (after_scan ts o s) ≡ after_scan (t ∷ ts) o s
token_before t ts None s = refl
token_before t ts (Some e) s = refl

go_on_both : (n : ℕ) (r : Result (ℕ × Option Token) LexError) (next' next : ℕ → Scanned) (s : Scanned) → IsSized n r
    → next' n ≡ both (next n) s → go_on r next' ≡ both (go_on r next) s
go_on_both n (Err e) next' next s h same = refl
go_on_both n (Ok (m, None)) next' next s h same = subst (λ k. next' k ≡ both (next k) s) (sym h) same
go_on_both n (Ok (m, Some t)) next' next s h same =
    ap (with_token (Some t)) (subst (λ k. next' k ≡ both (next k) s) (sym h) same)
    ∙ token_before t (next m).0 (next m).1 s

-- a scan of both texts
scan_joined : (xs c : List ℕ) (k line at : ℕ) → k ≤ length xs
    → scan (xs ++ 10 ∷ c) k line at ≡ both (scan xs k line at) (scan c 0 (last_line xs k line + 1) (at + length xs + 1))
scan_joined [] c zero line at h = ap (λ n. scan c 0 (line + 1) n) (let e : at + 1 ≡ at + 0 + 1 = omega arith in e)
scan_joined [] c (suc k) line at h = absurd (omega arith)
scan_joined (b ∷ rest) c (suc k) line at h =
    scan_joined rest c k line (at + 1) (let e : k ≤ length rest = omega arith in e)
    ∙ ap (λ n. both (scan rest k line (at + 1)) (scan c 0 (last_line rest k line + 1) n))
    (let e : at + 1 + length rest + 1 ≡ at + suc (length rest) + 1 = omega arith in e)
scan_joined (b ∷ rest) c zero line at h =
    let x : Front = front_of b rest in
    let n : ℕ = size x in
    let fits : n ≤ length (b ∷ rest) = omega (arith, (inside b rest).fits) in
    let below : n - 1 ≤ length rest = omega (arith, (inside b rest).fits) in
    let next' : ℕ → Scanned = λ m. scan (rest ++ 10 ∷ c) (m - 1) (line_after line b) (at + 1) in
    let next : ℕ → Scanned = λ m. scan rest (m - 1) (line_after line b) (at + 1) in
    let s : Scanned = scan c 0 (last_line (b ∷ rest) zero line + 1) (at + length (b ∷ rest) + 1) in
    ap (λ f. go_on (cut f line at (b ∷ (rest ++ 10 ∷ c))) next') (front_same b rest c)
    ∙ ap (λ r. go_on r next') (cut_same x line at (b ∷ rest) (10 ∷ c) fits)
    ∙ go_on_both n (cut x line at (b ∷ rest)) next' next s (sized x line at (b ∷ rest))
    (scan_joined rest c (n - 1) (line_after line b) (at + 1) below
    ∙ ap (λ m. both (next n) (scan c 0 (last_line rest (n - 1) (line_after line b) + 1) m))
    (let e : at + 1 + length rest + 1 ≡ at + suc (length rest) + 1 = omega arith in e))

-- what both give is answered
answer_both : (ts us : List Token) (o p : Option LexError) (lines places : ℕ)
    → lex_result (after_scan ts o (moved lines places (us, p))) ≡ joined_after (lex_result (ts, o)) lines places (lex_result (us, p))
answer_both ts us None None lines places = refl
answer_both ts us None (Some e) lines places = refl
answer_both ts us (Some e) p lines places = refl

-- the tokens of two texts with a line feed between them
pub joins : (a b : List ℕ) → tokens_of (joined a b) ≡ joined_after (tokens_of a) (line_feeds a + 1) (length a + 1) (tokens_of b)
joins a b =
    let first : Scanned = scan a 0 1 0 in
    let second : Scanned = scan b 0 1 0 in
    let lines : ℕ = line_feeds a + 1 in
    let places : ℕ = length a + 1 in
    let at : 0 + length a + 1 ≡ 0 + places = omega arith in
    let line : last_line a 0 1 + 1 ≡ 1 + lines = omega (arith, last_line_counts a 0 1 (omega arith)) in
    ap lex_result (scan_joined a b 0 1 0 (omega arith)
    ∙ ap (λ n. both first (scan b 0 n (0 + length a + 1))) line
    ∙ ap (λ n. both first (scan b 0 (1 + lines) n)) at
    ∙ ap (both first) (scan_moves lines places b 0 1 0))
    ∙ answer_both first.0 second.0 first.1 second.1 lines places

-- one token and those after it, further on
one_further : (lines places : ℕ) (k : Kind) (at n line value : ℕ) (text : List ℕ) (xs : List Lexeme)
    → map (token_moved lines places) (tokens_from line (at + n) xs) ≡ tokens_from (line + lines) (at + n + places) xs
    → map (token_moved lines places) (token k at n line value text ∷ tokens_from line (at + n) xs)
    ≡ token k (at + places) n (line + lines) value text ∷ tokens_from (line + lines) (at + places + n) xs
one_further lines places k at n line value text xs rest =
    ap (λ l. token_moved lines places (token k at n line value text) ∷ l) (rest
    ∙ ap (λ m. tokens_from (line + lines) m xs) (let e : at + n + places ≡ at + places + n = omega arith in e))
    ∙ ap (λ t. t ∷ tokens_from (line + lines) (at + places + n) xs) (sym (token_moves lines places k at n line value text))

-- the tokens of lexemes further on
pub lexemes_move : (xs : List Lexeme) (line at lines places : ℕ)
    → map (token_moved lines places) (tokens_from line at xs) ≡ tokens_from (line + lines) (at + places) xs
lexemes_move [] line at lines places = refl
lexemes_move (Lexeme.space ∷ xs) line at lines places =
    lexemes_move xs line (at + 1) lines places
    ∙ ap (λ n. tokens_from (line + lines) n xs) (let e : at + 1 + places ≡ at + places + 1 = omega arith in e)
lexemes_move (Lexeme.line_feed ∷ xs) line at lines places =
    lexemes_move xs (line + 1) (at + 1) lines places
    ∙ ap (λ n. tokens_from n (at + 1 + places) xs) (let e : line + 1 + lines ≡ line + lines + 1 = omega arith in e)
    ∙ ap (λ n. tokens_from (line + lines + 1) n xs) (let e : at + 1 + places ≡ at + places + 1 = omega arith in e)
lexemes_move (Lexeme.word w ∷ xs) line at lines places =
    one_further lines places (kind_of_name w) at (length w) line 0 w xs (lexemes_move xs line (at + length w) lines places)
lexemes_move (Lexeme.numeral n ∷ xs) line at lines places =
    one_further lines places kind.Number at (length (decimal n)) line n [] xs (lexemes_move xs line (at + length (decimal n)) lines places)
lexemes_move (Lexeme.sign s ∷ xs) line at lines places =
    one_further lines places (sign_kind s) at (length (sign_bytes s)) line 0 [] xs (lexemes_move xs line (at + length (sign_bytes s)) lines places)
