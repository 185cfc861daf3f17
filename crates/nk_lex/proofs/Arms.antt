-- A piece after each kind of open lexeme.
use Rattle.std.proofs.Common.{◌≡◌, ◌<◌, ◌≤◌, ◌+◌, ◌-◌, ◌*◌, ◌==◌, ◌&&◌, ℕ, suc, List, [], ◌∷◌, ◌++◌, Bool, true, false, length, take, drop, refl, sym, ◌∙◌, ap, arith, cond, Option, min, subst}
use Rattle.std.proofs.lemmas.List.{length-append}
use Rattle.std.proofs.lemmas.List.Folds.{list_all-append}
use Rattle.std.proofs.lemmas.List.Sums.{fold-append, prefix_len-le-length}
use Rattle.std.proofs.lemmas.Bool.Decides.{nat_tests}
use Rattle.std.proofs.Math.Seq.{drop-append-add, take-append-add}
use Rattle.std.specs.Prelude.{Some, Ok, Err, take_while, nat_le}
use Rattle.std.specs.List.{list_all, prefix_len}
use Rattle.std.specs.declared.result.Result.{Result}
use Rattle.nk_lex.specs.declared.token.Token.{Token}
use Rattle.nk_lex.specs.declared.token.LexError.{LexError}
use Rattle.nk_lex.specs.declared.token.LexError.TheVariants as error
use Rattle.nk_lex.specs.declared.front.Front.TheVariants as front
use Rattle.nk_lex.specs.declared.kind.Kind.TheVariants as kind
use Rattle.nk_lex.specs.Classes.{is_digit, is_name_start, is_white, not_line_feed}
use Rattle.nk_lex.specs.Lex.{cut, front_of, largest, line_after, number_of, token, value_of, with_length}
use Rattle.nk_lex.specs.Kept.{value_on}
use Rattle.nk_lex.specs.NextPiece.{number_or_fault, number_settled}
use Rattle.nk_lex.specs.Pieces.{Rest, Settled, is_open, settle, settle_on, with_complete}
use Rattle.nk_lex.proofs.Standing.{run_length}
use Rattle.nk_lex.proofs.Joining.{IsSized}
use Rattle.nk_lex.proofs.Cutting.{digit_front}
use Rattle.nk_lex.proofs.Cuts.{settle_skipped}

-- ---- runs

pub prefix_past : (p : ℕ → Bool) (xs ys : List ℕ) → list_all p xs ≡ true → prefix_len p (xs ++ ys) ≡ length xs + prefix_len p ys
prefix_past p [] ys h = omega arith
prefix_past p (x ∷ xs) ys h = by_test (p x) h (prefix_past p xs ys)
  where
    by_test : (t : Bool) → (t && list_all p xs) ≡ true
        → (list_all p xs ≡ true → prefix_len p (xs ++ ys) ≡ length xs + prefix_len p ys)
        → cond t (1 + prefix_len p (xs ++ ys)) 0 ≡ suc (length xs) + prefix_len p ys
    by_test true h f = omega (arith, f h)
    by_test false h f = absurd cc

pub run_past : (p : ℕ → Bool) (xs ys : List ℕ) → list_all p xs ≡ true
    → length (take_while p (xs ++ ys)) ≡ length xs + length (take_while p ys)
run_past p xs ys h =
    omega (arith, run_length p (xs ++ ys), prefix_past p xs ys h, run_length p ys)

run_within : (p : ℕ → Bool) (ys : List ℕ) → length (take_while p ys) ≤ length ys
run_within p ys = omega (arith, run_length p ys, prefix_len-le-length p ys)

pub all_then : (p : ℕ → Bool) (xs ys : List ℕ) (t : Bool) → list_all p xs ≡ true → list_all p ys ≡ t → list_all p (xs ++ ys) ≡ t
all_then p xs ys t h k = list_all-append p xs ys ∙ ap (λ b. b && list_all p ys) h ∙ k

-- what lies after a run that goes on into the piece
pub settle_past : (rest piece : List ℕ) (n k line at fed : ℕ) → k ≡ length rest + n → n ≤ length piece → at + length rest ≡ fed
    → settle (rest ++ piece) k line at ≡ settle (drop n piece) 0 line (fed + n)
settle_past rest piece n k line at fed e fits whole =
    let below : k ≤ length (rest ++ piece) = omega (arith, length-append rest piece, e, fits) in
    settle_skipped (rest ++ piece) k line at below
    ∙ ap (λ i. settle (drop i (rest ++ piece)) 0 line (at + k)) e
    ∙ ap (λ l. settle l 0 line (at + k)) (drop-append-add rest piece n)
    ∙ ap (settle (drop n piece) 0 line) (let e : at + k ≡ fed + n = omega (arith, e, whole) in e)

-- ---- a comment

thirty_five : (b : ℕ) → (b == 35) ≡ true → b ≡ 35
thirty_five b h = grind (arith, nat_tests)

comment_from : (rest piece : List ℕ) (line at fed : ℕ) → list_all not_line_feed rest ≡ true
    → at + suc (length rest) ≡ fed → list_all not_line_feed piece ≡ false
    → settle (35 ∷ rest ++ piece) 0 line at
    ≡ settle (drop (length (take_while not_line_feed piece)) piece) 0 line (fed + length (take_while not_line_feed piece))
comment_from rest piece line at fed o whole ends =
    let n : ℕ = length (take_while not_line_feed piece) in
    let len : length (take_while not_line_feed (rest ++ piece)) + 1 - 1 ≡ length rest + n
    = omega (arith, run_past not_line_feed rest piece o) in
    ap (λ t. cond t ([], Rest line at (35 ∷ rest ++ piece)) (settle (rest ++ piece) (length (take_while not_line_feed (rest ++ piece)) + 1 - 1) line (at + 1))) (all_then not_line_feed rest piece false o ends)
    ∙ settle_past rest piece n (length (take_while not_line_feed (rest ++ piece)) + 1 - 1) line (at + 1) fed len (run_within not_line_feed piece)
    (let e : at + 1 + length rest ≡ fed = omega (arith, whole) in e)

pub comment_on : (b : ℕ) (rest piece : List ℕ) (line at fed : ℕ) → (b == 35) ≡ true → is_open b rest ≡ true
    → at + length (b ∷ rest) ≡ fed → list_all not_line_feed piece ≡ false
    → settle (b ∷ rest ++ piece) 0 line at
    ≡ settle (drop (length (take_while not_line_feed piece)) piece) 0 line (fed + length (take_while not_line_feed piece))
comment_on b rest piece line at fed is o whole ends =
    let same : b ≡ 35 = thirty_five b is in
    let open_35 : is_open 35 rest ≡ true = subst (λ c. is_open c rest ≡ true) same o in
    ap (λ c. settle (c ∷ rest ++ piece) 0 line at) same
    ∙ comment_from rest piece line at fed open_35 whole ends

-- ---- a number

fourth : {X : Type 0} (s t u v : Bool) (a x y z w : X) → s ≡ false → t ≡ false → u ≡ false → v ≡ true
    → cond s a (cond t x (cond u y (cond v z w))) ≡ z
fourth s t u v a x y z w d e f g = rw (d, e, f, g) refl

-- a number is open where all the bytes are digits
pub digit_open : (b : ℕ) (rest : List ℕ) → is_digit b ≡ true → is_open b rest ≡ list_all is_digit rest
digit_open b rest h =
    fourth (is_white b) (b == 35) (is_name_start b) (is_digit b) _ _ _ _ _ (no_white b h) (no_comment b h) (no_start b h) h
  where
    no_white : (b : ℕ) → is_digit b ≡ true → is_white b ≡ false
    no_white b h = grind (arith, nat_tests)

    no_comment : (b : ℕ) → is_digit b ≡ true → (b == 35) ≡ false
    no_comment b h = grind (arith, nat_tests)

    no_start : (b : ℕ) → is_digit b ≡ true → is_name_start b ≡ false
    no_start b h = grind (arith, nat_tests)

same_line : (b line : ℕ) → is_digit b ≡ true → line_after line b ≡ line
same_line b line h = ap (λ t. cond t (line + 1) line) (no_feed b h)
  where
    no_feed : (b : ℕ) → is_digit b ≡ true → (b == 10) ≡ false
    no_feed b h = grind (arith, nat_tests)

-- a value that stops goes on as the value does
pub value_stops : (ds : List ℕ) (x : ℕ)
    → min (value_on (min x (largest + 1)) ds) (largest + 1) ≡ min (value_on x ds) (largest + 1)
value_stops [] x = omega arith
value_stops (d ∷ ds) x =
    sym (value_stops ds (min x (largest + 1) * 10 + (d - 48)))
    ∙ ap (λ m. min (value_on m ds) (largest + 1))
    (let e : min (min x (largest + 1) * 10 + (d - 48)) (largest + 1) ≡ min (x * 10 + (d - 48)) (largest + 1) = omega arith in e)
    ∙ value_stops ds (x * 10 + (d - 48))

-- a number by the value that is kept of it
pub number_kept : (v at n line : ℕ)
    → with_length n (cond (nat_le v largest) (Ok (token kind.Number at n line v [])) (Err (error.NumberTooLarge line)))
    ≡ number_or_fault at n line (min v (largest + 1))
number_kept v at n line = by_test (nat_le v largest) refl
  where
    small : nat_le v largest ≡ true → min v (largest + 1) ≡ v
    small h = let le : v ≤ largest = grind (arith, nat_tests, h) in omega (arith, le)

    large : nat_le v largest ≡ false → nat_le (min v (largest + 1)) largest ≡ false
    large h =
        let gt : largest < v = grind (arith, nat_tests, h) in
        let top : min v (largest + 1) ≡ largest + 1 = omega (arith, gt) in
        ap (λ m. nat_le m largest) top

    by_test : (t : Bool) → nat_le v largest ≡ t
        → with_length n (cond t (Ok (token kind.Number at n line v [])) (Err (error.NumberTooLarge line)))
        ≡ number_or_fault at n line (min v (largest + 1))
    by_test true h =
        ap (λ t. cond t (Ok (n, Some (token kind.Number at n line v []))) (Err (error.NumberTooLarge line))) (sym h)
        ∙ ap (λ m. number_or_fault at n line m) (sym (small h))
    by_test false h =
        ap (λ t. cond t (Ok (n, Some (token kind.Number at n line (min v (largest + 1)) []))) (Err (error.NumberTooLarge line))) (sym (large h))

-- the two ways to go on are the same at the lexeme's length
on_same : (n : ℕ) (r : Result (ℕ × Option Token) LexError) (next' next : ℕ → Settled) → IsSized n r
    → next' n ≡ next n → settle_on r next' ≡ settle_on r next
on_same n (Err e) next' next h same = refl
on_same n (Ok (m, o)) next' next h same = ap (with_complete o) (subst (λ k. next' k ≡ next k) (sym h) same)

number_sized : (at n line v : ℕ) → IsSized n (number_or_fault at n line v)
number_sized at n line v = by_test (nat_le v largest)
  where
    by_test : (t : Bool) → IsSized n (cond t (Ok (n, Some (token kind.Number at n line v []))) (Err (error.NumberTooLarge line)))
    by_test true = refl
    by_test false = tt

pub number_on : (b : ℕ) (rest piece : List ℕ) (line at fed : ℕ) → is_digit b ≡ true → is_open b rest ≡ true
    → at + length (b ∷ rest) ≡ fed → list_all is_digit piece ≡ false
    → settle (b ∷ rest ++ piece) 0 line at
    ≡ number_settled at (min (value_of (b ∷ rest)) (largest + 1)) fed line piece
number_on b rest piece line at fed d o whole ends =
    ap (λ t. cond t ([], Rest line at bytes) (settle_on (cut (front_of b (rest ++ piece)) line at bytes) next')) closed
    ∙ ap (λ f. settle_on (cut f line at bytes) next') (digit_front b (rest ++ piece) d)
    ∙ ap (λ i. settle_on (cut (front.Number i) line at bytes) next') count
    ∙ ap (λ r. settle_on r next') kept
    ∙ on_same m (number_or_fault at m line v) next' next (number_sized at m line v) following
  where
    bytes : List ℕ
    bytes = b ∷ rest ++ piece

    n : ℕ
    n = length (take_while is_digit piece)

    m : ℕ
    m = fed + n - at

    v : ℕ
    v = min (value_on (min (value_of (b ∷ rest)) (largest + 1)) (take n piece)) (largest + 1)

    next' : ℕ → Settled
    next' k = settle (rest ++ piece) (k - 1) (line_after line b) (at + 1)

    next : ℕ → Settled
    next k = settle (drop n piece) 0 line (fed + n)

    all : list_all is_digit rest ≡ true
    all = sym (digit_open b rest d) ∙ o

    closed : is_open b (rest ++ piece) ≡ false
    closed = digit_open b (rest ++ piece) d ∙ all_then is_digit rest piece false all ends

    count : length (take_while is_digit (rest ++ piece)) + 1 ≡ m
    count = omega (arith, run_past is_digit rest piece all, whole)

    front_bytes : take m bytes ≡ (b ∷ rest) ++ take n piece
    front_bytes =
        ap (λ k. take k bytes) (let e : m ≡ suc (length rest) + n = omega (arith, whole) in e)
        ∙ take-append-add (b ∷ rest) piece n

    value : min (value_of ((b ∷ rest) ++ take n piece)) (largest + 1) ≡ v
    value =
        ap (λ x. min x (largest + 1)) (fold-append (λ n d. n * 10 + (d - 48)) 0 (b ∷ rest) (take n piece))
        ∙ sym (value_stops (take n piece) (value_of (b ∷ rest)))

    kept : with_length m (number_of (take m bytes) at m line) ≡ number_or_fault at m line v
    kept =
        ap (λ l. with_length m (number_of l at m line)) front_bytes
        ∙ number_kept (value_of ((b ∷ rest) ++ take n piece)) at m line
        ∙ ap (number_or_fault at m line) value

    following : next' m ≡ next m
    following =
        ap (λ l. settle (rest ++ piece) (m - 1) l (at + 1)) (same_line b line d)
        ∙ settle_past rest piece n (m - 1) line (at + 1) fed
        (let e : m - 1 ≡ length rest + n = omega (arith, whole) in e) (run_within is_digit piece)
        (let e : at + 1 + length rest ≡ fed = omega (arith, whole) in e)
