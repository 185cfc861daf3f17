-- A text that is cut up to its open lexeme, and more bytes after it.
use Rattle.std.proofs.Common.{◌≡◌, ◌<◌, ◌≤◌, ◌+◌, ◌-◌, ◌==◌, ◌||◌, ◌&&◌, ℕ, zero, suc, List, [], ◌∷◌, ◌++◌, Bool, true, false, not, length, drop, get_or, refl, sym, ◌∙◌, ap, arith, cond, Option, option_to_list, append_assoc, append-nil, subst}
use Rattle.std.specs.Prelude.{Some, None, Ok, Err, take_while, ⊤}
use Rattle.std.specs.List.{list_all, prefix_len}
use Rattle.std.specs.declared.result.Result.{Result}
use Rattle.nk_lex.specs.declared.token.Token.{Token}
use Rattle.nk_lex.specs.declared.token.LexError.{LexError}
use Rattle.nk_lex.specs.declared.front.Front.TheVariants as front
use Rattle.nk_lex.specs.Classes.{is_digit, is_name_byte, is_name_start, is_white, not_line_feed}
use Rattle.nk_lex.specs.Lex.{Scanned, after, cut, cut_front, front_of, go_on, line_after, one_byte, scan, single_of, symbol_of, with_token}
use Rattle.nk_lex.specs.NextPiece.{has_whole}
use Rattle.nk_lex.specs.Pieces.{Left, Rest, Fault, Settled, begins_longer, is_empty, is_open, settle, settle_on, with_complete}
use Rattle.nk_lex.proofs.Standing.{size, inside, run_length}
use Rattle.nk_lex.proofs.Joining.{IsSized, cut_same, sized}

-- ---- what is left

-- how the piece is cut after what is left
abbrev pub resumed : Left → List ℕ → Settled
resumed (Rest line at bytes) piece = settle (bytes ++ piece) 0 line at
resumed (Fault e) piece = ([], Fault e)

-- what the bytes that are left come to, where no more come
abbrev pub finished : Left → Scanned
finished (Rest line at bytes) = scan bytes 0 line at
finished (Fault e) = ([], Some e)

-- what is left ends where this many bytes end, and is open
abbrev pub IsLeft : Left → ℕ → Type 0
IsLeft (Rest line at []) fed = at ≡ fed
IsLeft (Rest line at (b ∷ rest)) fed = (at + length (b ∷ rest) ≡ fed) × (is_open b rest ≡ true)
IsLeft (Fault e) fed = ⊤

-- these tokens stand before those
abbrev pub settle_after : List Token → Settled → Settled
settle_after ts r = (ts ++ r.0, r.1)

-- ---- what is complete stays

-- one of five tests decides
open_pick : (w c s d y : Bool) (p1 p2 p3 p4 q1 q2 q3 q4 : Bool)
    → (p1 ≡ false → q1 ≡ false) → (p2 ≡ false → q2 ≡ false) → (p3 ≡ false → q3 ≡ false) → (p4 ≡ false → q4 ≡ false)
    → cond w false (cond c p1 (cond s p2 (cond d p3 (cond y p4 false)))) ≡ false
    → cond w false (cond c q1 (cond s q2 (cond d q3 (cond y q4 false)))) ≡ false
open_pick true c s d y p1 p2 p3 p4 q1 q2 q3 q4 f1 f2 f3 f4 h = refl
open_pick false true s d y p1 p2 p3 p4 q1 q2 q3 q4 f1 f2 f3 f4 h = f1 h
open_pick false false true d y p1 p2 p3 p4 q1 q2 q3 q4 f1 f2 f3 f4 h = f2 h
open_pick false false false true y p1 p2 p3 p4 q1 q2 q3 q4 f1 f2 f3 f4 h = f3 h
open_pick false false false false true p1 p2 p3 p4 q1 q2 q3 q4 f1 f2 f3 f4 h = f4 h
open_pick false false false false false p1 p2 p3 p4 q1 q2 q3 q4 f1 f2 f3 f4 h = refl

front_pick : {X : Type 0} (w c s d : Bool) (a : X) (x1 x2 x3 x4 : Bool) (p1 p2 p3 p4 q1 q2 q3 q4 : X)
    → (x1 ≡ false → p1 ≡ q1) → (x2 ≡ false → p2 ≡ q2) → (x3 ≡ false → p3 ≡ q3) → (x4 ≡ false → p4 ≡ q4)
    → cond w false (cond c x1 (cond s x2 (cond d x3 x4))) ≡ false
    → cond w a (cond c p1 (cond s p2 (cond d p3 p4))) ≡ cond w a (cond c q1 (cond s q2 (cond d q3 q4)))
front_pick true c s d a x1 x2 x3 x4 p1 p2 p3 p4 q1 q2 q3 q4 f1 f2 f3 f4 h = refl
front_pick false true s d a x1 x2 x3 x4 p1 p2 p3 p4 q1 q2 q3 q4 f1 f2 f3 f4 h = f1 h
front_pick false false true d a x1 x2 x3 x4 p1 p2 p3 p4 q1 q2 q3 q4 f1 f2 f3 f4 h = f2 h
front_pick false false false true a x1 x2 x3 x4 p1 p2 p3 p4 q1 q2 q3 q4 f1 f2 f3 f4 h = f3 h
front_pick false false false false a x1 x2 x3 x4 p1 p2 p3 p4 q1 q2 q3 q4 f1 f2 f3 f4 h = f4 h

-- a run that ends within the first bytes
all_more : (p : ℕ → Bool) (xs ys : List ℕ) → list_all p xs ≡ false → list_all p (xs ++ ys) ≡ false
all_more p [] ys h = absurd cc
all_more p (x ∷ xs) ys h = by_test (p x) h (all_more p xs ys)
  where
    by_test : (t : Bool) → (t && list_all p xs) ≡ false → (list_all p xs ≡ false → list_all p (xs ++ ys) ≡ false)
        → (t && list_all p (xs ++ ys)) ≡ false
    by_test true h f = f h
    by_test false h f = refl

prefix_more : (p : ℕ → Bool) (xs ys : List ℕ) → list_all p xs ≡ false → prefix_len p (xs ++ ys) ≡ prefix_len p xs
prefix_more p [] ys h = absurd cc
prefix_more p (x ∷ xs) ys h = by_test (p x) h (prefix_more p xs ys)
  where
    by_test : (t : Bool) → (t && list_all p xs) ≡ false → (list_all p xs ≡ false → prefix_len p (xs ++ ys) ≡ prefix_len p xs)
        → cond t (1 + prefix_len p (xs ++ ys)) 0 ≡ cond t (1 + prefix_len p xs) 0
    by_test true h f = ap (λ n. 1 + n) (f h)
    by_test false h f = refl

run_more : (p : ℕ → Bool) (xs ys : List ℕ) → list_all p xs ≡ false
    → length (take_while p (xs ++ ys)) ≡ length (take_while p xs)
run_more p xs ys h = run_length p (xs ++ ys) ∙ prefix_more p xs ys h ∙ sym (run_length p xs)

empty_more : (xs ys : List ℕ) → is_empty xs ≡ false → is_empty (xs ++ ys) ≡ false
empty_more [] ys h = absurd cc
empty_more (x ∷ xs) ys h = refl

-- what isn't open stays so
pub open_more : (b : ℕ) (rest more : List ℕ) → is_open b rest ≡ false → is_open b (rest ++ more) ≡ false
open_more b rest more h =
    open_pick (is_white b) (b == 35) (is_name_start b) (is_digit b) (begins_longer b) _ _ _ _ _ _ _ _
    (all_more not_line_feed rest more) (all_more is_name_byte rest more) (all_more is_digit rest more)
    (empty_more rest more) h

four : {X : Type 0} (p q r t : Bool) (x1 x2 x3 x4 y1 y2 y3 y4 e : X) → cond (p || q || r || t) true false ≡ false
    → cond p x1 (cond q x2 (cond r x3 (cond t x4 e))) ≡ cond p y1 (cond q y2 (cond r y3 (cond t y4 e)))
four false false false false x1 x2 x3 x4 y1 y2 y3 y4 e h = refl
four p q r t x1 x2 x3 x4 y1 y2 y3 y4 e h = absurd cc

symbol_more : (b : ℕ) (rest more : List ℕ) → cond (begins_longer b) (is_empty rest) false ≡ false
    → symbol_of b (rest ++ more) ≡ symbol_of b rest
symbol_more b [] more h = four (b == 61) (b == 58) (b == 45) (b == 46) _ _ _ _ _ _ _ _ (one_byte (single_of b)) h
symbol_more b (c ∷ rest) more h = refl

-- what stands at the front stays, where it isn't open
pub front_more : (b : ℕ) (rest more : List ℕ) → is_open b rest ≡ false → front_of b (rest ++ more) ≡ front_of b rest
front_more b rest more h =
    front_pick (is_white b) (b == 35) (is_name_start b) (is_digit b) (front.Blank 1) _ _ _ _ _ _ _ _ _ _ _ _
    (λ e. ap (λ n. front.Blank (n + 1)) (run_more not_line_feed rest more e))
    (λ e. ap (λ n. front.Name (n + 1)) (run_more is_name_byte rest more e))
    (λ e. ap (λ n. front.Number (n + 1)) (run_more is_digit rest more e))
    (symbol_more b rest more) h

pub cut_more : (b : ℕ) (rest more : List ℕ) (line at : ℕ) → is_open b rest ≡ false
    → cut (front_of b (rest ++ more)) line at (b ∷ rest ++ more) ≡ cut (front_of b rest) line at (b ∷ rest)
cut_more b rest more line at h =
    let fits : size (front_of b rest) ≤ length (b ∷ rest) = omega (arith, (inside b rest).fits) in
    ap (λ f. cut f line at (b ∷ rest ++ more)) (front_more b rest more h)
    ∙ cut_same (front_of b rest) line at (b ∷ rest) more fits

-- ---- more bytes after a text

-- what was cut, and then the piece after what it leaves
abbrev pub resume : Settled → List ℕ → Settled
resume r ys = settle_after r.0 (resumed r.1 ys)

complete_resume : (o : Option Token) (r : Settled) (ys : List ℕ)
    → with_complete o (resume r ys) ≡ resume (with_complete o r) ys
complete_resume None r ys = refl
complete_resume (Some t) r ys = refl

on_resume : (n : ℕ) (r : Result (ℕ × Option Token) LexError) (next' next : ℕ → Settled) (ys : List ℕ) → IsSized n r
    → next' n ≡ resume (next n) ys → settle_on r next' ≡ resume (settle_on r next) ys
on_resume n (Err e) next' next ys h same = refl
on_resume n (Ok (m, o)) next' next ys h same =
    ap (with_complete o) (subst (λ k. next' k ≡ resume (next k) ys) (sym h) same) ∙ complete_resume o (next m) ys

pub settle_more : (xs ys : List ℕ) (k line at : ℕ) → k ≤ length xs
    → settle (xs ++ ys) k line at ≡ resume (settle xs k line at) ys
settle_more [] ys zero line at h = refl
settle_more [] ys (suc k) line at h = absurd (omega arith)
settle_more (b ∷ rest) ys (suc k) line at h = settle_more rest ys k line (at + 1) (let e : k ≤ length rest = omega arith in e)
settle_more (b ∷ rest) ys zero line at h =
    by_test (is_open b rest) refl (settle_more rest ys (size (front_of b rest) - 1) (line_after line b) (at + 1) below)
  where
    next' : ℕ → Settled
    next' n = settle (rest ++ ys) (n - 1) (line_after line b) (at + 1)

    next : ℕ → Settled
    next n = settle rest (n - 1) (line_after line b) (at + 1)

    below : size (front_of b rest) - 1 ≤ length rest
    below = omega (arith, (inside b rest).fits)

    by_test : (t : Bool) → is_open b rest ≡ t
        → next' (size (front_of b rest)) ≡ resume (next (size (front_of b rest))) ys
        → settle (b ∷ rest ++ ys) zero line at
        ≡ resume (cond t ([], Rest line at (b ∷ rest)) (settle_on (cut (front_of b rest) line at (b ∷ rest)) next)) ys
    by_test true e more = refl
    by_test false e more =
        ap (λ t. cond t ([], Rest line at (b ∷ rest ++ ys)) (settle_on (cut (front_of b (rest ++ ys)) line at (b ∷ rest ++ ys)) next')) (open_more b rest ys e)
        ∙ ap (λ r. settle_on r next') (cut_more b rest ys line at e)
        ∙ on_resume (size (front_of b rest)) (cut (front_of b rest) line at (b ∷ rest)) next' next ys
        (sized (front_of b rest) line at (b ∷ rest)) more

-- ---- the tokens of the whole text

abbrev pub finish : Settled → Scanned
finish r = after r.0 (finished r.1)

token_finish : (o : Option Token) (r : Settled) → with_token o (finish r) ≡ finish (with_complete o r)
token_finish None r = refl
token_finish (Some t) r = refl

on_finish : (r : Result (ℕ × Option Token) LexError) (next' : ℕ → Scanned) (next : ℕ → Settled)
    → ((n : ℕ) → next' n ≡ finish (next n)) → go_on r next' ≡ finish (settle_on r next)
on_finish (Err e) next' next same = refl
on_finish (Ok (m, o)) next' next same = ap (with_token o) (same m) ∙ token_finish o (next m)

pub scan_finish : (xs : List ℕ) (k line at : ℕ) → scan xs k line at ≡ finish (settle xs k line at)
scan_finish [] k line at = refl
scan_finish (b ∷ rest) (suc k) line at = scan_finish rest k line (at + 1)
scan_finish (b ∷ rest) zero line at =
    by_test (is_open b rest) (λ n. scan_finish rest (n - 1) (line_after line b) (at + 1))
  where
    next : ℕ → Settled
    next n = settle rest (n - 1) (line_after line b) (at + 1)

    by_test : (t : Bool) → ((n : ℕ) → scan rest (n - 1) (line_after line b) (at + 1) ≡ finish (next n))
        → scan (b ∷ rest) zero line at
        ≡ finish (cond t ([], Rest line at (b ∷ rest)) (settle_on (cut (front_of b rest) line at (b ∷ rest)) next))
    by_test true more = refl
    by_test false more =
        on_finish (cut (front_of b rest) line at (b ∷ rest)) (λ n. scan rest (n - 1) (line_after line b) (at + 1)) next more

-- ---- what is left

complete_left : (o : Option Token) (r : Settled) (total : ℕ) → IsLeft r.1 total → IsLeft (with_complete o r).1 total
complete_left None r total h = h
complete_left (Some t) r total h = h

on_left : (n : ℕ) (r : Result (ℕ × Option Token) LexError) (next : ℕ → Settled) (total : ℕ) → IsSized n r
    → IsLeft (next n).1 total → IsLeft (settle_on r next).1 total
on_left n (Err e) next total h l = tt
on_left n (Ok (m, o)) next total h l = complete_left o (next m) total (subst (λ k. IsLeft (next k).1 total) (sym h) l)

pub is_left : (xs : List ℕ) (k line at : ℕ) → k ≤ length xs → IsLeft (settle xs k line at).1 (at + length xs)
is_left [] zero line at h = omega arith
is_left [] (suc k) line at h = absurd (omega arith)
is_left (b ∷ rest) (suc k) line at h =
    subst (IsLeft (settle rest k line (at + 1)).1) (let e : at + 1 + length rest ≡ at + suc (length rest) = omega arith in e)
    (is_left rest k line (at + 1) (let e : k ≤ length rest = omega arith in e))
is_left (b ∷ rest) zero line at h =
    by_test (is_open b rest) refl (is_left rest (size (front_of b rest) - 1) (line_after line b) (at + 1) below)
  where
    next : ℕ → Settled
    next n = settle rest (n - 1) (line_after line b) (at + 1)

    below : size (front_of b rest) - 1 ≤ length rest
    below = omega (arith, (inside b rest).fits)

    by_test : (t : Bool) → is_open b rest ≡ t → IsLeft (next (size (front_of b rest))).1 (at + 1 + length rest)
        → IsLeft (cond t ([], Rest line at (b ∷ rest)) (settle_on (cut (front_of b rest) line at (b ∷ rest)) next)).1 (at + length (b ∷ rest))
    by_test true e more = (refl, e)
    by_test false e more =
        on_left (size (front_of b rest)) (cut (front_of b rest) line at (b ∷ rest)) next (at + length (b ∷ rest))
        (sized (front_of b rest) line at (b ∷ rest))
        (subst (IsLeft (next (size (front_of b rest))).1) (let e : at + 1 + length rest ≡ at + suc (length rest) = omega arith in e) more)

-- ---- one lexeme after another

-- the rest of a lexeme is passed over
pub settle_skipped : (xs : List ℕ) (k line at : ℕ) → k ≤ length xs → settle xs k line at ≡ settle (drop k xs) 0 line (at + k)
settle_skipped [] zero line at h = ap (λ n. settle [] 0 line n) (let e : at ≡ at + 0 = omega arith in e)
settle_skipped [] (suc k) line at h = absurd (omega arith)
settle_skipped (x ∷ xs) zero line at h = ap (λ n. settle (x ∷ xs) 0 line n) (let e : at ≡ at + 0 = omega arith in e)
settle_skipped (x ∷ xs) (suc k) line at h =
    let below : k ≤ length xs = omega arith in
    settle_skipped xs k line (at + 1) below
    ∙ ap (λ n. settle (drop k xs) 0 line n) (let e : at + 1 + k ≡ at + suc k = omega arith in e)

after_complete : (ts : List Token) (t : Option Token) (r : Settled)
    → settle_after ts (with_complete t r) ≡ settle_after (ts ++ option_to_list t) r
after_complete ts None r = ap (λ us. settle_after us r) (sym (append-nil ts))
after_complete ts (Some t) r = ap (λ us. let p : Settled = (us, r.1) in p) (sym (append_assoc ts (t ∷ []) r.0))

pub whole_opens : (b : ℕ) (rest : List ℕ) → has_whole (b ∷ rest) ≡ true → is_open b rest ≡ false
whole_opens b rest h = by_test (is_open b rest) h
  where
    by_test : (t : Bool) → not t ≡ true → t ≡ false
    by_test true h = absurd cc
    by_test false h = refl

pub front_settles : (bytes : List ℕ) (n line at : ℕ) (t : Option Token) (ts : List Token) → 0 < n → n ≤ length bytes
    → has_whole bytes ≡ true → cut_front bytes line at ≡ Ok (n, t)
    → settle_after (ts ++ option_to_list t) (settle (drop n bytes) 0 (line_after line (get_or bytes 0 0)) (at + n))
    ≡ settle_after ts (settle bytes 0 line at)
front_settles [] n line at t ts some h w e = absurd (omega arith)
front_settles (b ∷ rest) zero line at t ts some h w e = absurd (omega arith)
front_settles (b ∷ rest) (suc k) line at t ts some h w e =
    let below : k ≤ length rest = omega arith in
    let pass : settle rest k (line_after line b) (at + 1) ≡ settle (drop k rest) 0 (line_after line b) (at + suc k)
    = settle_skipped rest k (line_after line b) (at + 1) below
    ∙ ap (λ n. settle (drop k rest) 0 (line_after line b) n) (let e : at + 1 + k ≡ at + suc k = omega arith in e) in
    let one : suc k - 1 ≡ k = omega arith in
    rw (whole_opens b rest w, e, one, after_complete ts t (settle rest k (line_after line b) (at + 1)), pass) refl
