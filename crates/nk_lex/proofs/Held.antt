-- What is kept between two pieces, and what a piece makes of it.
use Rattle.std.proofs.Common.{◌≡◌, ◌+◌, ◌-◌, ◌*◌, ◌==◌, ℕ, zero, suc, List, [], ◌∷◌, ◌++◌, Bool, true, false, length, refl, sym, ◌∙◌, ap, arith, cond, Option, min, subst, append-nil}
use Rattle.std.proofs.lemmas.List.Sums.{fold-append}
use Rattle.std.specs.Prelude.{Some, None, take_while, ⊤}
use Rattle.std.specs.List.{list_all, prefix_len}
use Rattle.nk_lex.specs.declared.front.Front.{Front}
use Rattle.nk_lex.specs.declared.front.Front.TheVariants as front
use Rattle.nk_lex.specs.declared.unfinished.Pending.{Pending}
use Rattle.nk_lex.specs.declared.unfinished.Pending.TheVariants as pending
use Rattle.nk_lex.specs.Classes.{is_digit, is_name_byte, is_name_start, is_white, not_line_feed}
use Rattle.nk_lex.specs.Lex.{cut, front_of, largest, line_after, one_byte, scan, single_of, symbol_of, value_of}
use Rattle.nk_lex.proofs.Cuts.{IsLeft, resumed}
use Rattle.nk_lex.specs.Kept.{IsKept, pending_of, value_on}
use Rattle.nk_lex.specs.NextPiece.{ended, goes_on, held_past, holds_on, number_settled, pending_past}
use Rattle.nk_lex.specs.Pieces.{Left, Rest, Fault, begins_longer, held_of, is_empty, is_open, settle, settle_on}
use Rattle.nk_lex.proofs.Standing.{of_both, run_length, size}
use Rattle.nk_lex.proofs.Arms.{all_then, comment_on, digit_open, number_on, prefix_past, value_stops}

-- ---- the kind of what is kept

module _ (b : ℕ) (rest : List ℕ) where
  comment_pending : (at : ℕ) → (b == 35) ≡ true → pending_of at (b ∷ rest) ≡ pending.Comment
  comment_pending at h = ap (λ t. cond t pending.Comment (cond (is_digit b) (pending.Number at (min (value_of (b ∷ rest)) (largest + 1))) pending.Held)) h

  comment_held : (b == 35) ≡ true → held_of (b ∷ rest) ≡ []
  comment_held h = ap (λ t. cond t [] (cond (is_digit b) [] (b ∷ rest))) h

  number_pending : (at : ℕ) → (b == 35) ≡ false → is_digit b ≡ true
      → pending_of at (b ∷ rest) ≡ pending.Number at (min (value_of (b ∷ rest)) (largest + 1))
  number_pending at h d = rw (h, d) refl

  number_held : (b == 35) ≡ false → is_digit b ≡ true → held_of (b ∷ rest) ≡ []
  number_held h d = rw (h, d) refl

  word_pending : (at : ℕ) → (b == 35) ≡ false → is_digit b ≡ false → pending_of at (b ∷ rest) ≡ pending.Held
  word_pending at h d = rw (h, d) refl

  word_held : (b == 35) ≡ false → is_digit b ≡ false → held_of (b ∷ rest) ≡ b ∷ rest
  word_held h d = rw (h, d) refl

-- a name or a symbol is open
abbrev pub word_open : ℕ → List ℕ → Bool
word_open b rest = cond (is_name_start b) (list_all is_name_byte rest) (cond (begins_longer b) (is_empty rest) false)

word_is_open : (b : ℕ) (rest : List ℕ) → is_white b ≡ false → (b == 35) ≡ false → is_digit b ≡ false
    → is_open b rest ≡ word_open b rest
word_is_open b rest w c d = rw (w, c, d) refl

-- what is open isn't white
pub open_white : (b : ℕ) (rest : List ℕ) → is_open b rest ≡ true → is_white b ≡ false
open_white b rest o = by_test (is_white b) _ o
  where
    by_test : (t : Bool) (u : Bool) → cond t false u ≡ true → t ≡ false
    by_test true u h = absurd cc
    by_test false u h = refl

-- ---- all of a piece belongs to what is open

pub empty_is : (xs : List ℕ) → is_empty xs ≡ true → xs ≡ []
empty_is [] h = refl
empty_is (x ∷ xs) h = absurd cc

word_goes : (s : Bool) (l : Bool) (p q r : Bool) (rest piece : List ℕ)
    → cond s p (cond l (is_empty rest) false) ≡ true → cond s q (is_empty piece) ≡ true
    → (p ≡ true → q ≡ true → r ≡ true) → cond s r (cond l (is_empty (rest ++ piece)) false) ≡ true
word_goes true l p q r rest piece o g f = f o g
word_goes false false p q r rest piece o g f = absurd cc
word_goes false true p q r rest piece o g f =
    ap is_empty (ap (λ xs. xs ++ piece) (empty_is rest o) ∙ empty_is piece g)

-- what was left goes on over the piece
pub record Goes (l : Left) (line : ℕ) (p : Pending) (held piece : List ℕ) : Type 0 where
  pub tokens : (resumed l piece).0 ≡ []
  pub kept : IsKept (resumed l piece).1 line (pending_past p piece) (held_past p held piece)

-- bytes that are open with the piece
stays_open : (b : ℕ) (rest piece : List ℕ) (line at : ℕ) → is_open b (rest ++ piece) ≡ true
    → settle (b ∷ rest ++ piece) 0 line at ≡ ([], Rest line at (b ∷ rest ++ piece))
stays_open b rest piece line at o =
    ap (λ t. cond t ([], Rest line at (b ∷ rest ++ piece)) (settle_on (cut (front_of b (rest ++ piece)) line at (b ∷ rest ++ piece)) (λ n. settle (rest ++ piece) (n - 1) (line_after line b) (at + 1)))) o

goes_open : (b : ℕ) (rest piece : List ℕ) (l line at : ℕ) (p : Pending) (held : List ℕ)
    → is_open b (rest ++ piece) ≡ true → line ≡ l → pending_past p piece ≡ pending_of at (b ∷ rest ++ piece)
    → held_past p held piece ≡ held_of (b ∷ rest ++ piece) → Goes (Rest l at (b ∷ rest)) line p held piece
goes_open b rest piece l line at p held o same q h =
    let is : settle (b ∷ rest ++ piece) 0 l at ≡ ([], Rest l at (b ∷ rest ++ piece)) = stays_open b rest piece l at o in
    record { tokens = ap (λ r. r.0) is; kept = subst (λ r. IsKept r line (pending_past p piece) (held_past p held piece)) (sym (ap (λ r. r.1) is)) (same, q, h) }

-- the kinds of open bytes
pub goes_past : (b : ℕ) (rest piece : List ℕ) (l line at : ℕ) (p : Pending) (held : List ℕ) → is_open b rest ≡ true
    → IsKept (Rest l at (b ∷ rest)) line p held → goes_on p held piece ≡ true → Goes (Rest l at (b ∷ rest)) line p held piece
goes_past b rest piece l line at p held o k g = by_comment (b == 35) refl
  where
    white : is_white b ≡ false
    white = open_white b rest o

    all_of : (q : Pending) → p ≡ q → goes_on q held piece ≡ true
    all_of q e = subst (λ q. goes_on q held piece ≡ true) e g

    comment : (b == 35) ≡ true → Goes (Rest l at (b ∷ rest)) line p held piece
    comment c =
        let is : p ≡ pending.Comment = k.1 ∙ comment_pending b rest at c in
        let none : held ≡ [] = k.2 ∙ comment_held b rest c in
        let here : list_all not_line_feed rest ≡ true
        = sym (let e : is_open b rest ≡ list_all not_line_feed rest = rw (white, c) refl in e) ∙ o in
        let opened : is_open b (rest ++ piece) ≡ true
        = (let e : is_open b (rest ++ piece) ≡ list_all not_line_feed (rest ++ piece) = rw (white, c) refl in e)
        ∙ all_then not_line_feed rest piece true here (all_of pending.Comment is) in
        goes_open b rest piece l line at p held opened k.0
        (ap (λ q. pending_past q piece) is ∙ sym (comment_pending b (rest ++ piece) at c))
        (ap (λ q. held_past q held piece) is ∙ none ∙ sym (comment_held b (rest ++ piece) c))

    number : (b == 35) ≡ false → is_digit b ≡ true → Goes (Rest l at (b ∷ rest)) line p held piece
    number c d =
        let v : ℕ = min (value_of (b ∷ rest)) (largest + 1) in
        let is : p ≡ pending.Number at v = k.1 ∙ number_pending b rest at c d in
        let none : held ≡ [] = k.2 ∙ number_held b rest c d in
        let opened : is_open b (rest ++ piece) ≡ true
        = digit_open b (rest ++ piece) d
        ∙ all_then is_digit rest piece true (sym (digit_open b rest d) ∙ o) (all_of (pending.Number at v) is) in
        let value : min (value_on v piece) (largest + 1) ≡ min (value_of (b ∷ rest ++ piece)) (largest + 1)
        = value_stops piece (value_of (b ∷ rest))
        ∙ ap (λ x. min x (largest + 1)) (sym (fold-append (λ n d. n * 10 + (d - 48)) 0 (b ∷ rest) piece)) in
        goes_open b rest piece l line at p held opened k.0
        (ap (λ q. pending_past q piece) is ∙ ap (pending.Number at) value ∙ sym (number_pending b (rest ++ piece) at c d))
        (ap (λ q. held_past q held piece) is ∙ none ∙ sym (number_held b (rest ++ piece) c d))

    word : (b == 35) ≡ false → is_digit b ≡ false → Goes (Rest l at (b ∷ rest)) line p held piece
    word c d =
        let is : p ≡ pending.Held = k.1 ∙ word_pending b rest at c d in
        let bytes : held ≡ b ∷ rest = k.2 ∙ word_held b rest c d in
        let goes : holds_on (b ∷ rest) piece ≡ true = subst (λ h. holds_on h piece ≡ true) bytes (all_of pending.Held is) in
        let opened : is_open b (rest ++ piece) ≡ true
        = word_is_open b (rest ++ piece) white c d
        ∙ word_goes (is_name_start b) (begins_longer b) _ _ _ rest piece (sym (word_is_open b rest white c d) ∙ o) goes
        (all_then is_name_byte rest piece true) in
        goes_open b rest piece l line at p held opened k.0
        (ap (λ q. pending_past q piece) is ∙ sym (word_pending b (rest ++ piece) at c d))
        (ap (λ q. held_past q held piece) is ∙ ap (λ h. h ++ piece) bytes ∙ sym (word_held b (rest ++ piece) c d))

    by_digit : (b == 35) ≡ false → (t : Bool) → is_digit b ≡ t → Goes (Rest l at (b ∷ rest)) line p held piece
    by_digit c true d = number c d
    by_digit c false d = word c d

    by_comment : (t : Bool) → (b == 35) ≡ t → Goes (Rest l at (b ∷ rest)) line p held piece
    by_comment true c = comment c
    by_comment false c = by_digit c (is_digit b) refl

pub goes : (l : Left) (fed line : ℕ) (p : Pending) (held piece : List ℕ) → IsLeft l fed → IsKept l line p held
    → goes_on p held piece ≡ true → Goes l line p held piece
goes (Fault e) fed line p held piece h k g = record {
  tokens = refl;
  kept = (
    ap (λ q. pending_past q piece) k.0,
    ap (λ q. held_past q held piece) k.0 ∙ k.1,
  );
}
goes (Rest l at []) fed line p held piece h k g =
    let none : piece ≡ [] = empty_is piece (subst (λ q. goes_on q held piece ≡ true) k.1 g) in
    let is : settle piece 0 l at ≡ ([], Rest l at []) = ap (λ xs. settle xs 0 l at) none in
    record {
      tokens = ap (λ r. r.0) is;
      kept = subst (λ r. IsKept r line (pending_past p piece) (held_past p held piece)) (sym (ap (λ r. r.1) is))
          (k.0, ap (λ q. pending_past q piece) k.1, ap (λ q. held_past q held piece) k.1 ∙ k.2);
    }
goes (Rest l at (b ∷ rest)) fed line p held piece h k g = goes_past b rest piece l line at p held h.1 k g

-- ---- the kinds of what is left

-- what is left, by what is kept of it
abbrev pub IsOpened : Left → (fed line : ℕ) → Pending → List ℕ → Type 0
IsOpened l fed line pending.Nothing held = l ≡ Rest line fed []
IsOpened l fed line pending.Comment held =
    (b : ℕ) × (rest : List ℕ) × (at : ℕ) × (l ≡ Rest line at (b ∷ rest)) × ((b == 35) ≡ true) × (is_open b rest ≡ true)
    × (at + length (b ∷ rest) ≡ fed)
IsOpened l fed line (pending.Number at v) held =
    (b : ℕ) × (rest : List ℕ) × (l ≡ Rest line at (b ∷ rest)) × (is_digit b ≡ true) × (is_open b rest ≡ true)
    × (at + length (b ∷ rest) ≡ fed) × (v ≡ min (value_of (b ∷ rest)) (largest + 1))
IsOpened l fed line pending.Held held =
    (b : ℕ) × (rest : List ℕ) × (l ≡ Rest line (fed - length held) (b ∷ rest)) × (held ≡ b ∷ rest)
    × (is_open b rest ≡ true) × ((b == 35) ≡ false) × (is_digit b ≡ false)
IsOpened l fed line (pending.Fault e) held = l ≡ Fault e

opened_bytes : (b : ℕ) (rest : List ℕ) (at fed line : ℕ) → is_open b rest ≡ true → at + length (b ∷ rest) ≡ fed
    → IsOpened (Rest line at (b ∷ rest)) fed line (pending_of at (b ∷ rest)) (held_of (b ∷ rest))
opened_bytes b rest at fed line o whole = by_comment (b == 35) refl
  where
    X : Pending → List ℕ → Type 0
    X p held = IsOpened (Rest line at (b ∷ rest)) fed line p held

    two : (p q : Pending) (h k : List ℕ) → p ≡ q → h ≡ k → X q k → X p h
    two p q h k e f x = subst (λ p. X p h) (sym e) (subst (X q) (sym f) x)

    start : at ≡ fed - length (b ∷ rest)
    start = omega (arith, whole)

    by_digit : (b == 35) ≡ false → (t : Bool) → is_digit b ≡ t → X (pending_of at (b ∷ rest)) (held_of (b ∷ rest))
    by_digit c true d =
        two _ (pending.Number at (min (value_of (b ∷ rest)) (largest + 1))) _ [] (number_pending b rest at c d) (number_held b rest c d)
        (b, rest, refl, d, o, whole, refl)
    by_digit c false d =
        two _ pending.Held _ (b ∷ rest) (word_pending b rest at c d) (word_held b rest c d)
        (b, rest, ap (λ k. Rest line k (b ∷ rest)) start, refl, o, c, d)

    by_comment : (t : Bool) → (b == 35) ≡ t → X (pending_of at (b ∷ rest)) (held_of (b ∷ rest))
    by_comment true c =
        two _ pending.Comment _ [] (comment_pending b rest at c) (comment_held b rest c) (b, rest, at, refl, c, o, whole)
    by_comment false c = by_digit c (is_digit b) refl

pub opened : (l : Left) (fed line : ℕ) (p : Pending) (held : List ℕ) → IsLeft l fed → IsKept l line p held
    → IsOpened l fed line p held
opened (Fault e) fed line p held h k = subst (λ q. IsOpened (Fault e) fed line q held) (sym k.0) refl
opened (Rest l at []) fed line p held h k =
    subst (λ q. IsOpened (Rest l at []) fed line q held) (sym k.1)
    (ap (λ m. Rest m at []) (sym k.0) ∙ ap (λ m. Rest line m []) h)
opened (Rest l at (b ∷ rest)) fed line p held h k =
    subst (λ m. IsOpened (Rest m at (b ∷ rest)) fed line p held) k.0
    (subst (λ q. IsOpened (Rest line at (b ∷ rest)) fed line q held) (sym k.1)
    (subst (IsOpened (Rest line at (b ∷ rest)) fed line (pending_of at (b ∷ rest))) (sym k.2)
    (opened_bytes b rest at fed line h.1 h.0)))

-- a piece that ends what is open
pub ends : (l : Left) (fed line : ℕ) (p : Pending) (held piece : List ℕ) → IsOpened l fed line p held
    → goes_on p held piece ≡ false → resumed l piece ≡ ended p held fed line piece
ends l fed line pending.Nothing held piece i g = ap (λ m. resumed m piece) i
ends l fed line pending.Comment held piece (b, rest, at, is, c, o, whole) g =
    ap (λ m. resumed m piece) is ∙ comment_on b rest piece line at fed c o whole g
ends l fed line (pending.Number at v) held piece (b, rest, is, d, o, whole, value) g =
    ap (λ m. resumed m piece) is ∙ number_on b rest piece line at fed d o whole g
    ∙ ap (λ x. number_settled at x fed line piece) (sym value)
ends l fed line pending.Held held piece (b, rest, is, bytes, o, c, d) g =
    ap (λ m. resumed m piece) is ∙ ap (λ xs. settle (xs ++ piece) 0 line (fed - length held)) (sym bytes)
ends l fed line (pending.Fault e) held piece i g = ap (λ m. resumed m piece) i

-- ---- the end of the text

-- bytes that all belong to one lexeme are passed over
pub scan_passed : (xs : List ℕ) (k line at : ℕ) → k ≡ length xs → scan xs k line at ≡ ([], None)
scan_passed [] k line at h = refl
scan_passed (x ∷ xs) zero line at h = absurd (omega arith)
scan_passed (x ∷ xs) (suc k) line at h = scan_passed xs k line (at + 1) (let e : k ≡ length xs = omega arith in e)

pub run_whole : (p : ℕ → Bool) (xs : List ℕ) → list_all p xs ≡ true → length (take_while p xs) + 1 ≡ suc (length xs)
run_whole p xs h =
    let all : prefix_len p (xs ++ []) ≡ length xs + prefix_len p [] = prefix_past p xs [] h in
    let same : prefix_len p (xs ++ []) ≡ prefix_len p xs = ap (prefix_len p) (append-nil xs) in
    let none : prefix_len p [] ≡ 0 = refl in
    omega (arith, run_length p xs, all, same, none)

-- the lexeme has all the bytes, where it is one
abbrev pub HasAll : ℕ → Front → Type 0
HasAll n front.Bad = ⊤
HasAll n f = size f ≡ n

single_alone : (o : Option _) → HasAll 1 (one_byte o)
single_alone None = tt
single_alone (Some k) = refl

symbol_alone : (b : ℕ) → HasAll 1 (symbol_of b [])
symbol_alone b =
    of_both (HasAll 1) (b == 61) _ _ refl
    (of_both (HasAll 1) (b == 58) _ _ refl
    (of_both (HasAll 1) (b == 45) _ _ tt
    (of_both (HasAll 1) (b == 46) _ _ tt (single_alone (single_of b)))))

pub open_all : (b : ℕ) (rest : List ℕ) → is_open b rest ≡ true → HasAll (suc (length rest)) (front_of b rest)
open_all b rest o = go (is_white b) (b == 35) (is_name_start b) (is_digit b) (begins_longer b) o
  where
    X : Front → Type 0
    X = HasAll (suc (length rest))

    symbol : (t : Bool) → cond t (is_empty rest) false ≡ true → X (symbol_of b rest)
    symbol false h = absurd cc
    symbol true h =
        let none : rest ≡ [] = empty_is rest h in
        subst (λ r. HasAll (suc (length r)) (symbol_of b r)) (sym none) (symbol_alone b)

    go : (w c s d l : Bool) → cond w false (cond c (list_all not_line_feed rest) (cond s (list_all is_name_byte rest)
        (cond d (list_all is_digit rest) (cond l (is_empty rest) false)))) ≡ true
        → X (cond w (front.Blank 1) (cond c (front.Blank (length (take_while not_line_feed rest) + 1))
        (cond s (front.Name (length (take_while is_name_byte rest) + 1))
        (cond d (front.Number (length (take_while is_digit rest) + 1)) (symbol_of b rest)))))
    go true c s d l h = absurd cc
    go false true s d l h = run_whole not_line_feed rest h
    go false false true d l h = run_whole is_name_byte rest h
    go false false false true l h = run_whole is_digit rest h
    go false false false false l h = symbol l h
