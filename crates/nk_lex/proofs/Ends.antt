-- The end of a text that came in pieces, and what its pieces gave.
use Rattle.std.proofs.Common.{◌≡◌, ◌≤◌, ◌<◌, ◌+◌, ◌-◌, ℕ, suc, List, [], ◌∷◌, ◌++◌, Bool, true, false, length, take, refl, sym, ◌∙◌, ap, arith, cond, Option, option_to_list, subst}
use Rattle.std.proofs.lemmas.List.{length-append, take_all}
use Rattle.std.specs.Prelude.{Some, None, Ok, Err, take_while, nat_le}
use Rattle.std.specs.declared.result.Result.{Result}
use Rattle.nk_lex.specs.declared.token.Token.{Token}
use Rattle.nk_lex.specs.declared.token.LexError.{LexError}
use Rattle.nk_lex.specs.declared.token.LexError.TheVariants as error
use Rattle.nk_lex.specs.declared.front.Front.{Front}
use Rattle.nk_lex.specs.declared.front.Front.TheVariants as front
use Rattle.nk_lex.specs.declared.kind.Kind.TheVariants as kind
use Rattle.nk_lex.specs.declared.unfinished.Pending.{Pending}
use Rattle.nk_lex.specs.declared.unfinished.Pending.TheVariants as pending
use Rattle.nk_lex.specs.Classes.{is_digit, not_line_feed}
use Rattle.nk_lex.specs.Lex.{LexReturns, Scanned, after, lex_result, cut, front_of, go_on, largest, line_after, number_of, scan, token, tokens_of, value_of, with_length, with_token}
use Rattle.nk_lex.proofs.Cuts.{IsLeft, finished, resumed, settle_after, is_left, scan_finish, settle_more}
use Rattle.nk_lex.specs.Kept.{FeedState, IsFed, IsKept}
use Rattle.nk_lex.specs.NextPiece.{alone, end_answer, ended, goes_on, held_answer, held_past, number_answer, pending_past, wanted_past}
use Rattle.nk_lex.specs.Pieces.{CompletesNothing, Left, Rest, Settled, completed, held_in, is_open, left_by, settle}
use Rattle.nk_lex.proofs.Cutting.{digit_front}
use Rattle.nk_lex.proofs.Arms.{number_kept}
use Rattle.nk_lex.proofs.Held.{Goes, HasAll, IsOpened, ends, goes, open_all, open_white, opened, scan_passed}

-- a lexeme that has all the bytes
abbrev pub sole : Result (ℕ × Option Token) LexError → Scanned
sole (Ok p) = (option_to_list p.1, None)
sole (Err e) = ([], Some e)

sole_token : (t : Token) (r : Scanned) → r ≡ ([], None) → with_token (Some t) r ≡ (t ∷ [], None)
sole_token t r h = ap (with_token (Some t)) h

pub sole_is : (f : Front) (b : ℕ) (rest bytes : List ℕ) (line at : ℕ) → HasAll (suc (length rest)) f
    → go_on (cut f line at bytes) (λ n. scan rest (n - 1) (line_after line b) (at + 1)) ≡ sole (cut f line at bytes)
sole_is (front.Blank n) b rest bytes line at h =
    scan_passed rest (n - 1) (line_after line b) (at + 1) (let e : n - 1 ≡ length rest = omega (arith, h) in e)
sole_is (front.Name n) b rest bytes line at h =
    sole_token _ _ (scan_passed rest (n - 1) (line_after line b) (at + 1) (let e : n - 1 ≡ length rest = omega (arith, h) in e))
sole_is (front.Number n) b rest bytes line at h = by_test (nat_le (value_of (take n bytes)) largest)
  where
    passed : scan rest (n - 1) (line_after line b) (at + 1) ≡ ([], None)
    passed = scan_passed rest (n - 1) (line_after line b) (at + 1) (let e : n - 1 ≡ length rest = omega (arith, h) in e)

    by_test : (t : Bool)
        → go_on (with_length n (cond t (Ok (token kind.Number at n line (value_of (take n bytes)) [])) (Err (error.NumberTooLarge line))))
        (λ n. scan rest (n - 1) (line_after line b) (at + 1))
        ≡ sole (with_length n (cond t (Ok (token kind.Number at n line (value_of (take n bytes)) [])) (Err (error.NumberTooLarge line))))
    by_test true = sole_token _ _ passed
    by_test false = refl
sole_is (front.Symbol n k) b rest bytes line at h =
    sole_token _ _ (scan_passed rest (n - 1) (line_after line b) (at + 1) (let e : n - 1 ≡ length rest = omega (arith, h) in e))
sole_is front.Bad b rest bytes line at h = refl

sole_answer : (r : Result (ℕ × Option Token) LexError) → lex_result (sole r) ≡ alone r
sole_answer (Ok p) = refl
sole_answer (Err e) = refl

-- an open lexeme at the end of the text
open_end : (b : ℕ) (rest : List ℕ) (line at : ℕ) → is_open b rest ≡ true
    → lex_result (finished (Rest line at (b ∷ rest))) ≡ alone (cut (front_of b rest) line at (b ∷ rest))
open_end b rest line at o =
    ap lex_result (sole_is (front_of b rest) b rest (b ∷ rest) line at (open_all b rest o))
    ∙ sole_answer (cut (front_of b rest) line at (b ∷ rest))

pub ends_at : (l : Left) (fed line : ℕ) (p : Pending) (held : List ℕ) → IsOpened l fed line p held
    → lex_result (finished l) ≡ end_answer p held fed line
ends_at l fed line pending.Nothing held i = ap (λ m. lex_result (finished m)) i
ends_at l fed line pending.Comment held (b, rest, at, is, c, o, whole) =
    ap (λ m. lex_result (finished m)) is ∙ open_end b rest line at o
    ∙ ap (λ f. alone (cut f line at (b ∷ rest)))
    (let e : front_of b rest ≡ front.Blank (length (take_while not_line_feed rest) + 1) = rw (open_white b rest o, c) refl in e)
ends_at l fed line (pending.Number at v) held (b, rest, is, d, o, whole, value) =
    ap (λ m. lex_result (finished m)) is ∙ open_end b rest line at o
    ∙ ap (λ f. alone (cut f line at (b ∷ rest))) (digit_front b rest d)
    ∙ ap (λ n. alone (cut (front.Number n) line at (b ∷ rest))) count
    ∙ ap (λ xs. alone (with_length (fed - at) (number_of xs at (fed - at) line))) all
    ∙ ap alone (number_kept (value_of (b ∷ rest)) at (fed - at) line)
    ∙ ap (λ x. number_answer at (fed - at) line x) (sym value)
  where
    size : HasAll (suc (length rest)) (front.Number (length (take_while is_digit rest) + 1))
    size = subst (HasAll (suc (length rest))) (digit_front b rest d) (open_all b rest o)

    count : length (take_while is_digit rest) + 1 ≡ fed - at
    count = omega (arith, size, whole)

    all : take (fed - at) (b ∷ rest) ≡ b ∷ rest
    all = take_all (fed - at) (b ∷ rest) (let e : length (b ∷ rest) ≤ fed - at = omega (arith, whole) in e)
ends_at l fed line pending.Held held (b, rest, is, bytes, o, c, d) =
    ap (λ m. lex_result (finished m)) is ∙ open_end b rest line (fed - length held) o
    ∙ ap (λ xs. held_answer xs line (fed - length held)) (sym bytes)
ends_at l fed line (pending.Fault e) held i = ap (λ m. lex_result (finished m)) i

-- ---- the whole text

-- what comes after these tokens
abbrev prefixed : List Token → Result (List Token) LexError → Result (List Token) LexError
prefixed ts (Ok us) = Ok (ts ++ us)
prefixed ts (Err e) = Err e

answer_after : (ts us : List Token) (o : Option LexError) → lex_result (after ts (us, o)) ≡ prefixed ts (lex_result (us, o))
answer_after ts us None = refl
answer_after ts us (Some e) = refl

returns_after : {Y : Type 0} (view : Y → List Token) (ts : List Token) (result : Result Y LexError) (a : Result (List Token) LexError)
    → LexReturns view result a → LexReturns (λ v. ts ++ view v) result (prefixed ts a)
returns_after view ts (Err error.NoMemory) a h = tt
returns_after view ts result a h = ap (prefixed ts) h

-- what is left of a text that was fed
pub fed_opened : (text : List ℕ) (s : FeedState) → IsFed text s → IsOpened (left_by text) s.fed s.line s.pending s.held
fed_opened text s f =
    opened (left_by text) s.fed s.line s.pending s.held
    (subst (IsLeft (left_by text)) (let e : 0 + length text ≡ s.fed = omega (arith, f.fed) in e) (is_left text 0 1 0 (omega arith)))
    f.kept

pub fed_ends : {Y : Type 0} (view : Y → List Token) (text : List ℕ) (s : FeedState) (result : Result Y LexError) → IsFed text s
    → LexReturns view result (end_answer s.pending s.held s.fed s.line)
    → LexReturns (λ v. completed text ++ view v) result (tokens_of text)
fed_ends view text s result f r =
    let l : Left = left_by text in
    let same : tokens_of text ≡ prefixed (completed text) (end_answer s.pending s.held s.fed s.line)
    = ap lex_result (scan_finish text 0 1 0)
    ∙ answer_after (completed text) (finished l).0 (finished l).1
    ∙ ap (prefixed (completed text)) (ends_at l s.fed s.line s.pending s.held (fed_opened text s f)) in
    subst (LexReturns (λ v. completed text ++ view v) result) (sym same)
    (returns_after view (completed text) result (end_answer s.pending s.held s.fed s.line) r)

-- ---- one piece more

-- how a text and a piece are cut
pub text_more : (text piece : List ℕ) → settle (text ++ piece) 0 1 0 ≡ settle_after (completed text) (resumed (left_by text) piece)
text_more text piece = settle_more text piece 0 1 0 (omega arith)

-- how they are cut where the piece ends what is open
pub fed_ended : (text piece : List ℕ) (s : FeedState) → IsFed text s → goes_on s.pending s.held piece ≡ false
    → settle (text ++ piece) 0 1 0 ≡ settle_after (completed text) (ended s.pending s.held s.fed s.line piece)
fed_ended text piece s f g =
    text_more text piece
    ∙ ap (settle_after (completed text)) (ends (left_by text) s.fed s.line s.pending s.held piece (fed_opened text s f) g)

-- what is kept then
pub fed_next : (text piece : List ℕ) (s : FeedState) (n : FeedState) (ts : List Token) → IsFed text s
    → goes_on s.pending s.held piece ≡ false → n.fed ≡ s.fed + length piece
    → ts ≡ [] ++ (ended s.pending s.held s.fed s.line piece).0
    → IsKept (ended s.pending s.held s.fed s.line piece).1 n.line n.pending n.held
    → (completed text ++ ts ≡ completed (text ++ piece)) × IsFed (text ++ piece) n
fed_next text piece s n ts f g count tokens kept =
    let is = fed_ended text piece s f g in (
      ap (λ us. completed text ++ us) tokens ∙ sym (ap (λ r. r.0) is),
      record {
        fed = omega (arith, count, f.fed, length-append text piece);
        kept = subst (λ l. IsKept l n.line n.pending n.held) (sym (ap (λ r. r.1) is)) kept;
      },
    )

-- what is kept where all of the piece belongs to what is open
pub fed_goes : (text piece : List ℕ) (s : FeedState) (n : FeedState) → IsFed text s → goes_on s.pending s.held piece ≡ true
    → n.fed ≡ s.fed + length piece → n.line ≡ s.line → n.pending ≡ pending_past s.pending piece
    → n.held ≡ held_past s.pending s.held piece
    → (completed text ++ [] ≡ completed (text ++ piece)) × IsFed (text ++ piece) n
fed_goes text piece s n f g count line p held =
    let l : Left = left_by text in
    let left : IsLeft l s.fed
    = subst (IsLeft l) (let e : 0 + length text ≡ s.fed = omega (arith, f.fed) in e) (is_left text 0 1 0 (omega arith)) in
    let on : Goes l s.line s.pending s.held piece = goes l s.fed s.line s.pending s.held piece left f.kept g in
    let is = text_more text piece in (
      ap (λ us. completed text ++ us) (sym on.tokens) ∙ sym (ap (λ r. r.0) is),
      record {
        fed = omega (arith, count, f.fed, length-append text piece);
        kept = subst (λ l. IsKept l n.line n.pending n.held) (sym (ap (λ r. r.1) is))
            (subst (λ m. IsKept (resumed l piece).1 m n.pending n.held) (sym line)
            (subst (λ q. IsKept (resumed l piece).1 s.line q n.held) (sym p)
            (subst (IsKept (resumed l piece).1 s.line (pending_past s.pending piece)) (sym held) on.kept)));
      },
    )

-- ---- no memory is wanted

no_want : (l : Left) (fed line : ℕ) (p : Pending) (held : List ℕ) (r : Settled) → IsOpened l fed line p held → held ≡ []
    → length r.0 ≡ 0 → length (held_in r.1) ≡ 0 → 0 < wanted_past p r → ⊥
no_want l fed line pending.Held held r (x, rest, is, bytes, o, c, d) none a b h =
    let bad : x ∷ rest ≡ [] = sym bytes ∙ none in absurd cc
no_want l fed line p held r i none a b h = omega (arith, a, b, h)

-- where no name and no symbol is open, and a piece completes no token and leaves none open
pub fed_quiet : (text piece : List ℕ) (s : FeedState) → IsFed text s → goes_on s.pending s.held piece ≡ false → s.held ≡ []
    → CompletesNothing text piece → 0 < wanted_past s.pending (ended s.pending s.held s.fed s.line piece) → ⊥
fed_quiet text piece s f g none q h =
    let r : Settled = ended s.pending s.held s.fed s.line piece in
    let is = fed_ended text piece s f g in
    let tokens : completed text ++ r.0 ≡ completed text = sym (ap (λ r. r.0) is) ∙ q.0 in
    let held : held_in r.1 ≡ [] = sym (ap (λ r. held_in r.1) is) ∙ q.1 in
    no_want (left_by text) s.fed s.line s.pending s.held r (fed_opened text s f) none
    (omega (arith, ap length tokens, length-append (completed text) r.0)) (ap length held) h
