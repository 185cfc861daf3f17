-- What holds of every token that a text gives: one lexeme, and the scan over all of them.
use Rattle.std.proofs.Common.{◌≡◌, ◌<◌, ◌≤◌, ◌+◌, ◌-◌, ◌==◌, ℕ, zero, suc, List, [], ◌∷◌, ◌++◌, Bool, true, false, length, take, drop, refl, sym, ◌∙◌, ap, arith, append_assoc, cond, Option, subst, get_or}
use Rattle.std.proofs.lemmas.Bool.Decides.{nat_tests}
use Rattle.std.proofs.Math.ListN.{get_or-append}
use Rattle.std.proofs.Math.Seq.{take-append_seam, drop-append_seam}
use Rattle.std.proofs.lemmas.List.{length-append}
use Rattle.std.proofs.lemmas.List.Elements.{All-nil}
use Rattle.std.proofs.lemmas.List.Sums.{sum_by-append}
use Rattle.std.specs.Prelude.{Some, None, Ok, Err, take_while, nat_le, codes, ⊤}
use Rattle.std.specs.List.{All, prefix_len}
use Rattle.std.specs.Str.{bytes_eq}
use Rattle.std.specs.declared.result.Result.{Result}
use Rattle.nk_lex.specs.declared.token.Token.{Token}
use Rattle.nk_lex.specs.declared.token.LexError.{LexError}
use Rattle.nk_lex.specs.declared.token.LexError.TheVariants as error
use Rattle.nk_lex.specs.declared.kind.Kind.{Kind}
use Rattle.nk_lex.specs.declared.kind.Kind.TheVariants as kind
use Rattle.nk_lex.specs.declared.front.Front.{Front}
use Rattle.nk_lex.specs.declared.front.Front.TheVariants as front
use Rattle.nk_lex.specs.Classes.{is_digit, is_name_byte, is_name_start, is_white, not_line_feed}
use Rattle.nk_lex.specs.Kinds.{kind_of_name}
use Rattle.nk_lex.specs.Lex.{Scanned, after, cut, front_of, go_on, largest, line_after, number_of, one_byte, scan, single_of, starts_with_byte, symbol_of, token, value_of, with_length}
use Rattle.nk_lex.specs.Spans.{StandInOrder, line_feeds, span_of, tokens_before_fault}

-- what holds of each element, and of one more in front
pub all_cons : {X : Type 0} (P : X → Type 0) (x : X) (xs : List X) → P x → All P xs → All P (x ∷ xs)
all_cons P x xs p ps zero d h = p
all_cons P x xs p ps (suc k) d h = ps k d (omega arith)

-- what holds of both branches of a test
pub of_both : {X : Type 0} (P : X → Type 0) (t : Bool) (x y : X) → P x → P y → P (cond t x y)
of_both P true x y p q = p
of_both P false x y p q = q

-- how many bytes a lexeme has
abbrev pub size : Front → ℕ
size (front.Blank n) = n
size (front.Name n) = n
size (front.Number n) = n
size (front.Symbol n k) = n
size front.Bad = 1

-- a symbol is no name and no number
abbrev pub IsSymbol : Front → Type 0
IsSymbol (front.Symbol n k) = (k ≡ kind.Name → ⊥) × (k ≡ kind.Number → ⊥)
IsSymbol f = ⊤

-- a lexeme has a byte, no more than there are, and no line feed after its first byte
pub record Inside (f : Front) (rest : List ℕ) : Type 0 where
  pub some : 0 < size f
  pub fits : size f ≤ 1 + length rest
  pub feeds : line_feeds (take (size f - 1) rest) ≡ 0
  pub symbol : IsSymbol f

-- a run is as long as its length says
pub run_length : (p : ℕ → Bool) (xs : List ℕ) → length (take_while p xs) ≡ prefix_len p xs
run_length p [] = refl
run_length p (x ∷ xs) = by_test (p x) (run_length p xs)
  where
    by_test : (t : Bool) → length (take_while p xs) ≡ prefix_len p xs
        → length (take (cond t (1 + prefix_len p xs) 0) (x ∷ xs)) ≡ cond t (1 + prefix_len p xs) 0
    by_test true h =
        let one : 1 + prefix_len p xs ≡ suc (prefix_len p xs) = omega arith in rw one (ap suc h)
    by_test false h = refl

-- a run is no longer than the bytes
run_fits : (p : ℕ → Bool) (xs : List ℕ) → prefix_len p xs ≤ length xs
run_fits p [] = omega arith
run_fits p (x ∷ xs) = by_test (p x) (run_fits p xs)
  where
    by_test : (t : Bool) → prefix_len p xs ≤ length xs → cond t (1 + prefix_len p xs) 0 ≤ suc (length xs)
    by_test true h = omega arith
    by_test false h = omega arith

-- the line feeds of two texts, one after the other
pub feeds_append : (xs ys : List ℕ) → line_feeds (xs ++ ys) ≡ line_feeds xs + line_feeds ys
feeds_append xs ys = sum_by-append (λ b. cond (b == 10) 1 0) xs ys

-- a byte that is no line feed adds none
feeds_more : (x : ℕ) (xs : List ℕ) → (x == 10) ≡ false → line_feeds xs ≡ 0 → line_feeds (x ∷ xs) ≡ 0
feeds_more x xs h rest =
    let zero : line_feeds (x ∷ []) ≡ 0 = rw h refl in
    omega (arith, feeds_append (x ∷ []) xs, rest, zero)

-- a test that no line feed passes leaves none in a run
run_feeds : (p : ℕ → Bool) → ((b : ℕ) → p b ≡ true → (b == 10) ≡ false) → (xs : List ℕ)
    → line_feeds (take (prefix_len p xs) xs) ≡ 0
run_feeds p none [] = refl
run_feeds p none (x ∷ xs) = by_test (p x) refl (run_feeds p none xs)
  where
    by_test : (t : Bool) → p x ≡ t → line_feeds (take (prefix_len p xs) xs) ≡ 0
        → line_feeds (take (cond t (1 + prefix_len p xs) 0) (x ∷ xs)) ≡ 0
    by_test true h rest =
        let one : 1 + prefix_len p xs ≡ suc (prefix_len p xs) = omega arith in
        rw one (feeds_more x (take (prefix_len p xs) xs) (none x h) rest)
    by_test false h rest = refl

-- a run of bytes after the first
run_size : (p : ℕ → Bool) (rest : List ℕ) → length (take_while p rest) + 1 - 1 ≡ prefix_len p rest
run_size p rest = omega (arith, run_length p rest)

run_more : (p : ℕ → Bool) (rest : List ℕ) → length (take_while p rest) + 1 ≤ 1 + length rest
run_more p rest = omega (arith, run_length p rest, run_fits p rest)

run_without : (p : ℕ → Bool) → ((b : ℕ) → p b ≡ true → (b == 10) ≡ false) → (rest : List ℕ)
    → line_feeds (take (length (take_while p rest) + 1 - 1) rest) ≡ 0
run_without p none rest = ap (λ n. line_feeds (take n rest)) (run_size p rest) ∙ run_feeds p none rest

no_feed_in_comment : (b : ℕ) → not_line_feed b ≡ true → (b == 10) ≡ false
no_feed_in_comment b h = grind (arith, nat_tests)

no_feed_in_name : (b : ℕ) → is_name_byte b ≡ true → (b == 10) ≡ false
no_feed_in_name b h = grind (arith, nat_tests)

no_feed_in_number : (b : ℕ) → is_digit b ≡ true → (b == 10) ≡ false
no_feed_in_number b h = grind (arith, nat_tests)

-- one byte has no line feed after it
one_inside : (f : Front) (rest : List ℕ) → size f ≡ 1 → IsSymbol f → Inside f rest
one_inside f rest e s = record {
  some = omega arith;
  fits = omega arith;
  feeds = ap (λ n. line_feeds (take (n - 1) rest)) e;
  symbol = s;
}

-- a symbol of two bytes, the second no line feed, or another one
two_inside : (c : ℕ) (rest : List ℕ) (k : Kind) (other : Front) → (c == 10) ≡ false
    → (k ≡ kind.Name → ⊥) × (k ≡ kind.Number → ⊥) → Inside other rest
    → Inside (cond (starts_with_byte c rest) (front.Symbol 2 k) other) rest
two_inside c [] k other n s i = i
two_inside c (d ∷ ds) k other n s i = by_test (d == c) refl
  where
    by_test : (t : Bool) → (d == c) ≡ t → Inside (cond t (front.Symbol 2 k) other) (d ∷ ds)
    by_test true h =
        let same : d ≡ c = grind (arith, nat_tests, h) in
        let no : (d == 10) ≡ false = rw same n in
        record { some = omega arith; fits = omega arith; feeds = rw no refl; symbol = s }
    by_test false h = i

-- a symbol of one byte
single_inside : (b : ℕ) (rest : List ℕ) → Inside (one_byte (single_of b)) rest
single_inside b rest =
    of_both (λ o. Inside (one_byte o) rest) (b == 43) _ _ (one kind.Plus ((λ e. cc), (λ e. cc)))
    (of_both (λ o. Inside (one_byte o) rest) (b == 59) _ _ (one kind.Semicolon ((λ e. cc), (λ e. cc)))
    (of_both (λ o. Inside (one_byte o) rest) (b == 42) _ _ (one kind.Star ((λ e. cc), (λ e. cc)))
    (of_both (λ o. Inside (one_byte o) rest) (b == 126) _ _ (one kind.Tilde ((λ e. cc), (λ e. cc)))
    (of_both (λ o. Inside (one_byte o) rest) (b == 40) _ _ (one kind.OpenParen ((λ e. cc), (λ e. cc)))
    (of_both (λ o. Inside (one_byte o) rest) (b == 41) _ _ (one kind.CloseParen ((λ e. cc), (λ e. cc)))
    (of_both (λ o. Inside (one_byte o) rest) (b == 44) _ _ (one kind.Comma ((λ e. cc), (λ e. cc)))
    (of_both (λ o. Inside (one_byte o) rest) (b == 47) _ _ (one kind.Slash ((λ e. cc), (λ e. cc)))
    (of_both (λ o. Inside (one_byte o) rest) (b == 91) _ _ (one kind.OpenBracket ((λ e. cc), (λ e. cc)))
    (of_both (λ o. Inside (one_byte o) rest) (b == 93) _ _ (one kind.CloseBracket ((λ e. cc), (λ e. cc)))
    (one_inside front.Bad rest refl tt))))))))))
  where
    one : (k : Kind) → (k ≡ kind.Name → ⊥) × (k ≡ kind.Number → ⊥) → Inside (front.Symbol 1 k) rest
    one k s = one_inside (front.Symbol 1 k) rest refl s

symbol_inside : (b : ℕ) (rest : List ℕ) → Inside (symbol_of b rest) rest
symbol_inside b rest =
    of_both (λ f. Inside f rest) (b == 61) _ _
    (two_inside 62 rest kind.FatArrow (front.Symbol 1 kind.Equal) refl ((λ e. cc), (λ e. cc))
    (one kind.Equal ((λ e. cc), (λ e. cc))))
    (of_both (λ f. Inside f rest) (b == 58) _ _
    (two_inside 61 rest kind.Assign (front.Symbol 1 kind.Colon) refl ((λ e. cc), (λ e. cc))
    (one kind.Colon ((λ e. cc), (λ e. cc))))
    (of_both (λ f. Inside f rest) (b == 45) _ _
    (two_inside 62 rest kind.Arrow front.Bad refl ((λ e. cc), (λ e. cc)) (one_inside front.Bad rest refl tt))
    (of_both (λ f. Inside f rest) (b == 46) _ _
    (two_inside 46 rest kind.DotDot front.Bad refl ((λ e. cc), (λ e. cc)) (one_inside front.Bad rest refl tt))
    (single_inside b rest))))
  where
    one : (k : Kind) → (k ≡ kind.Name → ⊥) × (k ≡ kind.Number → ⊥) → Inside (front.Symbol 1 k) rest
    one k s = one_inside (front.Symbol 1 k) rest refl s

-- what stands at the front fits, and has no line feed after its first byte
pub inside : (b : ℕ) (rest : List ℕ) → Inside (front_of b rest) rest
inside b rest =
    of_both (λ f. Inside f rest) (is_white b) _ _ (one_inside (front.Blank 1) rest refl tt)
    (of_both (λ f. Inside f rest) (b == 35) _ _ (record {
      some = omega arith;
      fits = run_more not_line_feed rest;
      feeds = run_without not_line_feed no_feed_in_comment rest;
      symbol = tt;
    })
    (of_both (λ f. Inside f rest) (is_name_start b) _ _ (record {
      some = omega arith;
      fits = run_more is_name_byte rest;
      feeds = run_without is_name_byte no_feed_in_name rest;
      symbol = tt;
    })
    (of_both (λ f. Inside f rest) (is_digit b) _ _ (record {
      some = omega arith;
      fits = run_more is_digit rest;
      feeds = run_without is_digit no_feed_in_number rest;
      symbol = tt;
    })
    (symbol_inside b rest))))

-- ---- one lexeme

-- what a token has to do with the text that it comes from
pub record Stands (text : List ℕ) (t : Token) : Type 0 where
  pub within : t.end ≤ length text
  pub line : t.line ≡ 1 + line_feeds (take t.start text)
  pub name : t.kind ≡ kind.Name → t.text ≡ span_of text t
  pub number : t.kind ≡ kind.Number → t.value ≡ value_of (span_of text t)
  pub small : t.value ≤ largest

-- a lexeme of n bytes at this place gives no token, or one that is these bytes
record Spans (text : List ℕ) (at n : ℕ) (t : Token) : Type 0 where
  start : t.start ≡ at
  end : t.end ≡ at + n
  stands : Stands text t

abbrev IfToken : List ℕ → ℕ → ℕ → Option Token → Type 0
IfToken text at n None = ⊤
IfToken text at n (Some t) = Spans text at n t

-- the lexeme of n bytes was cut, or there is a fault
abbrev IsCut : List ℕ → ℕ → ℕ → Result (ℕ × Option Token) LexError → Type 0
IsCut text at n (Ok p) = (p.0 ≡ n) × IfToken text at n p.1
IsCut text at n (Err e) = ⊤

-- no keyword is a number
no_number : (name : List ℕ) → kind_of_name name ≡ kind.Number → ⊥
no_number name =
    of_both (λ k. k ≡ kind.Number → ⊥) (bytes_eq name (codes "field")) _ _ (λ e. cc)
    (of_both (λ k. k ≡ kind.Number → ⊥) (bytes_eq name (codes "tag")) _ _ (λ e. cc)
    (of_both (λ k. k ≡ kind.Number → ⊥) (bytes_eq name (codes "switch")) _ _ (λ e. cc)
    (of_both (λ k. k ≡ kind.Number → ⊥) (bytes_eq name (codes "ports")) _ _ (λ e. cc)
    (of_both (λ k. k ≡ kind.Number → ⊥) (bytes_eq name (codes "link")) _ _ (λ e. cc)
    (of_both (λ k. k ≡ kind.Number → ⊥) (bytes_eq name (codes "let")) _ _ (λ e. cc)
    (of_both (λ k. k ≡ kind.Number → ⊥) (bytes_eq name (codes "certificate")) _ _ (λ e. cc)
    (of_both (λ k. k ≡ kind.Number → ⊥) (bytes_eq name (codes "row")) _ _ (λ e. cc)
    (of_both (λ k. k ≡ kind.Number → ⊥) (bytes_eq name (codes "start")) _ _ (λ e. cc)
    (of_both (λ k. k ≡ kind.Number → ⊥) (bytes_eq name (codes "id")) _ _ (λ e. cc)
    (of_both (λ k. k ≡ kind.Number → ⊥) (bytes_eq name (codes "drop")) _ _ (λ e. cc)
    (of_both (λ k. k ≡ kind.Number → ⊥) (bytes_eq name (codes "dup")) _ _ (λ e. cc)
    (of_both (λ k. k ≡ kind.Number → ⊥) (bytes_eq name (codes "tables")) _ _ (λ e. cc)
    (of_both (λ k. k ≡ kind.Number → ⊥) (bytes_eq name (codes "table")) _ _ (λ e. cc)
    (of_both (λ k. k ≡ kind.Number → ⊥) (bytes_eq name (codes "group")) _ _ (λ e. cc)
    (of_both (λ k. k ≡ kind.Number → ⊥) (bytes_eq name (codes "out")) _ _ (λ e. cc)
    (of_both (λ k. k ≡ kind.Number → ⊥) (bytes_eq name (codes "in")) _ _ (λ e. cc)
    (of_both (λ k. k ≡ kind.Number → ⊥) (bytes_eq name (codes "virtual")) _ _ (λ e. cc)
    (of_both (λ k. k ≡ kind.Number → ⊥) (bytes_eq name (codes "fabric")) _ _ (λ e. cc)
    (of_both (λ k. k ≡ kind.Number → ⊥) (bytes_eq name (codes "by")) _ _ (λ e. cc)
    (λ e. cc))))))))))))))))))))

-- the bytes of the text from a place on
record From (text pre bytes : List ℕ) (at line : ℕ) : Type 0 where
  whole : text ≡ pre ++ bytes
  place : at ≡ length pre
  lines : line ≡ 1 + line_feeds pre

span_at : (text pre bytes : List ℕ) (at line n : ℕ) → From text pre bytes at line
    → take (at + n - at) (drop at text) ≡ take n bytes
span_at text pre bytes at line n f =
    let count : at + n - at ≡ n = omega arith in
    let rest : drop at text ≡ bytes = rw (f.whole, f.place) (drop-append_seam pre bytes) in
    rw (count, rest) refl

line_at : (text pre bytes : List ℕ) (at line : ℕ) → From text pre bytes at line
    → line ≡ 1 + line_feeds (take at text)
line_at text pre bytes at line f =
    let front : take at text ≡ pre = rw (f.whole, f.place) (take-append_seam pre bytes) in
    rw front f.lines

-- a token of these bytes, whose text and value are right
spans : (text pre bytes : List ℕ) (at line n : ℕ) (k : Kind) (value : ℕ) (name : List ℕ)
    → From text pre bytes at line → n ≤ length bytes
    → (k ≡ kind.Name → name ≡ take n bytes) → (k ≡ kind.Number → value ≡ value_of (take n bytes))
    → value ≤ largest → Spans text at n (token k at n line value name)
spans text pre bytes at line n k value name f fits is_name is_number small = record {
  start = refl;
  end = refl;
  stands = record {
    within = let all : length text ≡ length pre + length bytes = rw f.whole (length-append pre bytes) in
        let place : at ≡ length pre = f.place in omega arith;
    line = line_at text pre bytes at line f;
    name = λ e. rw (span_at text pre bytes at line n f) (is_name e);
    number = λ e. rw (span_at text pre bytes at line n f) (is_number e);
    small = small;
  };
}

number_cut : (text pre bytes : List ℕ) (at line n : ℕ) → From text pre bytes at line → n ≤ length bytes
    → IsCut text at n (with_length n (number_of (take n bytes) at n line))
number_cut text pre bytes at line n f fits = by_test (nat_le (value_of (take n bytes)) largest) refl
  where
    by_test : (t : Bool) → nat_le (value_of (take n bytes)) largest ≡ t
        → IsCut text at n (with_length n (cond t (Ok (token kind.Number at n line (value_of (take n bytes)) []))
        (Err (error.NumberTooLarge line))))
    by_test true h = (
      refl,
      spans text pre bytes at line n kind.Number (value_of (take n bytes)) [] f fits
          (λ e. cc) (λ e. refl) (grind (arith, nat_tests, h)),
    )
    by_test false h = tt

-- what is cut off the front is as long as the lexeme there
is_cut : (x : Front) (text pre bytes : List ℕ) (at line : ℕ) → From text pre bytes at line
    → size x ≤ length bytes → IsSymbol x → IsCut text at (size x) (cut x line at bytes)
is_cut (front.Blank n) text pre bytes at line f fits s = (refl, tt)
is_cut (front.Name n) text pre bytes at line f fits s = (
  refl,
  spans text pre bytes at line n (kind_of_name (take n bytes)) 0 (take n bytes) f fits (λ e. refl)
      (λ e. absurd (no_number (take n bytes) e)) (omega arith),
)
is_cut (front.Number n) text pre bytes at line f fits s = number_cut text pre bytes at line n f fits
is_cut (front.Symbol n k) text pre bytes at line f fits s =
    (refl, spans text pre bytes at line n k 0 [] f fits (λ e. absurd (s.0 e)) (λ e. absurd (s.1 e)) (omega arith))
is_cut front.Bad text pre bytes at line f fits s = tt

-- ---- the scan

-- what stands after a place stands after an earlier one
ascend_from : (m k : ℕ) (ts : List Token) → k ≤ m → StandInOrder m ts → StandInOrder k ts
ascend_from m k [] h a = tt
ascend_from m k (t ∷ ts) h a = (omega (arith, a.0), a.1, a.2)

-- each token stands in the text, one after the other
record AllStand (text : List ℕ) (from : ℕ) (ts : List Token) : Type 0 where
  stand : All (Stands text) ts
  ascend : StandInOrder from ts

one_more : (text : List ℕ) (at n : ℕ) (r : Result (ℕ × Option Token) LexError) (next : ℕ → Scanned) → 0 < n
    → IsCut text at n r → AllStand text (at + n) (next n).0 → AllStand text at (go_on r next).0
one_more text at n (Err e) next some c a = record { stand = All-nil _; ascend = tt }
one_more text at n (Ok (m, None)) next some c a = rw c.0
    (record { stand = a.stand; ascend = ascend_from (at + n) at (next n).0 (omega arith) a.ascend })
one_more text at n (Ok (m, Some t)) next some c a = rw c.0 (record {
  stand = all_cons (Stands text) t (next n).0 c.1.stands a.stand;
  ascend = (
    omega (arith, c.1.start),
    omega (arith, c.1.start, c.1.end),
    subst (λ k. StandInOrder k (next n).0) (sym c.1.end) a.ascend,
  );
})

-- the scan from a place on, where the first `skip` bytes belong to the lexeme before
record Behind (text pre xs : List ℕ) (skip line at : ℕ) : Type 0 where
  whole : text ≡ pre ++ xs
  place : at ≡ length pre
  fits : skip ≤ length xs
  lines : line ≡ 1 + line_feeds (pre ++ take skip xs)

pub line_feed_counts : (line b : ℕ) → line_after line b ≡ line + line_feeds (b ∷ [])
line_feed_counts line b = by_test (b == 10)
  where
    by_test : (t : Bool) → cond t (line + 1) line ≡ line + (0 + cond t 1 0)
    by_test true = refl
    by_test false = omega arith

-- one byte on, in the middle of a lexeme
passed : (text pre : List ℕ) (b : ℕ) (rest : List ℕ) (skip line at : ℕ)
    → Behind text pre (b ∷ rest) (suc skip) line at → Behind text (pre ++ b ∷ []) rest skip line (at + 1)
passed text pre b rest skip line at h = record {
  whole = h.whole ∙ sym (append_assoc pre (b ∷ []) rest);
  place = omega (arith, h.place, length-append pre (b ∷ []));
  fits = omega (arith, h.fits);
  lines = rw (append_assoc pre (b ∷ []) (take skip rest)) h.lines;
}

-- one byte on, where a lexeme begins
begun : (text pre : List ℕ) (b : ℕ) (rest : List ℕ) (line at : ℕ) (x : Front) → Inside x rest
    → Behind text pre (b ∷ rest) 0 line at
    → Behind text (pre ++ b ∷ []) rest (size x - 1) (line_after line b) (at + 1)
begun text pre b rest line at x i h = record {
  whole = h.whole ∙ sym (append_assoc pre (b ∷ []) rest);
  place = omega (arith, h.place, length-append pre (b ∷ []));
  fits = omega (arith, i.fits);
  lines = omega (
    arith,
    h.lines,
    line_feed_counts line b,
    feeds_append (pre ++ b ∷ []) (take (size x - 1) rest),
    feeds_append pre (b ∷ []),
    feeds_append pre [],
    i.feeds,
  );
}

from_here : (text pre xs : List ℕ) (line at : ℕ) → Behind text pre xs 0 line at → From text pre xs at line
from_here text pre xs line at h =
    record { whole = h.whole; place = h.place; lines = omega (arith, h.lines, feeds_append pre []) }

all_stand : (text pre xs : List ℕ) (skip line at : ℕ) → Behind text pre xs skip line at
    → AllStand text (at + skip) (scan xs skip line at).0
all_stand text pre [] skip line at h = record { stand = All-nil _; ascend = tt }
all_stand text pre (b ∷ rest) (suc skip) line at h =
    subst (λ n. AllStand text n (scan rest skip line (at + 1)).0)
    (let e : at + 1 + skip ≡ at + suc skip = omega arith in e)
    (all_stand text (pre ++ b ∷ []) rest skip line (at + 1) (passed text pre b rest skip line at h))
all_stand text pre (b ∷ rest) zero line at h =
    subst (λ n. AllStand text n (scan (b ∷ rest) zero line at).0) (let e : at ≡ at + 0 = omega arith in e)
    (one_more text at (size (front_of b rest)) (cut (front_of b rest) line at (b ∷ rest))
    (λ n. scan rest (n - 1) (line_after line b) (at + 1)) (inside b rest).some
    (is_cut (front_of b rest) text pre (b ∷ rest) at line (from_here text pre (b ∷ rest) line at h)
    (let fits : size (front_of b rest) ≤ length (b ∷ rest) = omega (arith, (inside b rest).fits) in fits)
    (inside b rest).symbol)
    (subst (λ n. AllStand text n (scan rest (size (front_of b rest) - 1) (line_after line b) (at + 1)).0)
    (let some : 0 < size (front_of b rest) = (inside b rest).some in
    let e : at + 1 + (size (front_of b rest) - 1) ≡ at + size (front_of b rest) = omega arith in e)
    (all_stand text (pre ++ b ∷ []) rest (size (front_of b rest) - 1) (line_after line b) (at + 1)
    (begun text pre b rest line at (front_of b rest) (inside b rest) h))))

-- all tokens of a text
whole_text : (text : List ℕ) → AllStand text 0 (tokens_before_fault text)
whole_text text =
    all_stand text [] text 0 1 0 (record { whole = refl; place = refl; fits = omega arith; lines = refl })

pub values_are_small : (text : List ℕ) → All (λ t. t.value ≤ largest) (tokens_before_fault text)
values_are_small text k d h = ((whole_text text).stand k d h).small

pub spans_ascend : (text : List ℕ)
    → StandInOrder 0 (tokens_before_fault text) × All (λ t. t.end ≤ length text) (tokens_before_fault text)
spans_ascend text = ((whole_text text).ascend, (λ k d h. ((whole_text text).stand k d h).within))

pub names_are_slices : (text : List ℕ)
    → All (λ t. t.kind ≡ kind.Name → t.text ≡ span_of text t) (tokens_before_fault text)
names_are_slices text k d h = ((whole_text text).stand k d h).name

pub lines_count : (text : List ℕ)
    → All (λ t. t.line ≡ 1 + line_feeds (take t.start text)) (tokens_before_fault text)
lines_count text k d h = ((whole_text text).stand k d h).line

pub numbers_are_digits : (text : List ℕ)
    → All (λ t. t.kind ≡ kind.Number → t.value ≡ value_of (span_of text t)) (tokens_before_fault text)
numbers_are_digits text k d h = ((whole_text text).stand k d h).number

-- tokens that begin those of a text are small
pub front_is_small : (text : List ℕ) (ts : List Token) (r : Scanned) → after ts r ≡ scan text 0 1 0
    → All (λ t. t.value ≤ largest) ts
front_is_small text ts r e k d h =
    let same : ts ++ r.0 ≡ tokens_before_fault text = ap (λ s. s.0) e in
    let less : k < length (ts ++ r.0) = omega (arith, length-append ts r.0) in
    let all : k < length (tokens_before_fault text) = subst (λ us. k < length us) same less in
    let one : (get_or (tokens_before_fault text) k d).value ≤ largest = values_are_small text k d all in
    let there : (get_or (ts ++ r.0) k d).value ≤ largest
    = subst (λ us. (get_or us k d).value ≤ largest) (sym same) one in
    subst (λ t. t.value ≤ largest) (get_or-append ts r.0 d k h) there
