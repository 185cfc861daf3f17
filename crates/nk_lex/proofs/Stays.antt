-- The tokens that are complete are those that stay whatever bytes come.
use Rattle.std.proofs.Common.{◌≡◌, ◌<◌, ◌+◌, ◌==◌, ℕ, suc, List, [], ◌∷◌, ◌++◌, Bool, true, false, length, take, refl, sym, ◌∙◌, ap, arith, cond, subst, append-nil, append_assoc}
use Rattle.std.proofs.lemmas.List.{length-append}
use Rattle.std.proofs.lemmas.List.Folds.{list_all-append}
use Rattle.std.proofs.lemmas.Bool.Decides.{nat_tests}
use Rattle.std.specs.Prelude.{Ok, Err, nat_le, ⊤}
use Rattle.std.specs.List.{list_all}
use Rattle.nk_lex.specs.declared.token.Token.{Token}
use Rattle.nk_lex.specs.declared.token.LexError.TheVariants as error
use Rattle.nk_lex.specs.declared.front.Front.{Front}
use Rattle.nk_lex.specs.declared.front.Front.TheVariants as front
use Rattle.nk_lex.specs.declared.kind.Kind.TheVariants as kind
use Rattle.nk_lex.specs.Classes.{is_digit, is_name_byte, is_name_start, is_white, not_line_feed}
use Rattle.nk_lex.specs.Lex.{lex_result, cut, front_of, scan, token, value_of, with_length, largest}
use Rattle.nk_lex.proofs.Cuts.{IsLeft, finished, resumed, settle_after, finish, is_left, scan_finish}
use Rattle.nk_lex.specs.Pieces.{Begins, CompletedStay, FaultsStay, Left, Rest, Fault, begins_longer, completed, is_empty, is_open, left_by, settle}
use Rattle.nk_lex.specs.Spans.{tokens_before_fault}
use Rattle.nk_lex.proofs.Held.{HasAll, empty_is, open_all}
use Rattle.nk_lex.proofs.Ends.{sole, sole_is, text_more}

-- the tokens of a text with more bytes after it
tokens_more : (text more : List ℕ)
    → tokens_before_fault (text ++ more) ≡ completed text ++ (finish (resumed (left_by text) more)).0
tokens_more text more =
    ap (λ r. r.0) (scan_finish (text ++ more) 0 1 0)
    ∙ ap (λ r. (finish r).0) (text_more text more)
    ∙ append_assoc (completed text) (resumed (left_by text) more).0 (finished (resumed (left_by text) more).1).0

-- ---- a byte that makes an open lexeme longer

-- a list with at most one token, which ends there
abbrev EndsAt : ℕ → List Token → Type 0
EndsAt m [] = ⊤
EndsAt m (t ∷ ts) = (t.end ≡ m) × (ts ≡ [])

cut_ends : (f : Front) (line at n : ℕ) (bytes : List ℕ) → HasAll n f → EndsAt (at + n) (sole (cut f line at bytes)).0
cut_ends (front.Blank k) line at n bytes h = tt
cut_ends (front.Name k) line at n bytes h = (ap (λ m. at + m) h, refl)
cut_ends (front.Number k) line at n bytes h = by_test (nat_le (value_of (take k bytes)) largest)
  where
    by_test : (t : Bool)
        → EndsAt (at + n) (sole (with_length k (cond t (Ok (token kind.Number at k line (value_of (take k bytes)) [])) (Err (error.NumberTooLarge line))))).0
    by_test true = (ap (λ m. at + m) h, refl)
    by_test false = tt
cut_ends (front.Symbol k x) line at n bytes h = (ap (λ m. at + m) h, refl)
cut_ends front.Bad line at n bytes h = tt

scan_ends : (b : ℕ) (rest : List ℕ) (line at : ℕ) → HasAll (suc (length rest)) (front_of b rest)
    → EndsAt (at + suc (length rest)) (scan (b ∷ rest) 0 line at).0
scan_ends b rest line at h =
    subst (λ r. EndsAt (at + suc (length rest)) r.0) (sym (sole_is (front_of b rest) b rest (b ∷ rest) line at h))
    (cut_ends (front_of b rest) line at (suc (length rest)) (b ∷ rest) h)

-- a byte that the open lexeme takes too
abbrev Longer : ℕ → List ℕ → Type 0
Longer b rest = (z : ℕ) × HasAll (suc (length (rest ++ z ∷ []))) (front_of b (rest ++ z ∷ []))

longer_symbol : (b : ℕ) → begins_longer b ≡ true → Longer b []
longer_symbol b h = by_equal (b == 61) refl
  where
    by_dot : (t : Bool) → (b == 46) ≡ t → (b == 61) ≡ false → (b == 58) ≡ false → (b == 45) ≡ false → Longer b []
    by_dot true d e f g = (46, subst (λ c. HasAll 2 (front_of c (46 ∷ []))) (sym (let i : b ≡ 46 = grind (arith, nat_tests, d) in i)) refl)
    by_dot false d e f g = absurd (let no : begins_longer b ≡ false = rw (e, f, g, d) refl in (let bad : true ≡ false = sym h ∙ no in cc))

    by_dash : (t : Bool) → (b == 45) ≡ t → (b == 61) ≡ false → (b == 58) ≡ false → Longer b []
    by_dash true g e f = (62, subst (λ c. HasAll 2 (front_of c (62 ∷ []))) (sym (let i : b ≡ 45 = grind (arith, nat_tests, g) in i)) refl)
    by_dash false g e f = by_dot (b == 46) refl e f g

    by_colon : (t : Bool) → (b == 58) ≡ t → (b == 61) ≡ false → Longer b []
    by_colon true f e = (61, subst (λ c. HasAll 2 (front_of c (61 ∷ []))) (sym (let i : b ≡ 58 = grind (arith, nat_tests, f) in i)) refl)
    by_colon false f e = by_dash (b == 45) refl e f

    by_equal : (t : Bool) → (b == 61) ≡ t → Longer b []
    by_equal true e = (62, subst (λ c. HasAll 2 (front_of c (62 ∷ []))) (sym (let i : b ≡ 61 = grind (arith, nat_tests, e) in i)) refl)
    by_equal false e = by_colon (b == 58) refl e

one_more : (p : ℕ → Bool) (z : ℕ) (rest : List ℕ) → p z ≡ true → list_all p rest ≡ true → list_all p (rest ++ z ∷ []) ≡ true
one_more p z rest h k = list_all-append p rest (z ∷ []) ∙ rw (k, h) refl

longer : (b : ℕ) (rest : List ℕ) → is_open b rest ≡ true → Longer b rest
longer b rest o = by_white (is_white b) refl
  where
    -- open with that byte too
    stays : (z : ℕ) → is_open b (rest ++ z ∷ []) ≡ true → Longer b rest
    stays z h = (z, open_all b (rest ++ z ∷ []) h)

    by_symbol : (t : Bool) → begins_longer b ≡ t → is_white b ≡ false → (b == 35) ≡ false → is_name_start b ≡ false
        → is_digit b ≡ false → Longer b rest
    by_symbol true l w c s d =
        let none : rest ≡ [] = empty_is rest (sym (let e : is_open b rest ≡ is_empty rest = rw (w, c, s, d, l) refl in e) ∙ o) in
        subst (Longer b) (sym none) (longer_symbol b l)
    by_symbol false l w c s d =
        absurd (let no : is_open b rest ≡ false = rw (w, c, s, d, l) refl in (let bad : true ≡ false = sym o ∙ no in cc))

    by_digit : (t : Bool) → is_digit b ≡ t → is_white b ≡ false → (b == 35) ≡ false → is_name_start b ≡ false → Longer b rest
    by_digit true d w c s =
        let here : list_all is_digit rest ≡ true = sym (let e : is_open b rest ≡ list_all is_digit rest = rw (w, c, s, d) refl in e) ∙ o in
        stays 48 ((let e : is_open b (rest ++ 48 ∷ []) ≡ list_all is_digit (rest ++ 48 ∷ []) = rw (w, c, s, d) refl in e)
        ∙ one_more is_digit 48 rest refl here)
    by_digit false d w c s = by_symbol (begins_longer b) refl w c s d

    by_start : (t : Bool) → is_name_start b ≡ t → is_white b ≡ false → (b == 35) ≡ false → Longer b rest
    by_start true s w c =
        let here : list_all is_name_byte rest ≡ true = sym (let e : is_open b rest ≡ list_all is_name_byte rest = rw (w, c, s) refl in e) ∙ o in
        stays 95 ((let e : is_open b (rest ++ 95 ∷ []) ≡ list_all is_name_byte (rest ++ 95 ∷ []) = rw (w, c, s) refl in e)
        ∙ one_more is_name_byte 95 rest refl here)
    by_start false s w c = by_digit (is_digit b) refl w c s

    by_comment : (t : Bool) → (b == 35) ≡ t → is_white b ≡ false → Longer b rest
    by_comment true c w =
        let here : list_all not_line_feed rest ≡ true = sym (let e : is_open b rest ≡ list_all not_line_feed rest = rw (w, c) refl in e) ∙ o in
        stays 32 ((let e : is_open b (rest ++ 32 ∷ []) ≡ list_all not_line_feed (rest ++ 32 ∷ []) = rw (w, c) refl in e)
        ∙ one_more not_line_feed 32 rest refl here)
    by_comment false c w = by_start (is_name_start b) refl w c

    by_white : (t : Bool) → is_white b ≡ t → Longer b rest
    by_white true w = absurd (let no : is_open b rest ≡ false = rw w refl in (let bad : true ≡ false = sym o ∙ no in cc))
    by_white false w = by_comment (b == 35) refl w

-- ---- lists that begin alike

abbrev tail_of : {X : Type 0} → List X → List X
tail_of [] = []
tail_of (x ∷ xs) = xs

-- a list that begins both of two lists, which part after cs, begins cs
begins_both : (ts cs us vs xs ys : List Token) (m k : ℕ) → cs ++ xs ≡ ts ++ us → cs ++ ys ≡ ts ++ vs
    → EndsAt m xs → EndsAt k ys → m < k → Begins ts cs
begins_both [] cs us vs xs ys m k e f a b less = (cs, refl)
begins_both (t ∷ ts) [] us vs [] ys m k e f a b less = absurd cc
begins_both (t ∷ ts) [] us vs (x ∷ xs) [] m k e f a b less = absurd cc
begins_both (t ∷ ts) [] us vs (x ∷ xs) (y ∷ ys) m k e f a b less =
    let one : x ≡ t = cc in
    let two : y ≡ t = cc in
    let ends : x.end ≡ y.end = ap (λ z. z.end) (one ∙ sym two) in
    absurd (omega (arith, a.0, b.0, ends, less))
begins_both (t ∷ ts) (c ∷ cs) us vs xs ys m k e f a b less =
    let same : c ≡ t = cc in
    let h : Begins ts cs
    = begins_both ts cs us vs xs ys m k (ap tail_of e) (ap tail_of f) a b less in
    (h.0, ap (λ d. d ∷ cs) same ∙ ap (λ l. t ∷ l) h.1)

-- what is left is open
abbrev IsOpenLeft : Left → Type 0
IsOpenLeft (Fault e) = ⊤
IsOpenLeft (Rest line at []) = ⊤
IsOpenLeft (Rest line at (b ∷ rest)) = is_open b rest ≡ true

left_open : (l : Left) (total : ℕ) → IsLeft l total → IsOpenLeft l
left_open (Fault e) total h = tt
left_open (Rest line at []) total h = tt
left_open (Rest line at (b ∷ rest)) total h = h.1

begins_of : (l : Left) (cs ts : List Token) → ((more : List ℕ) → Begins ts (cs ++ (finish (resumed l more)).0))
    → IsOpenLeft l → Begins ts cs
begins_of (Fault e) cs ts h i = subst (Begins ts) (append-nil cs) (h [])
begins_of (Rest line at []) cs ts h i = subst (Begins ts) (append-nil cs) (h [])
begins_of (Rest line at (b ∷ rest)) cs ts h i =
    let z = longer b rest i in
    let tokens : (more : List ℕ) → (finish (resumed (Rest line at (b ∷ rest)) more)).0 ≡ (scan (b ∷ rest ++ more) 0 line at).0
    = λ more. sym (ap (λ r. r.0) (scan_finish (b ∷ rest ++ more) 0 line at)) in
    let first = h [] in
    let second = h (z.0 ∷ []) in
    begins_both ts cs first.0 second.0 (scan (b ∷ rest) 0 line at).0 (scan (b ∷ rest ++ z.0 ∷ []) 0 line at).0
    (at + suc (length rest)) (at + suc (length (rest ++ z.0 ∷ [])))
    (ap (λ us. cs ++ us) (sym (tokens [] ∙ ap (λ us. (scan (b ∷ us) 0 line at).0) (append-nil rest))) ∙ first.1)
    (ap (λ us. cs ++ us) (sym (tokens (z.0 ∷ []))) ∙ second.1)
    (scan_ends b rest line at (open_all b rest i))
    (scan_ends b (rest ++ z.0 ∷ []) line at z.1)
    (omega (arith, length-append rest (z.0 ∷ [])))

-- the law
pub complete_stay : CompletedStay
complete_stay text = (
  (λ more. ((finish (resumed (left_by text) more)).0, tokens_more text more)),
  (λ ts h. begins_of (left_by text) (completed text) ts
      (λ more. subst (Begins ts) (tokens_more text more) (h more))
      (left_open (left_by text) (0 + length text) (is_left text 0 1 0 (omega arith)))),
)

-- the law of faults
pub faults_stay : FaultsStay
faults_stay text e h more =
    let is : settle (text ++ more) 0 1 0 ≡ settle_after (completed text) ([], Fault e)
    = text_more text more ∙ ap (λ l. settle_after (completed text) (resumed l more)) h in (
      ap (λ r. r.1) is,
      ap (λ r. r.0) is ∙ append-nil (completed text),
      ap lex_result (scan_finish (text ++ more) 0 1 0) ∙ ap (λ r. lex_result (finish r)) is,
    )
