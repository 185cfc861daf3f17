-- The matches of the row that was put last, and those of the next row that stand there already.
use Rattle.std.proofs.Common.{◌≡◌, ◌≢◌, ℕ, ◌+◌, ◌<◌, ◌≤◌, ◌++◌, Bool, true, false, inl, inr, List, [], ◌∷◌, length, get_or, take, drop, map, refl, sym, ap, subst, ◌∙◌, arith, append_assoc, take-append-drop}
use Rattle.std.specs.Prelude.{◌==◌, ◌&&◌, codes}
use Rattle.std.specs.Fmt.{decimal}
use Rattle.std.specs.List.{flat_map}
use Rattle.std.proofs.lemmas.Bool.{and_parts}
use Rattle.std.proofs.lemmas.Bool.Decides.{eqb_tells, nat_tests}
use Rattle.std.proofs.lemmas.Grind.{flat_map-append}
use Rattle.std.proofs.lemmas.List.{append-nil, get_or-map, get_or-take, get_or_append_left, get_or_push, length-map, length-take, length_push, map_push, take-append-le, take-map, take-take, take_all, take_at, take_more}
use Rattle.nk_field.specs.Packet.{FieldTable}
use Rattle.nk_table.specs.declared.Target.{Target}
use Rattle.nk_tabtext.specs.declared.last_matches.LastMatches.{LastMatches}
use Rattle.nk_tabtext.specs.declared.last_matches.PrintedMatch.{PrintedMatch}
use Rattle.nk_tabtext.specs.Remembered.{BeginsWith, Remembers, as_printed, match_where, row_end_text, row_front_text, those}
use Rattle.nk_tabtext.specs.Text.{is_tag, match_text, matches_text, row_text, target_text, where_same}

-- two matches that a test takes for the same are
pub same_match : (a b : ℕ × ℕ × ℕ) → ((a.0 == b.0 && a.1 == b.1) && a.2 == b.2) ≡ true → a ≡ b
same_match (f, v, n) (g, w, k) e =
    let outer = and_parts (f == g && v == w) (n == k) e in
    let inner = and_parts (f == g) (v == w) outer.0 in
    let field : f ≡ g = grind (arith, nat_tests, inner.0) in
    let value : v ≡ w = grind (arith, nat_tests, inner.1) in
    let digits : n ≡ k = grind (arith, nat_tests, outer.1) in
    λ i. (field i, value i, digits i)

-- a match stands where two flags agree, and nowhere else
pub match_there : (b tag : Bool) (m : ℕ × ℕ × ℕ) → b ≡ tag → match_where b tag m ≡ m ∷ []
match_there true true m e = refl
match_there false false m e = refl
match_there true false m e = cc
match_there false true m e = cc

pub match_nowhere : (b tag : Bool) (m : ℕ × ℕ × ℕ) → b ≢ tag → match_where b tag m ≡ []
match_nowhere true true m n = absurd (n refl)
match_nowhere false false m n = absurd (n refl)
match_nowhere true false m n = refl
match_nowhere false true m n = refl

module _ (fs : FieldTable) where
  -- the text of matches in the order of their text
  abbrev text_of : List (ℕ × ℕ × ℕ) → List ℕ
  text_of ms = flat_map (match_text fs) ms

  -- ---- the text of a row's matches

  -- of one match
  one_text : (b tag : Bool) (m : ℕ × ℕ × ℕ) → text_of (match_where b tag m) ≡ where_same b tag (match_text fs m)
  one_text true true m = append-nil (match_text fs m)
  one_text true false m = refl
  one_text false true m = refl
  one_text false false m = append-nil (match_text fs m)

  -- of those of the tag, or of the other ones
  those_text : (tag : Bool) (ms : List (ℕ × ℕ × ℕ)) → text_of (those fs tag ms) ≡ matches_text fs tag ms
  those_text tag [] = refl
  those_text tag (m ∷ ms) =
      flat_map-append (match_text fs) (match_where (is_tag fs m.0) tag m) (those fs tag ms)
      ∙ ap (λ l. l ++ text_of (those fs tag ms)) (one_text (is_tag fs m.0) tag m)
      ∙ ap (λ l. where_same (is_tag fs m.0) tag (match_text fs m) ++ l) (those_text tag ms)

  -- the line of a row whose matches are remembered
  pub line_is : (priority : ℕ) (ms : List (ℕ × ℕ × ℕ)) (target : Target) (l : LastMatches) (before matches : List ℕ)
      → matches ≡ l.text.items → Remembers fs (as_printed fs ms) l
      → before ++ row_front_text priority matches ++ row_end_text (target_text fs target)
      ≡ before ++ row_text fs (record { priority = priority; matches = ms; target = target })
  line_is priority ms target l before matches is r =
      let tagged = matches_text fs true ms in
      let others = matches_text fs false ms in
      let text : matches ≡ tagged ++ others =
      is
      ∙ r.text
      ∙ flat_map-append (match_text fs) (those fs true ms) (those fs false ms)
      ∙ ap (λ x. x ++ text_of (those fs false ms)) (those_text true ms)
      ∙ ap (λ x. tagged ++ x) (those_text false ms) in
      ap (λ x. before ++ row_front_text priority x ++ row_end_text (target_text fs target)) text
      ∙ apart before (codes "row ") (decimal priority) (codes " : ") tagged others (codes "-> ") (target_text fs target) (codes "\n")
    where
      apart : (a b c d e f g h i : List ℕ) → a ++ (b ++ c ++ d ++ (e ++ f)) ++ (g ++ h ++ i) ≡ a ++ (b ++ c ++ d ++ e ++ f ++ g ++ h ++ i)
      apart a b c d e f g h i = simp append_assoc

  -- ---- what is remembered

  -- the text of the first matches is the beginning of the text of all
  first_text : (ms : List (ℕ × ℕ × ℕ)) (n : ℕ) → take (length (text_of (take n ms))) (text_of ms) ≡ text_of (take n ms)
  first_text ms n =
      let front = text_of (take n ms) in
      ap (λ l. take (length front) (text_of l)) (sym (take-append-drop n ms))
      ∙ ap (take (length front)) (flat_map-append (match_text fs) (take n ms) (drop n ms))
      ∙ take_at front (text_of (drop n ms)) (length front) refl

  -- the text with one more match
  more_text : (ms : List (ℕ × ℕ × ℕ)) (m : ℕ × ℕ × ℕ) → text_of (ms ++ m ∷ []) ≡ text_of ms ++ match_text fs m
  more_text ms m =
      flat_map-append (match_text fs) ms (m ∷ []) ∙ ap (λ l. text_of ms ++ l) (append-nil (match_text fs m))

  -- as many are remembered as there are
  as_many : (ms : List (ℕ × ℕ × ℕ)) (l : LastMatches) → Remembers fs ms l → length l.matches.items ≡ length ms
  as_many ms l r = sym (length-map l.matches.items (λ (p : PrintedMatch). p.matched)) ∙ ap length r.matches

  -- none is remembered
  pub none_yet : (l : LastMatches) → l.matches.items ≡ [] → l.text.items ≡ [] → Remembers fs [] l
  none_yet l matches text = record {
    matches = ap (map (λ (p : PrintedMatch). p.matched)) matches;
    text = text;
    starts = λ i d h. absurd (omega (arith, h));
  }

  -- one more match was put after the others, and its text after theirs
  pub one_more : (ms : List (ℕ × ℕ × ℕ)) (m : ℕ × ℕ × ℕ) (start : ℕ) (l u : LastMatches) → Remembers fs ms l
      → start ≡ length l.text.items
      → u.matches.items ≡ l.matches.items ++ record { matched = m; start = start } ∷ []
      → u.text.items ≡ l.text.items ++ match_text fs m
      → Remembers fs (ms ++ m ∷ []) u
  one_more ms m start l u r long put text = record {
    matches =
        ap (map (λ (p : PrintedMatch). p.matched)) put
        ∙ map_push (λ (p : PrintedMatch). p.matched) l.matches.items new
        ∙ ap (λ xs. xs ++ m ∷ []) r.matches;
    text = text ∙ ap (λ xs. xs ++ match_text fs m) r.text ∙ sym (more_text ms m);
    starts = λ i d h.
        let many = length_push ms m in
        elim (eqb_tells i (length ms)) [
          | inl same ↦ here i d same.1
          | inr other ↦ let below : i < length ms = omega (arith, h, many, other.1) in there i d below
        ];
  }
    where
      new : PrintedMatch
      new = record { matched = m; start = start }

      here : (i : ℕ) (d : PrintedMatch) → i ≡ length ms → (get_or u.matches.items i d).start ≡ length (text_of (take i (ms ++ m ∷ [])))
      here i d e =
          let item = ap (λ xs. get_or xs i d) put ∙ get_or_push l.matches.items new d i (as_many ms l r ∙ sym e) in
          ap (λ (p : PrintedMatch). p.start) item
          ∙ long
          ∙ ap length r.text
          ∙ ap (λ xs. length (text_of xs)) (sym (take_at ms (m ∷ []) i (sym e)))

      there : (i : ℕ) (d : PrintedMatch) → i < length ms → (get_or u.matches.items i d).start ≡ length (text_of (take i (ms ++ m ∷ [])))
      there i d below =
          let many = as_many ms l r in
          let item = ap (λ xs. get_or xs i d) put ∙ get_or_append_left l.matches.items (new ∷ []) d i (omega (arith, below, many)) in
          ap (λ (p : PrintedMatch). p.start) item
          ∙ r.starts i d below
          ∙ ap (λ xs. length (text_of xs)) (sym (take-append-le i ms (m ∷ []) (omega (arith, below))))

  -- nothing stands from the place on
  pub nothing_cut : (ms : List (ℕ × ℕ × ℕ)) (place count : ℕ) (l : LastMatches) → Remembers fs ms l → count ≡ length l.matches.items → count ≤ place
      → Remembers fs (take place ms) l
  nothing_cut ms place count l r is past =
      let many = as_many ms l r in
      subst (λ k. Remembers fs k l) (sym (take_all place ms (omega (arith, is, past, many)))) r

  -- the matches from a place on were forgotten, with their text
  pub cut_at : (ms : List (ℕ × ℕ × ℕ)) (place count : ℕ) (p : PrintedMatch) (l u : LastMatches) → Remembers fs ms l
      → count ≡ length l.matches.items → place < count → p ≡ get_or l.matches.items place p
      → u.matches.items ≡ take place l.matches.items → u.text.items ≡ take p.start l.text.items
      → Remembers fs (take place ms) u
  cut_at ms place count p l u r is within p_is matches text = record {
    matches =
        ap (map (λ (x : PrintedMatch). x.matched)) matches
        ∙ sym (take-map (λ (x : PrintedMatch). x.matched) place l.matches.items)
        ∙ ap (take place) r.matches;
    text =
        text
        ∙ ap (λ n. take n l.text.items) (ap (λ (x : PrintedMatch). x.start) p_is ∙ r.starts place p stands)
        ∙ ap (take (length (text_of (take place ms)))) r.text
        ∙ first_text ms place;
    starts = λ i d h.
        let long = length-take place ms in
        let below : i < place = omega (arith, h, long, stands) in
        let item = ap (λ xs. get_or xs i d) matches ∙ get_or-take place l.matches.items i d below in
        ap (λ (x : PrintedMatch). x.start) item
        ∙ r.starts i d (omega (arith, below, stands))
        ∙ ap (λ xs. length (text_of xs)) (sym (take-take i place ms (omega (arith, below))));
  }
    where
      stands : place < length ms
      stands = let many = as_many ms l r in omega (arith, is, within, many)

  -- ---- a row, match by match

  -- of no match all stand there
  pub begins : (ms : List (ℕ × ℕ × ℕ)) (l : LastMatches) → Remembers fs ms l → BeginsWith fs [] 0 l
  begins ms l r = record { kept = ms; remembers = r; within = omega arith; front = refl }

  -- the row so far is all that is remembered
  pub whole : (row : List (ℕ × ℕ × ℕ)) (n : ℕ) (l : LastMatches) → Remembers fs row l → n ≡ length l.matches.items → BeginsWith fs row n l
  whole row n l r is =
      let many = as_many row l r in
      record { kept = row; remembers = r; within = omega (arith, is, many); front = take_all n row (omega (arith, is, many)) }

  -- the next match stands there already
  pub goes_on : (row : List (ℕ × ℕ × ℕ)) (m : ℕ × ℕ × ℕ) (place count : ℕ) (p : PrintedMatch) (l : LastMatches) → BeginsWith fs row place l
      → count ≡ length l.matches.items → place < count → p ≡ get_or l.matches.items place p → p.matched ≡ m
      → BeginsWith fs (row ++ m ∷ []) (place + 1) l
  goes_on row m place count p l b is within p_is same =
      let many = as_many b.kept l b.remembers in
      let here : place < length l.matches.items = omega (arith, is, within) in
      let stands : place < length b.kept = omega (arith, here, many) in
      let item : get_or b.kept place m ≡ m =
      ap (λ xs. get_or xs place m) (sym b.remembers.matches)
      ∙ get_or-map (λ (x : PrintedMatch). x.matched) l.matches.items place p m here
      ∙ ap (λ (x : PrintedMatch). x.matched) (sym p_is)
      ∙ same in
      record {
        kept = b.kept;
        remembers = b.remembers;
        within = omega (arith, stands);
        front =
            take_more b.kept place m stands
            ∙ ap (λ xs. xs ++ get_or b.kept place m ∷ []) b.front
            ∙ ap (λ x. row ++ x ∷ []) item;
      }

  -- what is left when all from the place on is forgotten is the row so far
  pub row_alone : (row : List (ℕ × ℕ × ℕ)) (n : ℕ) (l u : LastMatches) (b : BeginsWith fs row n l)
      → ((ms : List (ℕ × ℕ × ℕ)) → Remembers fs ms l → Remembers fs (take n ms) u) → Remembers fs row u
  row_alone row n l u b cut = subst (λ k. Remembers fs k u) b.front (cut b.kept b.remembers)

  -- a match that isn't asked for adds nothing
  pub passed_over : (row : List (ℕ × ℕ × ℕ)) (more : List (ℕ × ℕ × ℕ)) (n : ℕ) (l : LastMatches) → more ≡ [] → BeginsWith fs row n l
      → BeginsWith fs (row ++ more) n l
  passed_over row more n l none = subst (λ k. BeginsWith fs k n l) (sym (ap (λ xs. row ++ xs) none ∙ append-nil row))

  -- a loop over the next matches, at its beginning, one turn on, and at its end
  pub turned_none : (row : List (ℕ × ℕ × ℕ)) (n : ℕ) (l : LastMatches) → BeginsWith fs row n l → BeginsWith fs (row ++ []) n l
  turned_none row n l = subst (λ k. BeginsWith fs k n l) (sym (append-nil row))

  pub turned_more : (tag : Bool) (row ms : List (ℕ × ℕ × ℕ)) (i n : ℕ) (m : ℕ × ℕ × ℕ) (l : LastMatches) → i < length ms → m ≡ get_or ms i m
      → BeginsWith fs (row ++ those fs tag (take i ms) ++ match_where (is_tag fs m.0) tag m) n l
      → BeginsWith fs (row ++ those fs tag (take (i + 1) ms)) n l
  turned_more tag row ms i n m l h is =
      let piece = match_where (is_tag fs m.0) tag m in
      subst (λ k. BeginsWith fs k n l)
      (append_assoc row (those fs tag (take i ms)) piece
      ∙ ap (λ xs. row ++ (those fs tag (take i ms) ++ xs)) (sym (append-nil piece))
      ∙ ap (λ xs. row ++ xs) (sym (flat_map-append (λ (x : ℕ × ℕ × ℕ). match_where (is_tag fs x.0) tag x) (take i ms) (m ∷ [])))
      ∙ ap (λ x. row ++ those fs tag (take i ms ++ x ∷ [])) is
      ∙ ap (λ xs. row ++ those fs tag xs) (sym (take_more ms i m h)))

  pub turned_all : (tag : Bool) (row ms : List (ℕ × ℕ × ℕ)) (i n : ℕ) (l : LastMatches) → length ms ≤ i
      → BeginsWith fs (row ++ those fs tag (take i ms)) n l → BeginsWith fs (row ++ those fs tag ms) n l
  turned_all tag row ms i n l h = subst (λ k. BeginsWith fs k n l) (ap (λ xs. row ++ those fs tag xs) (take_all i ms h))

  -- the matches before, the one between and those after are all
  pub parts_put : (tag : Bool) (row before after : List (ℕ × ℕ × ℕ)) (between : ℕ × ℕ × ℕ) (n : ℕ) (l : LastMatches)
      → BeginsWith fs (row ++ those fs tag before ++ match_where (is_tag fs between.0) tag between ++ those fs tag after) n l
      → BeginsWith fs (row ++ those fs tag (before ++ between ∷ after)) n l
  parts_put tag row before after between n l =
      let piece = match_where (is_tag fs between.0) tag between in
      subst (λ k. BeginsWith fs k n l)
      (apart row (those fs tag before) piece (those fs tag after)
      ∙ ap (λ xs. row ++ xs) (sym (flat_map-append (λ (x : ℕ × ℕ × ℕ). match_where (is_tag fs x.0) tag x) before (between ∷ after))))
    where
      apart : (a b c d : List (ℕ × ℕ × ℕ)) → a ++ b ++ c ++ d ≡ a ++ (b ++ (c ++ d))
      apart a b c d = simp append_assoc
