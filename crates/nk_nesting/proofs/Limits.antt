-- The limit: what the reader does with tokens whose counts it follows.
use Rattle.std.proofs.Common.{◌≡◌, ◌≤◌, ◌<◌, ℕ, suc, Bool, true, false, List, [], ◌∷◌, ◌++◌, length, refl, sym, subst, ◌∙◌, ap, append_assoc, arith, Option, cond, inl, inr, ◌⊎◌, ⊎_elim}
use Rattle.std.specs.Prelude.{Some, None, Ok, Err, All, IsSomeAnd, map, nat_le, option_and_then}
use Rattle.std.specs.declared.result.Result.{Result}
use Rattle.std.proofs.lemmas.Bool.Decides.{nat_tests}
use Rattle.std.proofs.lemmas.List.Elements.{All-nil, All-cons, All-head, All-tail}
use Rattle.nk_lex.specs.declared.token.Token.{Token}
use Rattle.nk_lex.specs.Faults.{and_then}
use Rattle.nk_grammar.specs.declared.decl.GrammarError.{GrammarError}
use Rattle.nk_grammar.specs.declared.decl.GrammarError.TheVariants as error
use Rattle.nk_grammar.specs.Terminal.{Terminal, tilde, opening, terminal_of}
use Rattle.nk_grammar.specs.File.{Declaration, Written, declared, spell_file}
use Rattle.nk_grammar.specs.FileMachine.{Reading, read_one, read_all, first_reading, declarations_at_end, open_count, judged, ended_at, rest_of_file, file_of}
use Rattle.nk_grammar.specs.Answer.{terminals, IsDeepToken, IsParse}
use Rattle.nk_grammar.proofs.Files.{within}
use Rattle.nk_nesting.proofs.Beyond.{beyond}
use Rattle.nk_grammar.proofs.Texts.{reads_file}
use Rattle.nk_grammar.proofs.Answering.{answers}
use Rattle.nk_nesting.specs.Counts.{open_in_file, Changes, GoWith}
use Rattle.nk_nesting.specs.Limit.{IsOpening, IsFirstAbove, OpensThe257th}
use Rattle.nk_nesting.proofs.Counting.{goes_with}
use Rattle.nk_nesting.proofs.Following.{ReadsAlong, file_along}

-- what a token that leaves at most 256 open leads to
taken : (o : Option Reading) (s : Reading) (line : ℕ) (f : Reading → Result (List Declaration) GrammarError) → o ≡ Some s
    → open_count s ≤ 256 → and_then (judged line o) f ≡ f s
taken o s line f e le =
    ap (λ o. and_then (judged line o) f) e
    ∙ ap (λ b. and_then (cond b (Ok s) (Err (error.TooDeep line))) f) (within (open_count s) le)

-- and what one that leaves more open
refused : (o : Option Reading) (s : Reading) (line : ℕ) (f : Reading → Result (List Declaration) GrammarError) → o ≡ Some s
    → 256 < open_count s → and_then (judged line o) f ≡ Err (error.TooDeep line)
refused o s line f e lt =
    ap (λ o. and_then (judged line o) f) e
    ∙ ap (λ b. and_then (cond b (Ok s) (Err (error.TooDeep line))) f) (beyond (open_count s) lt)

-- ---- the 257th is refused

-- the tokens up to it
walks : (before : List Token) (ks js : List ℕ) (t : Token) (more : List Terminal) (rest : List Token) (r : Reading) (line : ℕ)
    → ReadsAlong (ks ++ 257 ∷ js) (terminals (before ++ t ∷ []) ++ more) r → length ks ≡ length before
    → All (λ k. k ≤ 256) ks → rest_of_file (before ++ t ∷ rest) r line ≡ Err (error.TooDeep t.line)
walks [] [] js t more rest r line h e few = by_step (read_one r (terminal_of t)) refl h
  where
    by_step : (o : Option Reading) → read_one r (terminal_of t) ≡ o
        → IsSomeAnd o (λ s. (257 ≤ open_count s) × (257 ≤ 256 → (open_count s ≤ 256) × ReadsAlong js more s))
        → and_then (judged t.line (read_one r (terminal_of t))) (λ s. rest_of_file rest s t.line) ≡ Err (error.TooDeep t.line)
    by_step None f g = absurd g
    by_step (Some s) f g =
        let many = g.0 in
        refused (read_one r (terminal_of t)) s t.line (λ s. rest_of_file rest s t.line) f (omega (arith, many))
walks [] (k ∷ ks) js t more rest r line h e few = absurd (omega (arith, e))
walks (x ∷ before) [] js t more rest r line h e few = absurd (omega (arith, e))
walks (x ∷ before) (k ∷ ks) js t more rest r line h e few =
    by_step (read_one r (terminal_of x)) refl h
    (λ s g. walks before ks js t more rest s x.line g (omega (arith, e)) (All-tail (λ k. k ≤ 256) k ks few))
  where
    by_step : (o : Option Reading) → read_one r (terminal_of x) ≡ o
        → IsSomeAnd o (λ s. (k ≤ open_count s) × (k ≤ 256 → (open_count s ≤ 256) × ReadsAlong (ks ++ 257 ∷ js) (terminals (before ++ t ∷ []) ++ more) s))
        → ((s : Reading) → ReadsAlong (ks ++ 257 ∷ js) (terminals (before ++ t ∷ []) ++ more) s → rest_of_file (before ++ t ∷ rest) s x.line ≡ Err (error.TooDeep t.line))
        → and_then (judged x.line (read_one r (terminal_of x))) (λ s. rest_of_file (before ++ t ∷ rest) s x.line) ≡ Err (error.TooDeep t.line)
    by_step None f g go = absurd g
    by_step (Some s) f g go =
        let further = g.1 (All-head (λ k. k ≤ 256) k ks few) in
        taken (read_one r (terminal_of x)) s x.line (λ s. rest_of_file (before ++ t ∷ rest) s x.line) f further.0 ∙ go s further.1

-- a text's tokens are followed from the first on
followed : (ws : List Written) (ts : List Terminal) → ts ≡ spell_file ws → ReadsAlong (open_in_file ws) ts first_reading
followed ws ts e = subst (λ l. ReadsAlong (open_in_file ws) l first_reading) (sym e) (file_along ws [])

-- the 257th is refused
pub refuses_257th : (ws : List Written) (before : List Token) (t : Token) (more : List Terminal) (rest : List Token)
    → terminals (before ++ t ∷ []) ++ more ≡ spell_file ws → IsFirstAbove (open_in_file ws) (length before)
    → file_of (before ++ t ∷ rest) ≡ Err (error.TooDeep t.line)
refuses_257th ws before t more rest e a =
    walks before a.earlier a.later t more rest first_reading 1
    (subst (λ l. ReadsAlong l (terminals (before ++ t ∷ []) ++ more) first_reading) a.parts (followed ws (terminals (before ++ t ∷ []) ++ more) e)) a.place_is a.within

-- ---- a text within the limit is read

-- the tokens that are left
reads_rest : (ts : List Token) (ks : List ℕ) (r : Reading) (line : ℕ) (ds : List Declaration) → ReadsAlong ks (terminals ts) r
    → All (λ k. k ≤ 256) ks → option_and_then declarations_at_end (read_all (terminals ts) r) ≡ Some ds → rest_of_file ts r line ≡ Ok ds
reads_rest [] ks r line ds h few e = ap (ended_at line) e
reads_rest (x ∷ ts) [] r line ds h few e = absurd h
reads_rest (x ∷ ts) (k ∷ ks) r line ds h few e =
    by_step (read_one r (terminal_of x)) refl h e
    (λ s g e. reads_rest ts ks s x.line ds g (All-tail (λ k. k ≤ 256) k ks few) e)
  where
    by_step : (o : Option Reading) → read_one r (terminal_of x) ≡ o
        → IsSomeAnd o (λ s. (k ≤ open_count s) × (k ≤ 256 → (open_count s ≤ 256) × ReadsAlong ks (terminals ts) s))
        → option_and_then declarations_at_end (option_and_then (read_all (terminals ts)) o) ≡ Some ds
        → ((s : Reading) → ReadsAlong ks (terminals ts) s → option_and_then declarations_at_end (read_all (terminals ts) s) ≡ Some ds → rest_of_file ts s x.line ≡ Ok ds)
        → and_then (judged x.line (read_one r (terminal_of x))) (λ s. rest_of_file ts s x.line) ≡ Ok ds
    by_step None f g e go = absurd g
    by_step (Some s) f g e go =
        let further = g.1 (All-head (λ k. k ≤ 256) k ks few) in
        taken (read_one r (terminal_of x)) s x.line (λ s. rest_of_file ts s x.line) f further.0 ∙ go s further.1 e

-- a text within the limit is read
pub reads_within : (ts : List Token) (ws : List Written) → terminals ts ≡ spell_file ws
    → All (λ k. k ≤ 256) (open_in_file ws) → file_of ts ≡ Ok (map declared ws)
reads_within ts ws e few =
    reads_rest ts (open_in_file ws) first_reading 1 (map declared ws) (followed ws (terminals ts) e) few
    (reads_file (terminals ts) (map declared ws) (ws, e, refl))

-- ---- only the 257th is refused as too deep

-- the only tokens that raise the count are `(` and `~`, and by one
pub raises : (t : Terminal) (n k : ℕ) → Changes t n k → n ≤ 256 → 256 < k → IsOpening t × (k ≡ 257)
raises (tilde l) n k c le lt = (tt, omega (arith, c, le, lt))
raises opening n k c le lt = (tt, omega (arith, c, le, lt))
raises t n k c le lt = absurd (omega (arith, c, le, lt))

-- after no front of the tokens more than 256 are open
abbrev IsShallowFrom : Reading → List Terminal → Type 0
IsShallowFrom r ts = (xs ys : List Terminal) (s : Reading) → ts ≡ xs ++ ys → read_all xs r ≡ Some s → 256 < open_count s → ⊥

-- after all of them more are
abbrev IsDeepFrom : Reading → List Terminal → Type 0
IsDeepFrom r ts = (s : Reading) × (read_all ts r ≡ Some s) × (256 < open_count s)

-- more, or at most as many
pub more_or_not : (n : ℕ) → (n ≤ 256) ⊎ (256 < n)
more_or_not n = by_test (nat_le n 256) refl
  where
    by_test : (b : Bool) → nat_le n 256 ≡ b → (n ≤ 256) ⊎ (256 < n)
    by_test true e = inl (grind (arith, nat_tests))
    by_test false e = inr (grind (arith, nat_tests))

-- values that are there and equal are equal
pub some_same : {A : Type 0} (x y : A) → ◌≡◌ {A = Option A} (Some x) (Some y) → x ≡ y
some_same x y e = cc

-- the first place is the first above
pub at_first : (k : ℕ) (ks : List ℕ) → k ≡ 257 → IsFirstAbove (k ∷ ks) 0
at_first k ks e = record {
  earlier = [];
  later = ks;
  parts = ap (λ x. x ∷ ks) e;
  place_is = refl;
  within = All-nil (λ k. k ≤ 256);
}

-- one place further on
pub further_on : (k : ℕ) (ks : List ℕ) (place : ℕ) → k ≤ 256 → IsFirstAbove ks place → IsFirstAbove (k ∷ ks) (suc place)
further_on k ks place le a = record {
  earlier = k ∷ a.earlier;
  later = a.later;
  parts = ap (λ l. k ∷ l) a.parts;
  place_is = ap suc a.place_is;
  within = All-cons (λ k. k ≤ 256) k a.earlier le a.within;
}

-- the counts are within the limit, or there is a first above it
pub divides : (ks : List ℕ) (ts : List Terminal) (n : ℕ) → n ≤ 256 → GoWith n ks ts
    → All (λ k. k ≤ 256) ks ⊎ ((place : ℕ) × IsFirstAbove ks place)
divides [] ts n le go = inl (All-nil (λ k. k ≤ 256))
divides (k ∷ ks) [] n le go = absurd go
divides (k ∷ ks) (t ∷ ts) n le go =
    ⊎_elim (λ few. ⊎_elim (λ all. inl (All-cons (λ k. k ≤ 256) k ks few all)) (λ a. inr (suc a.0, further_on k ks a.0 few a.1)) (divides ks ts k few go.1))
    (λ many. inr (0, at_first k ks (raises t n k go.0 le many).1)) (more_or_not k)

-- a text is within the limit, or some token is the first above it
pub text_divides : (ws : List Written) → All (λ k. k ≤ 256) (open_in_file ws) ⊎ ((place : ℕ) × IsFirstAbove (open_in_file ws) place)
text_divides ws = divides (open_in_file ws) (spell_file ws) 0 (omega arith) (goes_with ws)

-- the first place at which the reader's count is above 256 is the first at which the text's is
first_above : (before : List Terminal) (t : Terminal) (more : List Terminal) (ks : List ℕ) (n : ℕ) (r : Reading) → n ≤ 256
    → GoWith n ks (before ++ t ∷ more) → ReadsAlong ks (before ++ t ∷ more) r → IsShallowFrom r before
    → IsDeepFrom r (before ++ t ∷ []) → IsFirstAbove ks (length before) × IsOpening t
first_above [] t more [] n r le go h shallow deep = absurd h
first_above (x ∷ before) t more [] n r le go h shallow deep = absurd h
first_above [] t more (k ∷ ks) n r le go h shallow deep = by_step (read_one r t) h deep.1
  where
    by_step : (o : Option Reading) → IsSomeAnd o (λ s. (k ≤ open_count s) × (k ≤ 256 → (open_count s ≤ 256) × ReadsAlong ks more s))
        → option_and_then (read_all []) o ≡ Some deep.0 → IsFirstAbove (k ∷ ks) 0 × IsOpening t
    by_step None g e = absurd g
    by_step (Some s) g e = ⊎_elim (λ few. absurd (not_both (g.1 few).0)) (λ many. let o = raises t n k go.0 le many in (at_first k ks o.1, o.0)) (more_or_not k)
      where
        not_both : open_count s ≤ 256 → ⊥
        not_both few = let lt = deep.2 in omega (arith, few, lt, ap open_count (some_same s deep.0 e))
first_above (x ∷ before) t more (k ∷ ks) n r le go h shallow deep =
    by_step (read_one r x) refl h deep.1
    (λ s few g sh d. first_above before t more ks k s few go.1 g sh d)
  where
    by_step : (o : Option Reading) → read_one r x ≡ o
        → IsSomeAnd o (λ s. (k ≤ open_count s) × (k ≤ 256 → (open_count s ≤ 256) × ReadsAlong ks (before ++ t ∷ more) s))
        → option_and_then (read_all (before ++ t ∷ [])) o ≡ Some deep.0
        → ((s : Reading) → k ≤ 256 → ReadsAlong ks (before ++ t ∷ more) s → IsShallowFrom s before → IsDeepFrom s (before ++ t ∷ []) → IsFirstAbove ks (length before) × IsOpening t)
        → IsFirstAbove (k ∷ ks) (suc (length before)) × IsOpening t
    by_step None f g e go = absurd g
    by_step (Some s) f g e go =
        let a = go s few (g.1 few).1 (λ xs ys s' e' e'' lt. shallow (x ∷ xs) ys s' (ap (λ l. x ∷ l) e') (ap (option_and_then (read_all xs)) f ∙ e'') lt) (deep.0, e, deep.2) in
        (further_on k ks (length before) few a.0, a.1)
      where
        few : k ≤ 256
        few = ⊎_elim (λ le. le) (λ lt. absurd (shallow (x ∷ []) before s refl (ap (option_and_then (read_all [])) f) (above lt))) (more_or_not k)
          where
            above : 256 < k → 256 < open_count s
            above lt = let low = g.0 in omega (arith, lt, low)

-- the terminals of one more token
pub terminals_more : (xs : List Token) (t : Token) → terminals (xs ++ t ∷ []) ≡ terminals xs ++ terminal_of t ∷ []
terminals_more [] t = refl
terminals_more (x ∷ xs) t = ap (λ l. terminal_of x ∷ l) (terminals_more xs t)

-- as many tokens as terminals
pub terminals_length : (xs : List Token) → length (terminals xs) ≡ length xs
terminals_length [] = refl
terminals_length (x ∷ xs) = ap suc (terminals_length xs)

-- a token that is refused as too deep
above_of : (ts : List Token) (line : ℕ) (d : IsDeepToken ts line) (ws : List Written) (more : List Terminal)
    → terminals (d.before ++ d.token ∷ []) ++ more ≡ spell_file ws
    → IsFirstAbove (open_in_file ws) (length d.before) × IsOpening (terminal_of d.token)
above_of ts line d ws more e =
    let a = first_above (terminals d.before) (terminal_of d.token) more (open_in_file ws) 0 first_reading (omega arith)
    (subst (GoWith 0 (open_in_file ws)) (sym spelled) (goes_with ws))
    (followed ws (terminals d.before ++ terminal_of d.token ∷ more) spelled)
    (λ xs ys s e' e'' lt. d.shallow xs ys e' (s, e'', lt))
    (subst (IsDeepFrom first_reading) (terminals_more d.before d.token) d.deep) in
    (subst (IsFirstAbove (open_in_file ws)) (terminals_length d.before) a.0, a.1)
  where
    spelled : terminals d.before ++ terminal_of d.token ∷ more ≡ spell_file ws
    spelled =
        sym (append_assoc (terminals d.before) (terminal_of d.token ∷ []) more)
        ∙ ap (λ l. l ++ more) (sym (terminals_more d.before d.token)) ∙ e

-- only the 257th is refused as too deep
pub refuses_only : (ts : List Token) (line : ℕ) → file_of ts ≡ Err (error.TooDeep line) → OpensThe257th ts line
refuses_only ts line e = by_token (subst (IsParse ts) e (answers ts))
  where
    by_token : IsDeepToken ts line → OpensThe257th ts line
    by_token d = record {
      before = d.before;
      token = d.token;
      rest = d.rest;
      parts = d.parts;
      line_is = d.line_is;
      opens = (above_of ts line d d.goes_on.1 d.goes_on.0 d.goes_on.2).1;
      goes_on = d.goes_on;
      above = λ ws more e. (above_of ts line d ws more e).0;
    }
