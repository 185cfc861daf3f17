-- The limit: what the reader of texts with a certificate does with tokens whose counts it follows.
use Rattle.std.proofs.Common.{◌≡◌, ◌≤◌, ◌<◌, ℕ, suc, List, [], ◌∷◌, ◌++◌, length, refl, sym, subst, ◌∙◌, ap, append_assoc, arith, Option, cond, ◌⊎◌, ⊎_elim}
use Rattle.std.specs.Prelude.{Some, None, Ok, Err, All, IsSomeAnd, map, option_and_then}
use Rattle.std.specs.declared.result.Result.{Result}
use Rattle.std.proofs.lemmas.List.Elements.{All-head, All-tail}
use Rattle.nk_lex.specs.declared.token.Token.{Token}
use Rattle.nk_lex.specs.Faults.{and_then}
use Rattle.nk_grammar.specs.declared.decl.GrammarError.{GrammarError}
use Rattle.nk_grammar.specs.declared.decl.GrammarError.TheVariants as error
use Rattle.nk_grammar.specs.Terminal.{Terminal, terminal_of}
use Rattle.nk_grammar.specs.File.{declared}
use Rattle.nk_grammar.specs.Answer.{terminals}
use Rattle.nk_grammar.specs.Certified.{Certified, certified, rows_said, HasCertificate}
use Rattle.nk_grammar.specs.CertifiedAnswer.{IsCertifiedDeepToken, IsCertifiedAnswer}
use Rattle.nk_grammar.specs.CertifiedMachine.{Certifying, certify_one, certify_all, first_certifying, certified_at_end, open_certified, judged_certified, certified_end_at, rest_of_certified, certified_of}
use Rattle.nk_grammar.proofs.Files.{within}
use Rattle.nk_nesting.proofs.Beyond.{beyond}
use Rattle.nk_grammar.proofs.CertifiedTexts.{reads_certified}
use Rattle.nk_grammar.proofs.CertifiedAnswering.{answers}
use Rattle.nk_nesting.specs.Counts.{GoWith}
use Rattle.nk_nesting.specs.Limit.{IsOpening, IsFirstAbove}
use Rattle.nk_nesting.specs.Certificates.{WrittenCertified, spell_certified, open_in_certified, OpensTheCertified257th}
use Rattle.nk_nesting.proofs.CertifiedFollowing.{certified_goes, CertifiesAlong, certified_along}
use Rattle.nk_nesting.proofs.Limits.{raises, more_or_not, at_first, further_on, divides, some_same, terminals_more, terminals_length}

-- what a text with a certificate says
abbrev value_of_text : WrittenCertified → Certified
value_of_text w = certified (map declared w.decls) (rows_said w.line w.pred w.others)

-- the text of tokens that are one's
abbrev written_in : (ts : List Terminal) (c : Certified) → HasCertificate ts c → WrittenCertified
written_in ts c h = record { decls = h.decls; line = h.line; pred = h.pred; others = h.others }

-- what a token that leaves at most 256 open leads to
taken : (o : Option Certifying) (s : Certifying) (line : ℕ) (f : Certifying → Result Certified GrammarError) → o ≡ Some s
    → open_certified s ≤ 256 → and_then (judged_certified line o) f ≡ f s
taken o s line f e le =
    ap (λ o. and_then (judged_certified line o) f) e
    ∙ ap (λ b. and_then (cond b (Ok s) (Err (error.TooDeep line))) f) (within (open_certified s) le)

-- and what one that leaves more open
refused : (o : Option Certifying) (s : Certifying) (line : ℕ) (f : Certifying → Result Certified GrammarError) → o ≡ Some s
    → 256 < open_certified s → and_then (judged_certified line o) f ≡ Err (error.TooDeep line)
refused o s line f e lt =
    ap (λ o. and_then (judged_certified line o) f) e
    ∙ ap (λ b. and_then (cond b (Ok s) (Err (error.TooDeep line))) f) (beyond (open_certified s) lt)

-- ---- the 257th is refused

-- the tokens up to it
walks : (before : List Token) (ks js : List ℕ) (t : Token) (more : List Terminal) (rest : List Token) (r : Certifying) (line : ℕ)
    → CertifiesAlong (ks ++ 257 ∷ js) (terminals (before ++ t ∷ []) ++ more) r → length ks ≡ length before
    → All (λ k. k ≤ 256) ks → rest_of_certified (before ++ t ∷ rest) r line ≡ Err (error.TooDeep t.line)
walks [] [] js t more rest r line h e few = by_step (certify_one r (terminal_of t)) refl h
  where
    by_step : (o : Option Certifying) → certify_one r (terminal_of t) ≡ o
        → IsSomeAnd o (λ s. (257 ≤ open_certified s) × (257 ≤ 256 → (open_certified s ≤ 256) × CertifiesAlong js more s))
        → and_then (judged_certified t.line (certify_one r (terminal_of t))) (λ s. rest_of_certified rest s t.line) ≡ Err (error.TooDeep t.line)
    by_step None f g = absurd g
    by_step (Some s) f g =
        let many = g.0 in
        refused (certify_one r (terminal_of t)) s t.line (λ s. rest_of_certified rest s t.line) f (omega (arith, many))
walks [] (k ∷ ks) js t more rest r line h e few = absurd (omega (arith, e))
walks (x ∷ before) [] js t more rest r line h e few = absurd (omega (arith, e))
walks (x ∷ before) (k ∷ ks) js t more rest r line h e few =
    by_step (certify_one r (terminal_of x)) refl h
    (λ s g. walks before ks js t more rest s x.line g (omega (arith, e)) (All-tail (λ k. k ≤ 256) k ks few))
  where
    by_step : (o : Option Certifying) → certify_one r (terminal_of x) ≡ o
        → IsSomeAnd o (λ s. (k ≤ open_certified s) × (k ≤ 256 → (open_certified s ≤ 256) × CertifiesAlong (ks ++ 257 ∷ js) (terminals (before ++ t ∷ []) ++ more) s))
        → ((s : Certifying) → CertifiesAlong (ks ++ 257 ∷ js) (terminals (before ++ t ∷ []) ++ more) s → rest_of_certified (before ++ t ∷ rest) s x.line ≡ Err (error.TooDeep t.line))
        → and_then (judged_certified x.line (certify_one r (terminal_of x))) (λ s. rest_of_certified (before ++ t ∷ rest) s x.line) ≡ Err (error.TooDeep t.line)
    by_step None f g go = absurd g
    by_step (Some s) f g go =
        let further = g.1 (All-head (λ k. k ≤ 256) k ks few) in
        taken (certify_one r (terminal_of x)) s x.line (λ s. rest_of_certified (before ++ t ∷ rest) s x.line) f further.0 ∙ go s further.1

-- a text's tokens are followed from the first on
followed : (w : WrittenCertified) (ts : List Terminal) → ts ≡ spell_certified w → CertifiesAlong (open_in_certified w) ts first_certifying
followed w ts e = subst (λ l. CertifiesAlong (open_in_certified w) l first_certifying) (sym e) (certified_along w)

-- the 257th is refused
pub refuses_257th : (w : WrittenCertified) (before : List Token) (t : Token) (more : List Terminal) (rest : List Token)
    → terminals (before ++ t ∷ []) ++ more ≡ spell_certified w → IsFirstAbove (open_in_certified w) (length before)
    → certified_of (before ++ t ∷ rest) ≡ Err (error.TooDeep t.line)
refuses_257th w before t more rest e a =
    walks before a.earlier a.later t more rest first_certifying 1
    (subst (λ l. CertifiesAlong l (terminals (before ++ t ∷ []) ++ more) first_certifying) a.parts (followed w (terminals (before ++ t ∷ []) ++ more) e)) a.place_is a.within

-- ---- a text within the limit is read

-- the tokens that are left
reads_rest : (ts : List Token) (ks : List ℕ) (r : Certifying) (line : ℕ) (ds : Certified) → CertifiesAlong ks (terminals ts) r
    → All (λ k. k ≤ 256) ks → option_and_then certified_at_end (certify_all (terminals ts) r) ≡ Some ds → rest_of_certified ts r line ≡ Ok ds
reads_rest [] ks r line ds h few e = ap (certified_end_at line) e
reads_rest (x ∷ ts) [] r line ds h few e = absurd h
reads_rest (x ∷ ts) (k ∷ ks) r line ds h few e =
    by_step (certify_one r (terminal_of x)) refl h e
    (λ s g e. reads_rest ts ks s x.line ds g (All-tail (λ k. k ≤ 256) k ks few) e)
  where
    by_step : (o : Option Certifying) → certify_one r (terminal_of x) ≡ o
        → IsSomeAnd o (λ s. (k ≤ open_certified s) × (k ≤ 256 → (open_certified s ≤ 256) × CertifiesAlong ks (terminals ts) s))
        → option_and_then certified_at_end (option_and_then (certify_all (terminals ts)) o) ≡ Some ds
        → ((s : Certifying) → CertifiesAlong ks (terminals ts) s → option_and_then certified_at_end (certify_all (terminals ts) s) ≡ Some ds → rest_of_certified ts s x.line ≡ Ok ds)
        → and_then (judged_certified x.line (certify_one r (terminal_of x))) (λ s. rest_of_certified ts s x.line) ≡ Ok ds
    by_step None f g e go = absurd g
    by_step (Some s) f g e go =
        let further = g.1 (All-head (λ k. k ≤ 256) k ks few) in
        taken (certify_one r (terminal_of x)) s x.line (λ s. rest_of_certified ts s x.line) f further.0 ∙ go s further.1 e

-- a text within the limit is read
pub reads_within : (ts : List Token) (w : WrittenCertified) → terminals ts ≡ spell_certified w
    → All (λ k. k ≤ 256) (open_in_certified w) → certified_of ts ≡ Ok (value_of_text w)
reads_within ts w e few =
    reads_rest ts (open_in_certified w) first_certifying 1 (value_of_text w) (followed w (terminals ts) e) few
    (reads_certified (terminals ts) (value_of_text w) (record { decls = w.decls; line = w.line; pred = w.pred; others = w.others; tokens = e; value = refl }))

-- ---- only the 257th is refused as too deep

-- after no front of the tokens more than 256 are open
abbrev IsShallowFrom : Certifying → List Terminal → Type 0
IsShallowFrom r ts = (xs ys : List Terminal) (s : Certifying) → ts ≡ xs ++ ys → certify_all xs r ≡ Some s → 256 < open_certified s → ⊥

-- after all of them more are
abbrev IsDeepFrom : Certifying → List Terminal → Type 0
IsDeepFrom r ts = (s : Certifying) × (certify_all ts r ≡ Some s) × (256 < open_certified s)

-- a text is within the limit, or some token is the first above it
pub text_divides : (w : WrittenCertified) → All (λ k. k ≤ 256) (open_in_certified w) ⊎ ((place : ℕ) × IsFirstAbove (open_in_certified w) place)
text_divides w = divides (open_in_certified w) (spell_certified w) 0 (omega arith) (certified_goes w)

-- the first place at which the reader's count is above 256 is the first at which the text's is
first_above : (before : List Terminal) (t : Terminal) (more : List Terminal) (ks : List ℕ) (n : ℕ) (r : Certifying) → n ≤ 256
    → GoWith n ks (before ++ t ∷ more) → CertifiesAlong ks (before ++ t ∷ more) r → IsShallowFrom r before
    → IsDeepFrom r (before ++ t ∷ []) → IsFirstAbove ks (length before) × IsOpening t
first_above [] t more [] n r le go h shallow deep = absurd h
first_above (x ∷ before) t more [] n r le go h shallow deep = absurd h
first_above [] t more (k ∷ ks) n r le go h shallow deep = by_step (certify_one r t) h deep.1
  where
    by_step : (o : Option Certifying) → IsSomeAnd o (λ s. (k ≤ open_certified s) × (k ≤ 256 → (open_certified s ≤ 256) × CertifiesAlong ks more s))
        → option_and_then (certify_all []) o ≡ Some deep.0 → IsFirstAbove (k ∷ ks) 0 × IsOpening t
    by_step None g e = absurd g
    by_step (Some s) g e = ⊎_elim (λ few. absurd (not_both (g.1 few).0)) (λ many. let o = raises t n k go.0 le many in (at_first k ks o.1, o.0)) (more_or_not k)
      where
        not_both : open_certified s ≤ 256 → ⊥
        not_both few = let lt = deep.2 in omega (arith, few, lt, ap open_certified (some_same s deep.0 e))
first_above (x ∷ before) t more (k ∷ ks) n r le go h shallow deep =
    by_step (certify_one r x) refl h deep.1
    (λ s few g sh d. first_above before t more ks k s few go.1 g sh d)
  where
    by_step : (o : Option Certifying) → certify_one r x ≡ o
        → IsSomeAnd o (λ s. (k ≤ open_certified s) × (k ≤ 256 → (open_certified s ≤ 256) × CertifiesAlong ks (before ++ t ∷ more) s))
        → option_and_then (certify_all (before ++ t ∷ [])) o ≡ Some deep.0
        → ((s : Certifying) → k ≤ 256 → CertifiesAlong ks (before ++ t ∷ more) s → IsShallowFrom s before → IsDeepFrom s (before ++ t ∷ []) → IsFirstAbove ks (length before) × IsOpening t)
        → IsFirstAbove (k ∷ ks) (suc (length before)) × IsOpening t
    by_step None f g e go = absurd g
    by_step (Some s) f g e go =
        let a = go s few (g.1 few).1 (λ xs ys s' e' e'' lt. shallow (x ∷ xs) ys s' (ap (λ l. x ∷ l) e') (ap (option_and_then (certify_all xs)) f ∙ e'') lt) (deep.0, e, deep.2) in
        (further_on k ks (length before) few a.0, a.1)
      where
        few : k ≤ 256
        few = ⊎_elim (λ le. le) (λ lt. absurd (shallow (x ∷ []) before s refl (ap (option_and_then (certify_all [])) f) (above lt))) (more_or_not k)
          where
            above : 256 < k → 256 < open_certified s
            above lt = let low = g.0 in omega (arith, lt, low)

-- a token that is refused as too deep
above_of : (ts : List Token) (line : ℕ) (d : IsCertifiedDeepToken ts line) (w : WrittenCertified) (more : List Terminal)
    → terminals (d.before ++ d.token ∷ []) ++ more ≡ spell_certified w
    → IsFirstAbove (open_in_certified w) (length d.before) × IsOpening (terminal_of d.token)
above_of ts line d w more e =
    let a = first_above (terminals d.before) (terminal_of d.token) more (open_in_certified w) 0 first_certifying (omega arith)
    (subst (GoWith 0 (open_in_certified w)) (sym spelled) (certified_goes w))
    (followed w (terminals d.before ++ terminal_of d.token ∷ more) spelled)
    (λ xs ys s e' e'' lt. d.shallow xs ys e' (s, e'', lt))
    (subst (IsDeepFrom first_certifying) (terminals_more d.before d.token) d.deep) in
    (subst (IsFirstAbove (open_in_certified w)) (terminals_length d.before) a.0, a.1)
  where
    spelled : terminals d.before ++ terminal_of d.token ∷ more ≡ spell_certified w
    spelled =
        sym (append_assoc (terminals d.before) (terminal_of d.token ∷ []) more)
        ∙ ap (λ l. l ++ more) (sym (terminals_more d.before d.token)) ∙ e

-- only the 257th is refused as too deep
pub refuses_only : (ts : List Token) (line : ℕ) → certified_of ts ≡ Err (error.TooDeep line) → OpensTheCertified257th ts line
refuses_only ts line e = by_token (subst (IsCertifiedAnswer ts) e (answers ts))
  where
    by_token : IsCertifiedDeepToken ts line → OpensTheCertified257th ts line
    by_token d = record {
      before = d.before;
      token = d.token;
      rest = d.rest;
      parts = d.parts;
      line_is = d.line_is;
      opens = (above_of ts line d (written_in (terminals (d.before ++ d.token ∷ []) ++ d.goes_on.0) d.goes_on.1 d.goes_on.2) d.goes_on.0 d.goes_on.2.tokens).1;
      goes_on = d.goes_on;
      above = λ w more e. (above_of ts line d w more e).0;
    }
