-- Reading token by token: what is known, and what is done.
use Rattle.std.proofs.Common.{◌≡◌, ℕ, List, [], ◌∷◌, ◌++◌, Bool, true, false, refl, ap, sym, subst, ◌∙◌, append-nil, Option}
use Rattle.std.proofs.lemmas.List.Sums.{fold-append}
use Rattle.std.specs.Prelude.{Some, None, Ok, Err, IfOk, fold, option_map, if◌then◌else◌, nat_le, ⊤}
use Rattle.std.specs.declared.result.Result.{Result}
use Rattle.nk_lex.specs.declared.token.Token.{Token}
use Rattle.nk_lex.specs.declared.ident.Number.{Number}
use Rattle.nk_lex.specs.Faults.{and_then}
use Rattle.nk_grammar.specs.declared.decl.CertRow.{CertRow}
use Rattle.nk_grammar.specs.declared.decl.GrammarError.{GrammarError}
use Rattle.nk_grammar.specs.declared.decl.GrammarError.TheVariants as error
use Rattle.nk_grammar.specs.declared.certified.CertifiedStage.{CertifiedStage}
use Rattle.nk_grammar.specs.declared.certified.CertifiedStage.TheVariants as stage
use Rattle.nk_grammar.specs.Terminal.{Terminal, terminal_of, is_colon_terminal}
use Rattle.nk_grammar.specs.Tree.{Tree}
use Rattle.nk_grammar.specs.Machine.{State, first_state, step, policy_ended, in_option, number_in}
use Rattle.nk_grammar.specs.File.{Declaration}
use Rattle.nk_grammar.specs.FileMachine.{Phase, Reading, ParseReturns, next_reading, text_ended}
use Rattle.nk_grammar.specs.Certified.{Row, row, row_value, Certified, certified}
use Rattle.nk_grammar.specs.CertifiedMachine.{CertifiedPhase, declaring, row_wanted, start_wanted, start_read, number_wanted, numbers_read, in_row, Certifying, certifying, is_certificate, is_start_word, row_in, in_line, certificate_begins, still_declaring, row_on, certify_one, first_certifying, certificate_ends, open_certified, judged_certified, certified_end_at, rest_of_certified, certified_of}
use Rattle.nk_grammar.specs.FileReader.{phase_in}
use Rattle.nk_grammar.specs.Reader.{reader_state}
use Rattle.nk_grammar.specs.CertificateParser.{certified_phase_of, progress_of, TakesToken}
use Rattle.nk_grammar.specs.declared.decl.Completed.{Completed}
use Rattle.nk_grammar.specs.declared.certificate_parser.Known.{Known}
use Rattle.nk_grammar.specs.declared.certificate_parser.Known.TheVariants as known
use Rattle.nk_grammar.specs.CertifiedProgress.{CertifiedProgress, Going, Stopped, bare, with_done, done_declarations, ParsedPrefix, parsed_prefix, empty_prefix, prefix_at, prefix_judged, prefix_after, IsRead, certified_so_far, declarations_by, rows_by, IsStopped, ReadsCertifiedAsWhole}
use Rattle.nk_grammar.proofs.After.{following, certify_after}

-- what the machine's state says that is put together
pub at_done : (x : CertifiedStage) (p : Phase) (s : State) (ds : List Declaration) (rs : List Row) (line : ℕ)
    → prefix_at (with_done (certified_phase_of x p s) ds rs) line ≡ parsed_prefix (Going (certified_phase_of x p s) line) ds rs
at_done stage.Declaring p s ds rs line = refl
at_done x p s ds rs line = refl

-- ---- what a reader takes

-- a token is taken
pub takes_on : (k j : Known) (t : Token) (o : Option Completed) (line : ℕ) → TakesToken k j t (Ok o)
    → prefix_after (parsed_prefix (progress_of k line) [] []) t ≡ parsed_prefix (progress_of j t.line) (declarations_by o) (rows_by o)
takes_on (known.Sound r) (known.Sound s) t o line h =
    ap (λ x. prefix_judged x (parsed_prefix (progress_of (known.Sound r) line) [] []) t.line) h.0
    ∙ at_done s.stage (phase_in s.reader) (reader_state s.policy) (declarations_by o) (rows_by o) t.line
takes_on (known.Sound r) (known.Stopped e) t o line h = absurd h
takes_on (known.Stopped e) j t o line h =
    ap (λ x. parsed_prefix (progress_of x t.line) [] []) (sym h.0) ∙ ap (λ x. parsed_prefix (progress_of j t.line) (declarations_by x) (rows_by x)) (sym (same o h.1))
  where
    same : (o : Option Completed) → ◌≡◌ {A = Result (Option Completed) GrammarError} (Ok o) (Ok None) → o ≡ None
    same o e = cc

-- a token has a fault
pub takes_fault : (k j : Known) (t : Token) (e : GrammarError) (line : ℕ) → (e ≡ error.NoMemory → ⊥) → TakesToken k j t (Err e)
    → prefix_after (parsed_prefix (progress_of k line) [] []) t ≡ parsed_prefix (Stopped e) [] []
takes_fault (known.Sound r) (known.Sound s) t error.NoMemory line n h = absurd (n refl)
takes_fault (known.Sound r) (known.Sound s) t e line n h =
    ap (λ x. prefix_judged x (parsed_prefix (progress_of (known.Sound r) line) [] []) t.line) h.0
takes_fault (known.Sound r) (known.Stopped f) t e line n h = absurd h
takes_fault (known.Stopped f) j t e line n h = absurd (differ h.1)
  where
    differ : ◌≡◌ {A = Result (Option Completed) GrammarError} (Err e) (Ok None) → ⊥
    differ i = cc

-- after a fault nothing is taken
pub takes_nothing : (k j : Known) (t : Token) (r : Result (Option Completed) GrammarError) (line at : ℕ) → IsStopped (progress_of k line)
    → TakesToken k j t r → (r ≡ Ok None) × (progress_of j at ≡ progress_of k line)
takes_nothing (known.Sound r) j t x line at i h = absurd (differ i)
  where
    differ : false ≡ true → ⊥
    differ i = cc
takes_nothing (known.Stopped e) j t r line at i h = (h.1, ap (λ x. progress_of x at) h.0)

-- and there is no further one
pub no_fault_after : (k j : Known) (t : Token) (e : GrammarError) (line : ℕ) → IsStopped (progress_of k line) → TakesToken k j t (Err e) → ⊥
no_fault_after k j t e line i h = differ (takes_nothing k j t (Err e) line line i h).0
  where
    differ : ◌≡◌ {A = Result (Option Completed) GrammarError} (Err e) (Ok None) → ⊥
    differ i = cc

-- without memory nothing changes
pub takes_no_memory : (k j : Known) (t : Token) (line : ℕ) → TakesToken k j t (Err error.NoMemory) → progress_of j line ≡ progress_of k line
takes_no_memory (known.Sound r) (known.Sound s) t line h = ap (λ x. Going x line) h.1
takes_no_memory (known.Sound r) (known.Stopped e) t line h = absurd h
takes_no_memory (known.Stopped e) j t line h = ap (λ x. progress_of x line) h.0

-- ---- after further declarations and rows

-- what is known, with these declarations and rows before those that are done
abbrev prefix_following : List Declaration → List Row → ParsedPrefix → ParsedPrefix
prefix_following ds rs s = parsed_prefix s.progress (ds ++ s.declarations) (rs ++ s.rows)

-- nothing is done but what was before
nothing_following : (p : CertifiedProgress) (ds : List Declaration) (rs : List Row) → parsed_prefix p ds rs ≡ prefix_following ds rs (parsed_prefix p [] [])
nothing_following p ds rs = ap (λ l. parsed_prefix p l rs) (sym (append-nil ds)) ∙ ap (λ l. parsed_prefix p (ds ++ []) l) (sym (append-nil rs))

-- after further declarations and rows as many parentheses and `~` are open
open_after : (ds : List Declaration) (rs : List Row) (p : CertifiedPhase) (es : List Declaration) (qs : List Row)
    → open_certified (following ds rs (certifying p es qs)) ≡ open_certified (certifying p es qs)
open_after ds rs (declaring r) es qs = refl
open_after ds rs p es qs = refl

-- what is known of a state after further declarations and rows is what is known of the state, with these before
at_after : (ds : List Declaration) (rs : List Row) (p : CertifiedPhase) (es : List Declaration) (qs : List Row) (line : ℕ)
    → prefix_at (following ds rs (certifying p es qs)) line ≡ prefix_following ds rs (prefix_at (certifying p es qs) line)
at_after ds rs (declaring r) es qs line = refl
at_after ds rs p es qs line = refl

-- what a token leads to
judged_after : (p : CertifiedProgress) (ds : List Declaration) (rs : List Row) (at : ℕ) (o : Option Certifying)
    → prefix_judged (judged_certified at (option_map (following ds rs) o)) (parsed_prefix p ds rs) at
    ≡ prefix_following ds rs (prefix_judged (judged_certified at o) (parsed_prefix p [] []) at)
judged_after p ds rs at None = nothing_following (Stopped (error.Unexpected at)) ds rs
judged_after p ds rs at (Some c) =
    ap (λ n. prefix_judged (if nat_le n 256 then Ok (following ds rs c) else Err (error.TooDeep at)) (parsed_prefix p ds rs) at)
    (open_after ds rs c.phase c.declarations c.rows)
    ∙ by_count (nat_le (open_certified c) 256)
  where
    by_count : (b : Bool) → prefix_judged (if b then Ok (following ds rs c) else Err (error.TooDeep at)) (parsed_prefix p ds rs) at
        ≡ prefix_following ds rs (prefix_judged (if b then Ok c else Err (error.TooDeep at)) (parsed_prefix p [] []) at)
    by_count true = at_after ds rs c.phase c.declarations c.rows at
    by_count false = nothing_following (Stopped (error.TooDeep at)) ds rs

-- one more token
after_next : (p : CertifiedProgress) (ds : List Declaration) (rs : List Row) (t : Token)
    → prefix_after (parsed_prefix p ds rs) t ≡ prefix_following ds rs (prefix_after (parsed_prefix p [] []) t)
after_next (Stopped e) ds rs t = nothing_following (Stopped e) ds rs
after_next (Going p line) ds rs t =
    ap (λ l. prefix_judged (judged_certified t.line (certify_one (with_done p l rs) (terminal_of t))) (parsed_prefix (Going p line) ds rs) t.line) (sym (append-nil ds))
    ∙ ap (λ l. prefix_judged (judged_certified t.line (certify_one (with_done p (ds ++ []) l) (terminal_of t))) (parsed_prefix (Going p line) ds rs) t.line) (sym (append-nil rs))
    ∙ ap (λ o. prefix_judged (judged_certified t.line o) (parsed_prefix (Going p line) ds rs) t.line) (certify_after ds [] rs [] p (terminal_of t))
    ∙ judged_after (Going p line) ds rs t.line (certify_one (with_done p [] []) (terminal_of t))

-- a further token is read
pub one_more_read : (ts : List Token) (ds es : List Declaration) (rs qs : List Row) (p q : CertifiedProgress) (t : Token)
    → prefix_after (parsed_prefix p [] []) t ≡ parsed_prefix q es qs → IsRead ts ds rs p → IsRead (ts ++ t ∷ []) (ds ++ es) (rs ++ qs) q
one_more_read ts ds es rs qs p q t e h =
    fold-append prefix_after empty_prefix ts (t ∷ []) ∙ ap (λ s. prefix_after s t) h ∙ after_next p ds rs t ∙ ap (prefix_following ds rs) e

-- what holds of a value that is there
pub on_ok : {T E : Type 0} {P Q : T → Type 0} (r : Result T E) → ((x : T) → P x → Q x) → IfOk r P → IfOk r Q
on_ok (Ok x) f h = f x h
on_ok (Err e) f h = tt

-- ---- the end

end_after : (p : CertifiedProgress) (ds : List Declaration) (rs : List Row) (r : Row) → certified_so_far p [] [] ≡ Ok (certified [] (r ∷ []))
    → certified_so_far p ds rs ≡ Ok (certified ds (rs ++ r ∷ []))
end_after (Going (in_row l ns s) line) ds rs r h = by_end (policy_ended s) h
  where
    first : (x y : Row) → ◌≡◌ {A = Result Certified GrammarError} (Ok (certified [] (x ∷ []))) (Ok (certified [] (y ∷ []))) → x ≡ y
    first x y e = first_row (certified [] (x ∷ [])) (certified [] (y ∷ [])) x y (same (certified [] (x ∷ [])) (certified [] (y ∷ [])) e) refl refl
      where
        same : (a b : Certified) → ◌≡◌ {A = Result Certified GrammarError} (Ok a) (Ok b) → a ≡ b
        same a b e = cc

        heads : (x y : Row) → x ∷ [] ≡ y ∷ [] → x ≡ y
        heads x y e = cc

        first_row : (a b : Certified) (x y : Row) → a ≡ b → a.rows ≡ x ∷ [] → b.rows ≡ y ∷ [] → x ≡ y
        first_row a b x y e f g = heads x y (sym f ∙ ap (λ c. c.rows) e ∙ g)

    by_end : (o : Option Tree) → certified_end_at line (certificate_ends [] [] ns l o) ≡ Ok (certified [] (r ∷ []))
        → certified_end_at line (certificate_ends ds rs ns l o) ≡ Ok (certified ds (rs ++ r ∷ []))
    by_end None e = absurd cc
    by_end (Some q) e = ap (λ x. Ok (certified ds (rs ++ x ∷ []))) (first (row ns q l) r e)
end_after p ds rs r h = absurd cc

fault_after : (p : CertifiedProgress) (ds : List Declaration) (rs : List Row) (f : GrammarError) → certified_so_far p [] [] ≡ Err f
    → certified_so_far p ds rs ≡ Err f
fault_after (Stopped e) ds rs f h = again e h
  where
    again : (g : GrammarError) → ◌≡◌ {A = Result Certified GrammarError} (Err g) (Err f) → ◌≡◌ {A = Result Certified GrammarError} (Err g) (Err f)
    again g e = e
fault_after (Going (in_row l ns s) line) ds rs f h = by_end (policy_ended s) h
  where
    by_end : (o : Option Tree) → certified_end_at line (certificate_ends [] [] ns l o) ≡ Err f
        → certified_end_at line (certificate_ends ds rs ns l o) ≡ Err f
    by_end None e = e
    by_end (Some q) e = absurd cc
fault_after p ds rs f h = h

-- the last row, or the fault
returns_following : (p : CertifiedProgress) (ds : List Declaration) (rs : List Row) (r : Result CertRow GrammarError)
    → ParseReturns (λ x. certified [] (row_value x ∷ [])) r (certified_so_far p [] [])
    → ParseReturns (λ x. certified ds (rs ++ row_value x ∷ [])) r (certified_so_far p ds rs)
returns_following p ds rs (Ok x) h = end_after p ds rs (row_value x) h
returns_following p ds rs (Err error.NoMemory) h = tt
returns_following p ds rs (Err (error.Unexpected at)) h = fault_after p ds rs (error.Unexpected at) h
returns_following p ds rs (Err (error.TooDeep at)) h = fault_after p ds rs (error.TooDeep at) h

-- ---- the whole

-- the machine's state by what it says
abbrev pub IsTidy : Certifying → Type 0
IsTidy c = with_done (bare c.phase) (done_declarations c.phase c.declarations) c.rows ≡ c

abbrev pub AreTidy : Option Certifying → Type 0
AreTidy None = ⊤
AreTidy (Some c) = IsTidy c

line_tidy : (o : Option ℕ) (f : ℕ → Certifying) → ((l : ℕ) → IsTidy (f l)) → AreTidy (in_line o None (λ l. Some (f l)))
line_tidy None f h = tt
line_tidy (Some l) f h = h l

number_tidy : (o : Option Number) (f : Number → Certifying) → ((n : Number) → IsTidy (f n)) → AreTidy (in_option o None (λ n. Some (f n)))
number_tidy None f h = tt
number_tidy (Some n) f h = h n

test_tidy : (b : Bool) (x y : Option Certifying) → AreTidy x → AreTidy y → AreTidy (if b then x else y)
test_tidy true x y h i = h
test_tidy false x y h i = i

row_tidy : (ds : List Declaration) (rs : List Row) (ns : List ℕ) (line : ℕ) (o : Option State) (e : Option Tree) (t : Terminal)
    → AreTidy (row_on ds rs ns line o e t)
row_tidy ds rs ns line (Some s) e t = refl
row_tidy ds rs ns line None None t = tt
row_tidy ds rs ns line None (Some p) t =
    line_tidy (row_in t) (λ l. certifying (number_wanted l) ds (rs ++ row ns p line ∷ [])) (λ l. refl)

begins_tidy : (rs : List Row) (o : Option (List Declaration)) → AreTidy (certificate_begins rs o)
begins_tidy rs None = tt
begins_tidy rs (Some ds) = refl

still_tidy : (rs : List Row) (o : Option Reading) → AreTidy (still_declaring rs o)
still_tidy rs None = tt
still_tidy rs (Some r) = refl

pub tidy : (p : CertifiedPhase) (ds : List Declaration) (rs : List Row) (t : Terminal) → AreTidy (certify_one (with_done p ds rs) t)
tidy (declaring r) ds rs t =
    test_tidy (is_certificate t) (certificate_begins rs (text_ended r.phase ds)) (still_declaring rs (next_reading r.phase ds t))
    (begins_tidy rs (text_ended r.phase ds)) (still_tidy rs (next_reading r.phase ds t))
tidy row_wanted ds rs t = line_tidy (row_in t) (λ l. certifying (start_wanted l) ds rs) (λ l. refl)
tidy (start_wanted line) ds rs t = test_tidy (is_start_word t) (Some (certifying (start_read line) ds rs)) None refl tt
tidy (start_read line) ds rs t = test_tidy (is_colon_terminal t) (Some (certifying (in_row line [] first_state) ds rs)) None refl tt
tidy (number_wanted line) ds rs t = number_tidy (number_in t) (λ n. certifying (numbers_read line (n.value ∷ [])) ds rs) (λ n. refl)
tidy (numbers_read line ns) ds rs t =
    test_tidy (is_colon_terminal t) (Some (certifying (in_row line ns first_state) ds rs))
    (in_option (number_in t) None (λ m. Some (certifying (numbers_read line (ns ++ m.value ∷ [])) ds rs))) refl
    (number_tidy (number_in t) (λ m. certifying (numbers_read line (ns ++ m.value ∷ [])) ds rs) (λ m. refl))
tidy (in_row line ns s) ds rs t = row_tidy ds rs ns line (step s t) (policy_ended s) t

-- what is known at the end
abbrev end_of : ParsedPrefix → Result Certified GrammarError
end_of s = certified_so_far s.progress s.declarations s.rows

stays : (ts : List Token) (e : GrammarError) (ds : List Declaration) (rs : List Row)
    → end_of (fold prefix_after (parsed_prefix (Stopped e) ds rs) ts) ≡ Err e
stays [] e ds rs = refl
stays (t ∷ ts) e ds rs = stays ts e ds rs

rest_is : (ts : List Token) (p : CertifiedPhase) (line : ℕ) (ds : List Declaration) (rs : List Row)
    → end_of (fold prefix_after (parsed_prefix (Going p line) ds rs) ts) ≡ rest_of_certified ts (with_done p ds rs) line
rest_is [] p line ds rs = refl
rest_is (t ∷ ts) p line ds rs = by_step (certify_one (with_done p ds rs) (terminal_of t)) (tidy p ds rs (terminal_of t)) (λ q l es qs. rest_is ts q l es qs)
  where
    by_step : (o : Option Certifying) → AreTidy o
        → ((q : CertifiedPhase) (l : ℕ) (es : List Declaration) (qs : List Row)
        → end_of (fold prefix_after (parsed_prefix (Going q l) es qs) ts) ≡ rest_of_certified ts (with_done q es qs) l)
        → end_of (fold prefix_after (prefix_judged (judged_certified t.line o) (parsed_prefix (Going p line) ds rs) t.line) ts)
        ≡ and_then (judged_certified t.line o) (λ c. rest_of_certified ts c t.line)
    by_step None h ih = stays ts (error.Unexpected t.line) ds rs
    by_step (Some c) h ih = by_count (nat_le (open_certified c) 256)
      where
        by_count : (b : Bool)
            → end_of (fold prefix_after (prefix_judged (if b then Ok c else Err (error.TooDeep t.line)) (parsed_prefix (Going p line) ds rs) t.line) ts)
            ≡ and_then (if b then Ok c else Err (error.TooDeep t.line)) (λ c. rest_of_certified ts c t.line)
        by_count true =
            ih (bare c.phase) t.line (done_declarations c.phase c.declarations) c.rows ∙ ap (λ x. rest_of_certified ts x t.line) h
        by_count false = stays ts (error.TooDeep t.line) ds rs

-- read token by token, a text with a certificate is what it is as a whole
pub reads_as_whole : ReadsCertifiedAsWhole
reads_as_whole ts ds rs p h = sym (ap end_of h) ∙ rest_is ts (declaring_first) 1 [] []
  where
    declaring_first : CertifiedPhase
    declaring_first = first_certifying.phase

-- the end of a reader
pub ends_as_whole : (ts : List Token) (ds : List Declaration) (rs : List Row) (p : CertifiedProgress) (r : Result CertRow GrammarError) → IsRead ts ds rs p
    → ParseReturns (λ x. certified [] (row_value x ∷ [])) r (certified_so_far p [] [])
    → ParseReturns (λ x. certified ds (rs ++ row_value x ∷ [])) r (certified_of ts)
ends_as_whole ts ds rs p r h e =
    subst (ParseReturns (λ x. certified ds (rs ++ row_value x ∷ [])) r) (reads_as_whole ts ds rs p h) (returns_following p ds rs r e)
