-- Reading a program's text token by token: what is known, and what is done.
use Rattle.std.proofs.Common.{◌≡◌, ℕ, List, [], ◌∷◌, ◌++◌, true, false, refl, ap, sym, subst, ◌∙◌, append-nil, append_assoc, Option}
use Rattle.std.specs.Prelude.{None, Some, Ok, Err, All, ◌≤◌, IfOk, option_map}
use Rattle.std.specs.declared.result.Result.{Result}
use Rattle.nk_lex.specs.declared.token.Token.{Token}
use Rattle.nk_lex.specs.Faults.{and_then}
use Rattle.nk_lex.specs.Lex.{largest}
use Rattle.nk_grammar.specs.declared.decl.Decl.{Decl}
use Rattle.nk_grammar.specs.declared.decl.GrammarError.{GrammarError}
use Rattle.nk_grammar.specs.declared.decl.GrammarError.TheVariants as error
use Rattle.nk_grammar.specs.declared.text_parser.KnownText.{KnownText}
use Rattle.nk_grammar.specs.declared.text_parser.KnownText.TheVariants as known
use Rattle.nk_grammar.specs.Terminal.{terminal_of}
use Rattle.nk_grammar.specs.File.{Declaration, IsWritten}
use Rattle.nk_grammar.specs.FileMachine.{ParseReturns, rest_of_file, ended_at, text_ended, file_of}
use Rattle.nk_grammar.specs.FileReader.{declaration_done, phase_in}
use Rattle.nk_grammar.specs.TextProgress.{TextProgress, Going, Stopped, rest_by, IsTextRead, IsTextStopped}
use Rattle.nk_grammar.specs.TextParser.{TakesTextOn, TakesToken, TakesTokenInside, progress_in}
use Rattle.nk_grammar.proofs.After.{ended_after, judged_after, refused_after}
use Rattle.nk_grammar.proofs.Written.{written_of}

-- ---- what a reader takes

-- a token is taken
pub takes_on : (k j : KnownText) (t : Token) (o : Option Decl) (line : ℕ) → TakesToken k j t (Ok o)
    → TakesTextOn (progress_in k line) t (progress_in j t.line) (declaration_done o)
takes_on (known.Sound r) (known.Sound s) t o line h ds us =
    sym (ap (λ x. and_then x (λ x. rest_of_file us x t.line)) (judged_after ds t.line (phase_in r) (phase_in s) (declaration_done o) (terminal_of t) h.0))
takes_on (known.Sound r) (known.Stopped e) t o line h ds us = absurd h
takes_on (known.Stopped e) j t o line h ds us = ap (λ x. rest_by (progress_in x t.line) (ds ++ declaration_done o) us) h.0

-- a token is taken inside a policy
pub takes_inside : (k j : KnownText) (t : Token) (line : ℕ) → TakesTokenInside k j t (Ok true)
    → TakesTextOn (progress_in k line) t (progress_in j t.line) []
takes_inside k j t line h = takes_on k j t None line h

-- a token has a fault
pub takes_fault : (k j : KnownText) (t : Token) (e : GrammarError) (line : ℕ) → (e ≡ error.NoMemory → ⊥) → TakesToken k j t (Err e)
    → TakesTextOn (progress_in k line) t (Stopped e) []
takes_fault (known.Sound r) (known.Sound s) t error.NoMemory line n h ds us = absurd (n refl)
takes_fault (known.Sound r) (known.Sound s) t (error.Unexpected at) line n h ds us =
    sym (ap (λ x. and_then x (λ x. rest_of_file us x t.line)) (refused_after ds t.line (phase_in r) (error.Unexpected at) (terminal_of t) h.0))
takes_fault (known.Sound r) (known.Sound s) t (error.TooDeep at) line n h ds us =
    sym (ap (λ x. and_then x (λ x. rest_of_file us x t.line)) (refused_after ds t.line (phase_in r) (error.TooDeep at) (terminal_of t) h.0))
takes_fault (known.Sound r) (known.Stopped f) t e line n h ds us = absurd h
takes_fault (known.Stopped f) j t e line n h ds us = absurd (differ h.1)
  where
    differ : ◌≡◌ {A = Result (Option Decl) GrammarError} (Err e) (Ok None) → ⊥
    differ i = cc

-- after a fault nothing is taken
pub takes_nothing : (k j : KnownText) (t : Token) (r : Result (Option Decl) GrammarError) (line at : ℕ) → IsTextStopped (progress_in k line)
    → TakesToken k j t r → (r ≡ Ok None) × (progress_in j at ≡ progress_in k line)
takes_nothing (known.Sound r) j t x line at i h = absurd (differ i)
  where
    differ : false ≡ true → ⊥
    differ i = cc
takes_nothing (known.Stopped e) j t r line at i h = (h.1, ap (λ x. progress_in x at) h.0)

-- and there is no further one
pub no_fault_after : (k j : KnownText) (t : Token) (e : GrammarError) (line : ℕ) → IsTextStopped (progress_in k line) → TakesToken k j t (Err e) → ⊥
no_fault_after k j t e line i h = differ (takes_nothing k j t (Err e) line line i h).0
  where
    differ : ◌≡◌ {A = Result (Option Decl) GrammarError} (Err e) (Ok None) → ⊥
    differ i = cc

-- where a reader has stopped after a token that it took, the token completed nothing
pub stops_empty : (k j : KnownText) (t : Token) (o : Option Decl) (line : ℕ) → TakesToken k j t (Ok o) → IsTextStopped (progress_in j line) → o ≡ None
stops_empty (known.Sound r) (known.Sound s) t o line h i = absurd (differ i)
  where
    differ : false ≡ true → ⊥
    differ i = cc
stops_empty (known.Sound r) (known.Stopped e) t o line h i = absurd h
stops_empty (known.Stopped e) j t o line h i = same h.1
  where
    same : ◌≡◌ {A = Result (Option Decl) GrammarError} (Ok o) (Ok None) → o ≡ None
    same e = cc

-- without memory nothing changes
pub takes_no_memory : (k j : KnownText) (t : Token) (line : ℕ) → TakesToken k j t (Err error.NoMemory) → progress_in j line ≡ progress_in k line
takes_no_memory (known.Sound r) (known.Sound s) t line h = ap (λ x. Going x line) h.1
takes_no_memory (known.Sound r) (known.Stopped e) t line h = absurd h
takes_no_memory (known.Stopped e) j t line h = ap (λ x. progress_in x line) h.0

-- ---- the tokens so far

-- a further token is read
pub one_more_read : (ts : List Token) (ds es : List Declaration) (p q : TextProgress) (t : Token) → TakesTextOn p t q es → IsTextRead ts ds p
    → IsTextRead (ts ++ t ∷ []) (ds ++ es) q
one_more_read ts ds es p q t g h us = g ds us ∙ h (t ∷ us) ∙ ap file_of (sym (append_assoc ts (t ∷ []) us))

-- what holds of a value that is there
pub on_each : {T E : Type 0} {P Q : T → Type 0} (r : Result T E) → ((x : T) → P x → Q x) → IfOk r P → IfOk r Q
on_each (Ok x) f h = f x h
on_each (Err e) f h = tt

-- ---- the end

-- what is left at the end, after further declarations
ends_after : (p : TextProgress) (ds es : List Declaration) → rest_by p [] [] ≡ Ok es → rest_by p ds [] ≡ Ok (ds ++ es)
ends_after (Stopped e) ds es h = absurd cc
ends_after (Going p line) ds es h =
    ap (λ l. ended_at line (text_ended p l)) (sym (append-nil ds)) ∙ ap (ended_at line) (ended_after ds [] p)
    ∙ by_end (text_ended p []) h
  where
    same : (l : List Declaration) → ◌≡◌ {A = Result (List Declaration) GrammarError} (Ok l) (Ok es) → l ≡ es
    same l e = cc

    refused : {X : Type 0} → ◌≡◌ {A = Result (List Declaration) GrammarError} (Err (error.Unexpected line)) (Ok es) → X
    refused e = absurd cc

    by_end : (o : Option (List Declaration)) → ended_at line o ≡ Ok es → ended_at line (option_map (λ l. ds ++ l) o) ≡ Ok (ds ++ es)
    by_end None e = refused e
    by_end (Some l) e = ap (λ x. Ok (ds ++ x)) (same l e)

-- so is a fault there
fault_after : (p : TextProgress) (ds : List Declaration) (f : GrammarError) → rest_by p [] [] ≡ Err f → rest_by p ds [] ≡ Err f
fault_after (Stopped e) ds f h = again e h
  where
    again : (g : GrammarError) → ◌≡◌ {A = Result (List Declaration) GrammarError} (Err g) (Err f) → ◌≡◌ {A = Result (List Declaration) GrammarError} (Err g) (Err f)
    again g e = e
fault_after (Going p line) ds f h =
    ap (λ l. ended_at line (text_ended p l)) (sym (append-nil ds)) ∙ ap (ended_at line) (ended_after ds [] p)
    ∙ by_end (text_ended p []) h
  where
    by_end : (o : Option (List Declaration)) → ended_at line o ≡ Err f → ended_at line (option_map (λ l. ds ++ l) o) ≡ Err f
    by_end None e = e
    by_end (Some l) e = absurd cc

returns_following : (p : TextProgress) (ds : List Declaration) (r : Result (Option Decl) GrammarError) → ParseReturns declaration_done r (rest_by p [] [])
    → ParseReturns (λ o. ds ++ declaration_done o) r (rest_by p ds [])
returns_following p ds (Ok o) h = ends_after p ds (declaration_done o) h
returns_following p ds (Err error.NoMemory) h = tt
returns_following p ds (Err (error.Unexpected at)) h = fault_after p ds (error.Unexpected at) h
returns_following p ds (Err (error.TooDeep at)) h = fault_after p ds (error.TooDeep at) h

-- the end of a reader
pub ends_as_whole : (ts : List Token) (ds : List Declaration) (p : TextProgress) (r : Result (Option Decl) GrammarError) → IsTextRead ts ds p
    → ParseReturns declaration_done r (rest_by p [] []) → ParseReturns (λ o. ds ++ declaration_done o) r (file_of ts)
ends_as_whole ts ds p r h e =
    subst (ParseReturns (λ o. ds ++ declaration_done o) r) (h [] ∙ ap file_of (append-nil ts)) (returns_following p ds r e)

-- what is read there has numbers of a text
pub written_at_end : (ts : List Token) (ds : List Declaration) (r : Result (Option Decl) GrammarError)
    → ParseReturns (λ o. ds ++ declaration_done o) r (file_of ts) → All (λ t. t.value ≤ largest) ts
    → IfOk r (λ o. All IsWritten (ds ++ declaration_done o))
written_at_end ts ds (Ok o) h v = written_of ts (ds ++ declaration_done o) h v
written_at_end ts ds (Err e) h v = tt
