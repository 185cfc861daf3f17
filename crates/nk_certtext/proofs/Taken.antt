-- Of the tokens so far, what they completed says and makes what is known.
use Rattle.std.proofs.Common.{◌≡◌, ◌⊎◌, ℕ, Option, Some, None, Ok, Err, inl, inr, List, [], ◌∷◌, ◌++◌, length, refl, sym, ap, subst, ◌∙◌, arith, length-append}
use Rattle.std.specs.declared.result.Result.{Result}
use Rattle.std.specs.Prelude.{IfErr, IfOk, IsOk, OnOk}
use Rattle.std.proofs.lemmas.List.{append-nil}
use Rattle.nk_lex.specs.declared.token.Token.{Token}
use Rattle.nk_grammar.specs.declared.decl.Completed.{Completed}
use Rattle.nk_grammar.specs.declared.decl.Completed.TheVariants as completed
use Rattle.nk_grammar.specs.declared.decl.GrammarError.{GrammarError}
use Rattle.nk_grammar.specs.declared.decl.GrammarError.TheVariants as grammar
use Rattle.nk_grammar.specs.Tree.{Tree}
use Rattle.nk_grammar.specs.File.{declaration_of}
use Rattle.nk_grammar.specs.declared.decl.CertRow.{CertRow}
use Rattle.nk_grammar.specs.FileMachine.{ParseFails, ParseReturns}
use Rattle.nk_grammar.specs.Certified.{Certified, certified, Row, row, row_value}
use Rattle.nk_grammar.specs.CertifiedMachine.{certified_of}
use Rattle.nk_grammar.specs.CertifiedProgress.{IsRead, declarations_by, rows_by}
use Rattle.nk_names.specs.declared.fault.NamesError.{NamesError}
use Rattle.nk_names.specs.Declaring.{program_on}
use Rattle.nk_names.specs.declared.Program.{Program}
use Rattle.nk_names.specs.ProgramOf.{DeclaredProgram, empty_program, program_of, program_by}
use Rattle.nk_names.proofs.Going.{program_one_more}
use Rattle.nk_cert.specs.declared.certificate.Certificate.{Certificate}
use Rattle.nk_cert.specs.Certificates.{CertificateValue}
use Rattle.nk_cert.specs.Values.{certificate_value}
use Rattle.nk_cert.specs.Verdicts.{HasPredicates}
use Rattle.nk_certtext.specs.declared.error.CertError.{CertError}
use Rattle.nk_certtext.specs.declared.error.TextError.{TextError}
use Rattle.nk_certtext.specs.declared.error.TextError.TheVariants as error
use Rattle.nk_certtext.specs.Progress.{PartsValue, CertProgress, IsTaken, IsTakenOn, IsStepped, made_by, predicate_over, text_at_end, text_by, with_completed, with_row_part}
use Rattle.nk_certtext.specs.Rows.{certificate_of, with_next_row}
use Rattle.nk_certtext.specs.Whole.{IsTextFault, ReturnsText, grammar_fault, text_of_tokens, text_of_program, text_of_written, with_certificate}
use Rattle.nk_certtext.proofs.DeclaredFirst.{declared_first}
use Rattle.nk_certtext.proofs.Predicates.{of_certificate}
use Rattle.nk_certtext.proofs.RowsRead.{made_all, made_more}

-- no row makes nothing
made_none : (s : Result DeclaredProgram NamesError) → made_by s [] ≡ None
made_none (Ok s) = refl
made_none (Err e) = refl

-- one more row
made_by_more : (s : Result DeclaredProgram NamesError) (rs : List Row) (ns : List ℕ) (t : Tree) (line : ℕ)
    → made_by s (rs ++ row ns t line ∷ []) ≡ with_next_row (made_by s rs) ns line (predicate_over s t line)
made_by_more (Ok s) rs ns t line = made_more s.fields rs ns t line
made_by_more (Err e) [] ns t line = refl
made_by_more (Err e) (r ∷ rs) ns t line = refl

-- so what rows make over what is declared is made row by row
row_part : (p : PartsValue) (rs : List Row) (r : Row) → p.rows ≡ made_by p.said rs
    → ((with_row_part p r).said ≡ p.said) × ((with_row_part p r).rows ≡ made_by p.said (rs ++ r ∷ []))
row_part p rs (row ns t line) h =
    (refl, ap (λ x. with_next_row x ns line (predicate_over p.said t line)) h ∙ sym (made_by_more p.said rs ns t line))

-- a list isn't one with more
not_more : {A : Type 0} (xs : List A) (x : A) → xs ++ x ∷ [] ≡ xs → ⊥
not_more xs x e = absurd (omega (arith, ap length e, length-append xs (x ∷ [])))

-- one more token
pub taken_more : (ts : List Token) (old new : CertProgress) (t : Token) (h : IsTaken ts old)
    → IsStepped ts h.declarations h.rows old t new → IsTaken (ts ++ t ∷ []) new
taken_more ts old new t h step = by step.part step.read step.parts
  where
    by : (o : Option Completed) → IsRead (ts ++ t ∷ []) (h.declarations ++ declarations_by o) (h.rows ++ rows_by o) new.grammar
        → new.parts ≡ with_completed old.parts o → IsTaken (ts ++ t ∷ []) new
    by None read is = record {
      declarations = h.declarations ++ [];
      rows = h.rows ++ [];
      read = read;
      says = ap (λ (p : PartsValue). p.said) is ∙ h.says ∙ ap program_of (sym (append-nil h.declarations));
      makes = subst (λ (p : PartsValue). p.rows ≡ made_by p.said (h.rows ++ [])) (sym is)
          (h.makes ∙ ap (made_by old.parts.said) (sym (append-nil h.rows)));
    }
    by (Some (completed.Declaration d)) read is = record {
      declarations = h.declarations ++ declaration_of d ∷ [];
      rows = h.rows ++ [];
      read = read;
      says = ap (λ (p : PartsValue). p.said) is ∙ ap (λ s. program_on s (declaration_of d)) h.says
          ∙ sym (program_one_more h.declarations (declaration_of d) empty_program);
      makes = subst (λ (p : PartsValue). p.rows ≡ made_by p.said (h.rows ++ [])) (sym is)
          (none (declared_first ts t h.declarations (h.declarations ++ declaration_of d ∷ []) h.rows (h.rows ++ []) old.grammar new.grammar h.read read));
    }
      where
        none : (h.rows ≡ []) ⊎ (h.declarations ++ declaration_of d ∷ [] ≡ h.declarations)
            → old.parts.rows ≡ made_by (program_on old.parts.said (declaration_of d)) (h.rows ++ [])
        none (inl e) =
            h.makes ∙ ap (made_by old.parts.said) e ∙ made_none old.parts.said
            ∙ sym (ap (made_by (program_on old.parts.said (declaration_of d))) (append-nil h.rows ∙ e) ∙ made_none (program_on old.parts.said (declaration_of d)))
        none (inr e) = absurd (not_more h.declarations (declaration_of d) e)
    by (Some (completed.Row r)) read is =
        let part = row_part old.parts h.rows (row_value r) h.makes in
        record {
          declarations = h.declarations ++ [];
          rows = h.rows ++ row_value r ∷ [];
          read = read;
          says = ap (λ (p : PartsValue). p.said) is ∙ part.0 ∙ h.says ∙ ap program_of (sym (append-nil h.declarations));
          makes = subst (λ (p : PartsValue). p.rows ≡ made_by p.said (h.rows ++ row_value r ∷ [])) (sym is) (part.1 ∙ ap (λ s. made_by s (h.rows ++ row_value r ∷ [])) (sym part.0));
        }

-- so, unless memory ran out
pub taken_on : {X E : Type 0} (ts : List Token) (old new : CertProgress) (t : Token) (r : Result X E) (h : IsTaken ts old)
    → OnOk r (IsTakenOn ts h.declarations h.rows old t new) → OnOk r (IsTaken (ts ++ t ∷ []) new)
taken_on ts old new t (Ok x) h k = taken_more ts old new t h (k h.read)
taken_on ts old new t (Err e) h k = tt

-- ---- at the end

-- a fault of the grammar is the text's
pub grammar_refused : (ts : List Token) (e : GrammarError) → ParseFails e (certified_of ts) → IsTextFault (grammar_fault e) (text_of_tokens ts)
grammar_refused ts grammar.NoMemory h = tt
grammar_refused ts (grammar.Unexpected line) h = ap text_of_written h
grammar_refused ts (grammar.TooDeep line) h = ap text_of_written h

said_whole : (s : Result DeclaredProgram NamesError) (rs : List Row) → text_by s (made_by s rs) ≡ text_of_program s rs
said_whole (Ok s) rs = ap (with_certificate s) (made_all s.fields rs)
said_whole (Err e) rs = refl

-- with the last row the text is whole
pub text_whole : (ts : List Token) (p : CertProgress) (h : IsTaken ts p) (r : Row)
    → certified_of ts ≡ Ok (certified h.declarations (h.rows ++ r ∷ [])) → text_at_end (with_row_part p.parts r) ≡ text_of_tokens ts
text_whole ts p h r read =
    let part = row_part p.parts h.rows r h.makes in
    ap (λ s. text_by s (with_row_part p.parts r).rows) part.0
    ∙ ap (text_by p.parts.said) part.1
    ∙ said_whole p.parts.said (h.rows ++ r ∷ [])
    ∙ ap (λ s. text_of_program s (h.rows ++ r ∷ [])) h.says
    ∙ sym (ap text_of_written read)

-- what is known of the last row, and of putting it in
module _ (ts : List Token) (p : CertProgress) (h : IsTaken ts p) (last : Result CertRow GrammarError) (r : Result (Unit {0}) TextError)
    (new : PartsValue) (read : ParseReturns (λ row. certified h.declarations (h.rows ++ row_value row ∷ [])) last (certified_of ts))
    (refused : IfErr last (λ fault. r ≡ Err (grammar_fault fault)))
    (put : IfOk last (λ row. OnOk r (new ≡ with_row_part p.parts (row_value row)))) where
  -- with it the declarations are those of the tokens
  pub declared_at_end : IsOk r → new.said ≡ program_of h.declarations
  declared_at_end is = by last r refused put is
    where
      by : (l : Result CertRow GrammarError) (x : Result (Unit {0}) TextError) → IfErr l (λ fault. x ≡ Err (grammar_fault fault))
          → IfOk l (λ row. OnOk x (new ≡ with_row_part p.parts (row_value row))) → IsOk x → new.said ≡ program_of h.declarations
      by (Ok q) (Ok u) none e is =
          ap (λ (v : PartsValue). v.said) e ∙ (row_part p.parts h.rows (row_value q) h.makes).0 ∙ h.says
      by (Ok q) (Err f) none e is = absurd cc
      by (Err g) (Ok u) none e is = absurd cc
      by (Err g) (Err f) none e is = absurd cc

  -- and the text is whole
  pub whole_at_end : IsOk r → text_at_end new ≡ text_of_tokens ts
  whole_at_end is = by last r read refused put is
    where
      by : (l : Result CertRow GrammarError) (x : Result (Unit {0}) TextError)
          → ParseReturns (λ row. certified h.declarations (h.rows ++ row_value row ∷ [])) l (certified_of ts)
          → IfErr l (λ fault. x ≡ Err (grammar_fault fault))
          → IfOk l (λ row. OnOk x (new ≡ with_row_part p.parts (row_value row))) → IsOk x → text_at_end new ≡ text_of_tokens ts
      by (Ok q) (Ok u) f none e is = ap text_at_end e ∙ text_whole ts p h (row_value q) f
      by (Ok q) (Err g) f none e is = absurd cc
      by (Err g) (Ok u) f none e is = absurd cc
      by (Err g) (Err k) f none e is = absurd cc

  -- or the fault is the text's
  pub refused_at_end : IfOk last (λ row. IfErr r (λ e. e ≡ error.NoMemory)) → (e : TextError) → r ≡ Err e → IsTextFault e (text_of_tokens ts)
  refused_at_end memory e is = by last r read refused memory is
    where
      fault_is : (a b : TextError) → ◌≡◌ {A = Result (Unit {0}) TextError} (Err a) (Err b) → a ≡ b
      fault_is a b k = cc

      by : (l : Result CertRow GrammarError) (x : Result (Unit {0}) TextError)
          → ParseReturns (λ row. certified h.declarations (h.rows ++ row_value row ∷ [])) l (certified_of ts)
          → IfErr l (λ fault. x ≡ Err (grammar_fault fault))
          → IfOk l (λ row. IfErr x (λ f. f ≡ error.NoMemory)) → x ≡ Err e → IsTextFault e (text_of_tokens ts)
      by (Ok q) (Ok u) f none m is = absurd cc
      by (Ok q) (Err g) f none m is = subst (λ k. IsTextFault k (text_of_tokens ts)) (sym m ∙ fault_is g e is) tt
      by (Err g) x f none m is = subst (λ k. IsTextFault k (text_of_tokens ts)) (fault_is (grammar_fault g) e (sym none ∙ is)) (grammar_refused ts g f)

-- a certificate that is read has predicates
pub text_predicates : (ts : List Token) (s : DeclaredProgram) (c : CertificateValue) → text_of_tokens ts ≡ Ok (s, c) → HasPredicates c
text_predicates ts s c e = by (certified_of ts) e
  where
    certificate_in : Result (DeclaredProgram × CertificateValue) TextError → CertificateValue
    certificate_in (Ok x) = x.1
    certificate_in (Err f) = c

    made : (u : DeclaredProgram) (rs : List Row) (x : Result CertificateValue CertError) → certificate_of u.fields rs ≡ x
        → with_certificate u x ≡ Ok (s, c) → HasPredicates c
    made u rs (Ok d) is k = subst HasPredicates (ap certificate_in k) (of_certificate u.fields rs d is)
    made u rs (Err f) is k = absurd cc

    said : (x : Result DeclaredProgram NamesError) (rs : List Row) → text_of_program x rs ≡ Ok (s, c) → HasPredicates c
    said (Ok u) rs k = made u rs (certificate_of u.fields rs) refl k
    said (Err f) rs k = absurd cc

    by : (x : Result Certified GrammarError) → text_of_written x ≡ Ok (s, c) → HasPredicates c
    by (Ok w) k = said (program_of w.declarations) w.rows k
    by (Err g) k = absurd cc

pub returned_predicates : (ts : List Token) (r : Result (Program × Certificate) TextError)
    → ReturnsText (λ x. (program_by x.0, certificate_value x.1)) r (text_of_tokens ts) → IfOk r (λ x. HasPredicates (certificate_value x.1))
returned_predicates ts (Ok x) h = text_predicates ts (program_by x.0) (certificate_value x.1) h
returned_predicates ts (Err e) h = tt
