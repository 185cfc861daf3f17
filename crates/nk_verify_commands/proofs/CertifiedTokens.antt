-- What is answered to the tokens of a text with a certificate, and to its bytes, by what reading it token by token comes to.
use Rattle.std.proofs.Common.{◌≡◌, ℕ, List, refl, sym, ap, subst, ◌∙◌}
use Rattle.std.specs.declared.result.Result.{Result}
use Rattle.std.specs.Prelude.{Ok, Err, IfOk}
use Rattle.nk_lex.specs.declared.token.Token.{Token}
use Rattle.nk_lex.specs.declared.token.LexError.{LexError}
use Rattle.nk_lex.specs.Lex.{tokens_of}
use Rattle.nk_grammar.specs.declared.decl.GrammarError.{GrammarError}
use Rattle.nk_grammar.specs.Certified.{Certified}
use Rattle.nk_grammar.specs.CertifiedMachine.{certified_of}
use Rattle.nk_names.specs.declared.fault.NamesError.{NamesError}
use Rattle.nk_names.specs.ProgramOf.{DeclaredProgram, program_of}
use Rattle.nk_cert.specs.Certificates.{CertificateValue}
use Rattle.nk_certtext.specs.declared.error.CertError.{CertError}
use Rattle.nk_certtext.specs.declared.error.TextError.{TextError}
use Rattle.nk_certtext.specs.Rows.{certificate_of}
use Rattle.nk_certtext.specs.Whole.{grammar_fault, names_fault, rows_fault, text_of_tokens, text_of_program, text_of_written, with_certificate}
use Rattle.nk_verify_commands.specs.CertifiedText.{HoldTokens, IsFaultOfCertifiedBytes, TellsNoFault, TellingCertified, ToCertified, ToCertifiedTokens}
use Rattle.nk_input.specs.ProgramText.{TellsLexical}
use Rattle.nk_reply.specs.Outcome.{Outcome, done, differs, text_refused, policy_refused}

no_fault : {X : Type 0} (x : X) (e : TextError) → ◌≡◌ {A = Result X TextError} (Ok x) (Err e) → ⊥
no_fault x e h = cc

-- ---- a program and a certificate

module _ (tokens : List Token) (said : DeclaredProgram) (c : CertificateValue) where
  abbrev pair_in : Result (DeclaredProgram × CertificateValue) TextError → DeclaredProgram × CertificateValue
  pair_in (Ok p) = p
  pair_in (Err e) = (said, c)

  not_refused : (e : TextError) → ◌≡◌ {A = Result (DeclaredProgram × CertificateValue) TextError} (Err e) (Ok (said, c)) → ⊥
  not_refused e h = no_fault (said, c) e (sym h)

  with_rows : (w : Certified) → certified_of tokens ≡ Ok w → (s : DeclaredProgram) → program_of w.declarations ≡ Ok s
      → (x : Result CertificateValue CertError) → certificate_of s.fields w.rows ≡ x → with_certificate s x ≡ Ok (said, c) → HoldTokens tokens said c
  with_rows w read s means (Ok d) makes h =
      let both = ap pair_in h in
      let same : s ≡ said = ap (λ (p : DeclaredProgram × CertificateValue). p.0) both in
      record {
        written = w;
        read = read;
        means = means ∙ ap Ok same;
        makes = ap (λ (z : DeclaredProgram). certificate_of z.fields w.rows) (sym same) ∙ makes ∙ ap Ok (ap (λ (p : DeclaredProgram × CertificateValue). p.1) both);
      }
  with_rows w read s means (Err f) makes h = absurd (not_refused (rows_fault f) h)

  with_said : (w : Certified) → certified_of tokens ≡ Ok w → (x : Result DeclaredProgram NamesError) → program_of w.declarations ≡ x
      → text_of_program x w.rows ≡ Ok (said, c) → HoldTokens tokens said c
  with_said w read (Ok s) means h = with_rows w read s means (certificate_of s.fields w.rows) refl h
  with_said w read (Err n) means h = absurd (not_refused (names_fault n) h)

  with_written : (x : Result Certified GrammarError) → certified_of tokens ≡ x → text_of_written x ≡ Ok (said, c) → HoldTokens tokens said c
  with_written (Ok w) read h = with_said w read (program_of w.declarations) refl h
  with_written (Err g) read h = absurd (not_refused (grammar_fault g) h)

  -- the tokens hold what was read
  held : text_of_tokens tokens ≡ Ok (said, c) → HoldTokens tokens said c
  held h = with_written (certified_of tokens) refl h

  -- so what is told of it is answered
  told_of : (tells : TellingCertified) (o : Outcome) → HoldTokens tokens said c → TellsNoFault (tells said c) o → ToCertifiedTokens tells tokens o
  told_of tells (done text) h told = (said, c, h, told)
  told_of tells (differs text) h told = (said, c, h, told)
  told_of tells (policy_refused text) h told = (said, c, h, told)
  told_of tells (text_refused text) h told = absurd told

  pub all_told : {S E : Type 0} (outcome : S → Outcome) (tells : TellingCertified) (r : Result S E) → text_of_tokens tokens ≡ Ok (said, c)
      → IfOk r (λ s. TellsNoFault (tells said c) (outcome s)) → IfOk r (λ s. ToCertifiedTokens tells tokens (outcome s))
  all_told outcome tells (Ok s) h told = told_of tells (outcome s) (held h) told
  all_told outcome tells (Err e) h told = tt

-- ---- bytes

-- a lexical fault is answered
pub lexical_told : {S E : Type 0} (outcome : S → Outcome) (tells : TellingCertified) (bytes : List ℕ) (e : LexError) (text : List ℕ) (r : Result S E)
    → tokens_of bytes ≡ Err e → TellsLexical e text → IfOk r (λ s. outcome s ≡ text_refused text)
    → IfOk r (λ s. ToCertified tells bytes (outcome s))
lexical_told outcome tells bytes e text (Ok s) cut told is =
    subst (ToCertified tells bytes) (sym is) (subst (λ x. IsFaultOfCertifiedBytes x text) (sym cut) told)
lexical_told outcome tells bytes e text (Err f) cut told is = tt
