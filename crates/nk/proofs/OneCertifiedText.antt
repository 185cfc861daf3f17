-- What the bytes of a text with a certificate say is one, and a text that says something has no fault.
use Rattle.std.proofs.Common.{◌≡◌, ℕ, List, sym, ap, subst, ◌∙◌}
use Rattle.std.specs.Prelude.{Ok, Err}
use Rattle.std.specs.declared.result.Result.{Result}
use Rattle.nk_lex.specs.declared.token.Token.{Token}
use Rattle.nk_lex.specs.declared.token.LexError.{LexError}
use Rattle.nk_lex.specs.Lex.{tokens_of}
use Rattle.nk_grammar.specs.declared.decl.GrammarError.{GrammarError}
use Rattle.nk_grammar.specs.Certified.{Row, Certified}
use Rattle.nk_grammar.specs.CertifiedMachine.{certified_of}
use Rattle.nk_names.specs.declared.fault.NamesError.{NamesError}
use Rattle.nk_names.specs.ProgramOf.{DeclaredProgram, program_of}
use Rattle.nk_cert.specs.Certificates.{CertificateValue}
use Rattle.nk_certtext.specs.declared.error.CertError.{CertError}
use Rattle.nk_certtext.specs.declared.error.CertError.TheVariants as rows
use Rattle.nk_certtext.specs.Rows.{certificate_of}
use Rattle.nk_input.proofs.OneText.{ok_is, lexical_once, grammar_once, naming_once}
use Rattle.nk_verify_commands.specs.CertifiedText.{HoldsCertificate, HasCertifiedFault, TellsRows, IsFaultOfRows, IsFaultOfProgram, IsFaultOfCertifiedTokens, IsFaultOfCertifiedBytes}

-- ---- what is said is one

written_once : (bytes : List ℕ) (s t : DeclaredProgram) (c e : CertificateValue) → (d : HoldsCertificate bytes s c) → (k : HoldsCertificate bytes t e) → d.written ≡ k.written
written_once bytes s t c e d k =
    let tokens = ok_is d.tokens k.tokens (sym d.cut ∙ k.cut) in
    ok_is d.written k.written (sym d.read ∙ ap certified_of tokens ∙ k.read)

pub holds_once : (bytes : List ℕ) (s t : DeclaredProgram) (c e : CertificateValue) → HoldsCertificate bytes s c → HoldsCertificate bytes t e → s ≡ t
holds_once bytes s t c e d k =
    ok_is s t (sym d.means ∙ ap (λ (w : Certified). program_of w.declarations) (written_once bytes s t c e d k) ∙ k.means)

pub certificate_once : (bytes : List ℕ) (s t : DeclaredProgram) (c e : CertificateValue) → HoldsCertificate bytes s c → HoldsCertificate bytes t e → c ≡ e
certificate_once bytes s t c e d k =
    ok_is c e
    (sym d.makes
    ∙ ap (λ (w : DeclaredProgram). certificate_of w.fields d.written.rows) (holds_once bytes s t c e d k)
    ∙ ap (λ (w : Certified). certificate_of t.fields w.rows) (written_once bytes s t c e d k)
    ∙ k.makes)

-- ---- what says something has no fault

pub no_certified_fault : (bytes : List ℕ) (s : DeclaredProgram) (c : CertificateValue) (text : List ℕ) → HoldsCertificate bytes s c → HasCertifiedFault bytes text → ⊥
no_certified_fault bytes s c text d h =
    subst (λ r. IsFaultOfRows r text) d.makes
    (subst (λ r. IsFaultOfProgram r d.written.rows text) d.means
    (subst (λ r. IsFaultOfCertifiedTokens r text) d.read (subst (λ r. IsFaultOfCertifiedBytes r text) d.cut h)))

-- ---- a fault is told by one line

row_once : (e : CertError) (x y : List ℕ) → TellsRows e x → TellsRows e y → x ≡ y
row_once (rows.CertFault line) x y h k = h ∙ sym k
row_once (rows.Fault kind line) x y h k = h ∙ sym k
row_once rows.NoMemory x y h k = absurd h

rows_once : (r : Result CertificateValue CertError) (x y : List ℕ) → IsFaultOfRows r x → IsFaultOfRows r y → x ≡ y
rows_once (Ok c) x y h k = absurd h
rows_once (Err e) x y h k = row_once e x y h k

said_once : (r : Result DeclaredProgram NamesError) (rs : List Row) (x y : List ℕ) → IsFaultOfProgram r rs x → IsFaultOfProgram r rs y → x ≡ y
said_once (Ok s) rs x y h k = rows_once (certificate_of s.fields rs) x y h k
said_once (Err e) rs x y h k = naming_once e x y h k

certified_once : (r : Result Certified GrammarError) (x y : List ℕ) → IsFaultOfCertifiedTokens r x → IsFaultOfCertifiedTokens r y → x ≡ y
certified_once (Ok w) x y h k = said_once (program_of w.declarations) w.rows x y h k
certified_once (Err e) x y h k = grammar_once e x y h k

certified_bytes_once : (r : Result (List Token) LexError) (x y : List ℕ) → IsFaultOfCertifiedBytes r x → IsFaultOfCertifiedBytes r y → x ≡ y
certified_bytes_once (Ok ts) x y h k = certified_once (certified_of ts) x y h k
certified_bytes_once (Err e) x y h k = lexical_once e x y h k

pub one_certified_fault : (bytes x y : List ℕ) → HasCertifiedFault bytes x → HasCertifiedFault bytes y → x ≡ y
one_certified_fault bytes x y h k = certified_bytes_once (tokens_of bytes) x y h k
