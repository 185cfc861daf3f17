-- What the bytes of a text with a certificate are: the program that they declare with the certificate that their rows make, or
-- the text's first fault.
use Rattle.std.specs.Prelude.{◌≡◌, ℕ, List, Ok, Err, codes}
use Rattle.std.specs.declared.result.Result.{Result}
use Rattle.nk_lex.specs.declared.token.Token.{Token}
use Rattle.nk_lex.specs.declared.token.LexError.{LexError}
use Rattle.nk_lex.specs.Lex.{tokens_of}
use Rattle.nk_grammar.specs.declared.decl.GrammarError.{GrammarError}
use Rattle.nk_grammar.specs.Certified.{Row, Certified}
use Rattle.nk_grammar.specs.CertifiedMachine.{certified_of}
use Rattle.nk_names.specs.declared.fault.NamesError.{NamesError}
use Rattle.nk_names.specs.ProgramOf.{DeclaredProgram, program_of}
use Rattle.nk_cert.specs.Certificates.{CertificateValue}
use Rattle.nk_certtext.specs.declared.error.CertError.{CertError}
use Rattle.nk_certtext.specs.declared.error.CertError.TheVariants as rows
use Rattle.nk_certtext.specs.declared.error.TextError.{TextError}
use Rattle.nk_certtext.specs.declared.error.TextError.TheVariants as whole
use Rattle.nk_certtext.specs.Rows.{certificate_of}
use Rattle.nk_names.specs.Messages.{fault_message_of, fault_line}
use Rattle.nk_reply.specs.Outcome.{Outcome, text_refused}
use Rattle.nk_input.specs.ProgramText.{TellsGrammar, TellsLexical, TellsNames}

-- the bytes are a text that declares this, with rows that make this certificate
pub record HoldsCertificate (bytes : List ℕ) (said : DeclaredProgram) (c : CertificateValue) : Type 0 where
  pub tokens : List Token
  pub cut : tokens_of bytes ≡ Ok tokens
  pub written : Certified
  pub read : certified_of tokens ≡ Ok written
  pub means : program_of written.declarations ≡ Ok said
  pub makes : certificate_of said.fields written.rows ≡ Ok c

-- the line that tells the first fault of the rows
abbrev pub TellsRows : CertError → List ℕ → Type 0
TellsRows (rows.CertFault line) text = text ≡ fault_line line (codes "certificate fault")
TellsRows (rows.Fault kind line) text = text ≡ fault_line line (fault_message_of kind)
TellsRows rows.NoMemory text = ⊥

-- the rows have a fault, and the line tells the first one
abbrev pub IsFaultOfRows : Result CertificateValue CertError → List ℕ → Type 0
IsFaultOfRows (Ok c) text = ⊥
IsFaultOfRows (Err e) text = TellsRows e text

-- so it is of what the declarations say, and then of the rows
abbrev pub IsFaultOfProgram : Result DeclaredProgram NamesError → List Row → List ℕ → Type 0
IsFaultOfProgram (Ok said) rs text = IsFaultOfRows (certificate_of said.fields rs) text
IsFaultOfProgram (Err e) rs text = TellsNames e text

-- of declarations and rows
abbrev pub IsFaultOfCertified : Certified → List ℕ → Type 0
IsFaultOfCertified written text = IsFaultOfProgram (program_of written.declarations) written.rows text

-- of tokens
abbrev pub IsFaultOfCertifiedTokens : Result Certified GrammarError → List ℕ → Type 0
IsFaultOfCertifiedTokens (Ok written) text = IsFaultOfCertified written text
IsFaultOfCertifiedTokens (Err e) text = TellsGrammar e text

-- and of bytes
abbrev pub IsFaultOfCertifiedBytes : Result (List Token) LexError → List ℕ → Type 0
IsFaultOfCertifiedBytes (Ok tokens) text = IsFaultOfCertifiedTokens (certified_of tokens) text
IsFaultOfCertifiedBytes (Err e) text = TellsLexical e text

-- the bytes are no text of a program with a certificate, and the line tells the first fault
abbrev pub HasCertifiedFault : List ℕ → List ℕ → Type 0
HasCertifiedFault bytes text = IsFaultOfCertifiedBytes (tokens_of bytes) text

-- ---- what is answered

-- what is told of a program and a certificate
abbrev pub TellingCertified : Type 1
TellingCertified = DeclaredProgram → CertificateValue → Outcome → Type 0

-- this is told, and no fault of a text
abbrev pub TellsNoFault : (Outcome → Type 0) → Outcome → Type 0
TellsNoFault T (text_refused text) = ⊥
TellsNoFault T outcome = T outcome

-- what is answered to the bytes of a text with a certificate: its first fault, or what is told of its program and certificate
abbrev pub ToCertified : TellingCertified → List ℕ → Outcome → Type 0
ToCertified tells bytes (text_refused text) = HasCertifiedFault bytes text
ToCertified tells bytes outcome = (said : DeclaredProgram) × (c : CertificateValue) × HoldsCertificate bytes said c × tells said c outcome

-- the tokens are those of a text that declares this, with rows that make this certificate
pub record HoldTokens (tokens : List Token) (said : DeclaredProgram) (c : CertificateValue) : Type 0 where
  pub written : Certified
  pub read : certified_of tokens ≡ Ok written
  pub means : program_of written.declarations ≡ Ok said
  pub makes : certificate_of said.fields written.rows ≡ Ok c

-- what is answered to the tokens of a text with a certificate: its first fault, or what is told of its program and certificate
abbrev pub ToCertifiedTokens : TellingCertified → List Token → Outcome → Type 0
ToCertifiedTokens tells tokens (text_refused text) = IsFaultOfCertifiedTokens (certified_of tokens) text
ToCertifiedTokens tells tokens outcome = (said : DeclaredProgram) × (c : CertificateValue) × HoldTokens tokens said c × tells said c outcome

-- the text's first fault is told
abbrev pub TellsText : TextError → Outcome → Type 0
TellsText (whole.Unexpected line) outcome = outcome ≡ text_refused (fault_line line (codes "unexpected"))
TellsText (whole.TooDeep line) outcome = outcome ≡ text_refused (fault_line line (codes "too deep"))
TellsText (whole.Fault kind line) outcome = outcome ≡ text_refused (fault_line line (fault_message_of kind))
TellsText (whole.CertFault line) outcome = outcome ≡ text_refused (fault_line line (codes "certificate fault"))
TellsText whole.NoMemory outcome = ⊥
