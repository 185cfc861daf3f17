-- What the tokens of a text with a certificate make: the program of its declarations and the certificate of its rows, or the first
-- fault: that of the grammar, else that of the declarations, else that of the rows.
use Rattle.std.specs.Prelude.{◌≡◌, Ok, Err, List, ⊤}
use Rattle.std.specs.declared.result.Result.{Result}
use Rattle.nk_lex.specs.declared.token.Token.{Token}
use Rattle.nk_grammar.specs.declared.decl.GrammarError.{GrammarError}
use Rattle.nk_grammar.specs.declared.decl.GrammarError.TheVariants as grammar
use Rattle.nk_grammar.specs.Certified.{Certified, Row}
use Rattle.nk_grammar.specs.CertifiedMachine.{certified_of}
use Rattle.nk_names.specs.declared.fault.NamesError.{NamesError}
use Rattle.nk_names.specs.declared.fault.NamesError.TheVariants as names
use Rattle.nk_names.specs.ProgramOf.{DeclaredProgram, program_of}
use Rattle.nk_cert.specs.Certificates.{CertificateValue}
use Rattle.nk_certtext.specs.declared.error.CertError.{CertError}
use Rattle.nk_certtext.specs.declared.error.CertError.TheVariants as rows
use Rattle.nk_certtext.specs.declared.error.TextError.{TextError}
use Rattle.nk_certtext.specs.declared.error.TextError.TheVariants.{NoMemory, Unexpected, TooDeep, Fault, CertFault}
use Rattle.nk_certtext.specs.Rows.{certificate_of}

-- the faults of each part as the text's
abbrev pub grammar_fault : GrammarError → TextError
grammar_fault grammar.NoMemory = NoMemory
grammar_fault (grammar.Unexpected line) = Unexpected line
grammar_fault (grammar.TooDeep line) = TooDeep line

abbrev pub names_fault : NamesError → TextError
names_fault names.NoMemory = NoMemory
names_fault (names.Fault kind line) = Fault kind line

abbrev pub rows_fault : CertError → TextError
rows_fault rows.NoMemory = NoMemory
rows_fault (rows.CertFault line) = CertFault line
rows_fault (rows.Fault kind line) = Fault kind line

-- a program and a certificate, or the certificate's fault
abbrev pub with_certificate : DeclaredProgram → Result CertificateValue CertError → Result (DeclaredProgram × CertificateValue) TextError
with_certificate s (Ok c) = Ok (s, c)
with_certificate s (Err e) = Err (rows_fault e)

-- of what the declarations say, and of the rows
abbrev pub text_of_program : Result DeclaredProgram NamesError → List Row → Result (DeclaredProgram × CertificateValue) TextError
text_of_program (Ok s) rs = with_certificate s (certificate_of s.fields rs)
text_of_program (Err e) rs = Err (names_fault e)

-- of declarations and rows
abbrev pub text_of_written : Result Certified GrammarError → Result (DeclaredProgram × CertificateValue) TextError
text_of_written (Ok w) = text_of_program (program_of w.declarations) w.rows
text_of_written (Err e) = Err (grammar_fault e)

-- of tokens
abbrev pub text_of_tokens : List Token → Result (DeclaredProgram × CertificateValue) TextError
text_of_tokens ts = text_of_written (certified_of ts)

-- this is the fault of what is wanted; memory may run out at any point
abbrev pub IsTextFault : {X : Type 0} → TextError → Result X TextError → Type 0
IsTextFault NoMemory wanted = ⊤
IsTextFault (Unexpected line) wanted = wanted ≡ Err (Unexpected line)
IsTextFault (TooDeep line) wanted = wanted ≡ Err (TooDeep line)
IsTextFault (Fault kind line) wanted = wanted ≡ Err (Fault kind line)
IsTextFault (CertFault line) wanted = wanted ≡ Err (CertFault line)

-- what is returned is what is wanted, seen so, or that memory ran out
abbrev pub ReturnsText : {X Y : Type 0} → (X → Y) → Result X TextError → Result Y TextError → Type 0
ReturnsText view (Ok x) wanted = wanted ≡ Ok (view x)
ReturnsText view (Err e) wanted = IsTextFault e wanted
