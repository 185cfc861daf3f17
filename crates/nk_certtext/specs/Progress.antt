-- A text with a certificate read token by token, of which neither declarations nor rows are kept: what is known of the tokens so
-- far, and how what one more token completes changes it.
use Rattle.std.specs.Prelude.{◌≡◌, ℕ, Option, Some, None, Ok, Err, List, [], ◌∷◌, ◌++◌}
use Rattle.std.specs.declared.result.Result.{Result}
use Rattle.nk_lex.specs.declared.token.Token.{Token}
use Rattle.nk_lex.specs.Faults.{and_then}
use Rattle.nk_policy.specs.Policy.{Policy}
use Rattle.nk_grammar.specs.declared.decl.Completed.{Completed}
use Rattle.nk_grammar.specs.declared.decl.Completed.TheVariants as completed
use Rattle.nk_grammar.specs.Tree.{Tree}
use Rattle.nk_grammar.specs.File.{Declaration, declaration_of}
use Rattle.nk_grammar.specs.Certified.{Row, row, row_value}
use Rattle.nk_grammar.specs.CertifiedProgress.{CertifiedProgress, IsRead, IsStopped, declarations_by, rows_by}
use Rattle.nk_names.specs.declared.fault.NamesError.{NamesError}
use Rattle.nk_names.specs.Declaring.{program_on}
use Rattle.nk_names.specs.ProgramOf.{DeclaredProgram, program_of, row_policy}
use Rattle.nk_cert.specs.Certificates.{CertificateValue}
use Rattle.nk_certtext.specs.declared.error.TextError.{TextError}
use Rattle.nk_certtext.specs.Rows.{RowsValue, fault_of_predicate, with_next_row, made_of, certificate_at_end}
use Rattle.nk_certtext.specs.Whole.{names_fault, with_certificate}

-- what the declarations so far say, and what the rows so far make
pub record PartsValue : Type 0 where
  pub said : Result DeclaredProgram NamesError
  pub rows : RowsValue

-- the predicate of a row over what is declared; a fault of the declarations is the row's
abbrev pub predicate_over : Result DeclaredProgram NamesError → Tree → (line : ℕ) → Result Policy NamesError
predicate_over said t line = and_then said (λ s. row_policy s.fields t line)

-- one more row
abbrev pub with_row_part : PartsValue → Row → PartsValue
with_row_part p (row ns t line) = record p { rows = with_next_row p.rows ns line (predicate_over p.said t line) }

-- one more declaration or row
abbrev pub with_next_part : PartsValue → Completed → PartsValue
with_next_part p (completed.Declaration d) = record p { said = program_on p.said (declaration_of d) }
with_next_part p (completed.Row r) = with_row_part p (row_value r)

-- the parts with the declaration or row that a token completes, if it completes one
abbrev pub with_completed : PartsValue → Option Completed → PartsValue
with_completed p None = p
with_completed p (Some c) = with_next_part p c

-- what may come next, or the grammar's fault; and what is known of the declarations and rows that the tokens completed
pub record CertProgress : Type 0 where
  pub grammar : CertifiedProgress
  pub parts : PartsValue

-- what rows make over what is declared; a fault of the declarations is that of the first row, if there is one
abbrev pub made_by : Result DeclaredProgram NamesError → List Row → RowsValue
made_by (Ok s) rs = made_of s.fields rs
made_by (Err e) [] = None
made_by (Err e) (r ∷ rs) = Some (Err (fault_of_predicate e))

-- these are the tokens so far: they completed these declarations and rows, which say and make this
pub record IsTaken (ts : List Token) (p : CertProgress) : Type 0 where
  pub declarations : List Declaration
  pub rows : List Row
  pub read : IsRead ts declarations rows p.grammar
  pub says : p.parts.said ≡ program_of declarations
  pub makes : p.parts.rows ≡ made_by p.parts.said rows

-- one more token completes this, where these declarations and rows were complete before
pub record IsStepped (ts : List Token) (ds : List Declaration) (rs : List Row) (old : CertProgress) (t : Token) (new : CertProgress) : Type 0 where
  pub part : Option Completed
  pub read : IsRead (ts ++ t ∷ []) (ds ++ declarations_by part) (rs ++ rows_by part) new.grammar
  pub parts : new.parts ≡ with_completed old.parts part

abbrev pub IsTakenOn : List Token → List Declaration → List Row → CertProgress → Token → CertProgress → Type 0
IsTakenOn ts ds rs old t new = IsRead ts ds rs old.grammar → IsStepped ts ds rs old t new

-- the grammar has a fault
abbrev pub HasStopped : CertProgress → Type 0
HasStopped p = IsStopped p.grammar

-- the program and the certificate, where no further declaration and no further row comes
abbrev pub text_by : Result DeclaredProgram NamesError → RowsValue → Result (DeclaredProgram × CertificateValue) TextError
text_by (Ok s) rows = with_certificate s (certificate_at_end rows)
text_by (Err e) rows = Err (names_fault e)

abbrev pub text_at_end : PartsValue → Result (DeclaredProgram × CertificateValue) TextError
text_at_end p = text_by p.said p.rows
