-- Certificates of the kind that a text has: what is printed of them, after the text of their program, is read as them.
use Rattle.std.specs.Prelude.{◌≡◌, ◌≢◌, ◌≤◌, ℕ, List, [], ◌∷◌, Ok, All, AllPairs, length, codes}
use Rattle.std.specs.List.Sorted.{IsStrictlyIncreasing}
use Rattle.nk_field.specs.Packet.{FieldTable, built_in}
use Rattle.nk_lex.specs.declared.token.Token.{Token}
use Rattle.nk_lex.specs.Lex.{largest, tokens_of}
use Rattle.nk_lex.specs.Joined.{joined}
use Rattle.nk_grammar.specs.File.{Declaration}
use Rattle.nk_grammar.specs.FileMachine.{file_of}
use Rattle.nk_policy.specs.Policy.{Policy, test, range, seq_of, not_of, no_part, part}
use Rattle.nk_grammar.specs.Certified.{Row, Certified, certified}
use Rattle.nk_grammar.specs.CertifiedMachine.{certified_of}
use Rattle.nk_names.specs.ProgramOf.{DeclaredProgram, program_of}
use Rattle.nk_names.specs.ReadBack.{IsReadablePredicate}
use Rattle.nk_cert.specs.Certificates.{RowValue, CertificateValue}
use Rattle.nk_certtext.specs.Text.{cert_bytes}
use Rattle.nk_certtext.specs.Rows.{HasStartRow, certificate_of}

-- a later row has a position, its positions are numbers that a text can have and ascend strictly, and its predicate is one
-- whose text is read back
pub record IsReadableRow (fields : FieldTable) (r : RowValue) : Type 0 where
  pub some : 1 ≤ length r.positions
  pub small : All (λ n. n ≤ largest) r.positions
  pub ascend : IsStrictlyIncreasing r.positions
  pub predicate : IsReadablePredicate fields r.predicate

-- so it is of each later row, no two of them have the same positions, and the start row's predicate is such a one too
pub record IsPrintableCertificate (fields : FieldTable) (c : CertificateValue) : Type 0 where
  pub start : IsReadablePredicate fields c.start
  pub rows : All (IsReadableRow fields) c.rows
  pub apart : AllPairs (λ r s. r.positions ≢ s.positions) c.rows

-- A text, a line feed and the certificate's text are cut into tokens, and read as these declarations and as rows that make
-- the certificate.
pub record IsCertificateReadBack (fields : FieldTable) (text : List ℕ) (ds : List Declaration) (c : CertificateValue) : Type 0 where
  pub tokens : List Token
  pub rows : List Row
  pub cut : tokens_of (joined text (cert_bytes fields c)) ≡ Ok tokens
  pub read : certified_of tokens ≡ Ok (certified ds rows)
  pub started : HasStartRow rows
  pub made : certificate_of fields rows ≡ Ok c

-- what is printed of such a certificate is read as it after the text of each program with its fields, and that text as its
-- own declarations
abbrev pub ReadsPrintedCertificates : Type 0
ReadsPrintedCertificates = (text : List ℕ) (ts : List Token) (ds : List Declaration) (s : DeclaredProgram) (c : CertificateValue)
    → tokens_of text ≡ Ok ts → file_of ts ≡ Ok ds → program_of ds ≡ Ok s → IsPrintableCertificate s.fields c
    → IsCertificateReadBack s.fields text ds c

-- the rows of each text with a certificate begin with a start row
abbrev pub HaveStartRows : Type 0
HaveStartRows = (ts : List Token) (c : Certified) → certified_of ts ≡ Ok c → HasStartRow c.rows

-- sw=1;~pt in 2..3
abbrev pub small_predicate : Policy
small_predicate = seq_of (part (test 0 1) (part (not_of (range 1 2 3)) no_part))

-- a start row and a later one, over the switch and the port
abbrev pub small_certificate : CertificateValue
small_certificate = record { start = seq_of no_part; rows = record { positions = 1 ∷ 3 ∷ []; predicate = small_predicate } ∷ [] }

-- it is a certificate of this kind, and this is its text
pub record IsMetBySmall : Type 0 where
  pub printable : IsPrintableCertificate built_in small_certificate
  pub text : cert_bytes built_in small_certificate ≡ codes "certificate\nrow start : id\nrow 1 3 : sw=1;~pt in 2..3\n"
