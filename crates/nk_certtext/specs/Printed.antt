-- The certificates that are printed for two policies are read back from their text.
use Rattle.std.specs.Prelude.{◌≡◌, ℕ, ◌+◌, ◌<◌, ◌^◌, List, Ok}
use Rattle.nk_field.specs.Packet.{FieldTable, IsFieldTable}
use Rattle.nk_lex.specs.declared.token.Token.{Token}
use Rattle.nk_lex.specs.Lex.{tokens_of}
use Rattle.nk_grammar.specs.File.{Declaration}
use Rattle.nk_grammar.specs.FileMachine.{file_of}
use Rattle.nk_policy.specs.Policy.{Policy, dups_of}
use Rattle.nk_names.specs.ProgramOf.{DeclaredProgram, program_of}
use Rattle.nk_cert.specs.Certificates.{CertificateValue}
use Rattle.nk_cert.specs.Together.{AreNumbered}
use Rattle.nk_cert.specs.Printed.{IsPrinted}
use Rattle.nk_cert.specs.Verdicts.{HasPredicates}
use Rattle.nk_certtext.specs.ReadBack.{IsPrintableCertificate, IsCertificateReadBack}

-- two policies that are numbered one after the other, with numbers that a program's dups can have
pub record AreCompared (p q : Policy) : Type 0 where
  pub numbered : AreNumbered p q
  pub few : 1 + dups_of p + dups_of q < 2 ^ 32

-- the printed certificate of two policies is of the kind that a text has
abbrev pub PrintsPrintable : Type 0
PrintsPrintable = (fields : FieldTable) → IsFieldTable fields → (p q : Policy) → AreCompared p q → (c : CertificateValue)
    → IsPrinted fields p q c → IsPrintableCertificate fields c

-- each of its rows has a predicate
abbrev pub PrintsPredicates : Type 0
PrintsPredicates = (fields : FieldTable) → IsFieldTable fields → (p q : Policy) → AreCompared p q → (c : CertificateValue)
    → IsPrinted fields p q c → HasPredicates c

-- after the text of each program with its fields it is read as itself
abbrev pub ReadsPrintedFor : Type 0
ReadsPrintedFor = (text : List ℕ) (ts : List Token) (ds : List Declaration) (s : DeclaredProgram) (p q : Policy) (c : CertificateValue)
    → tokens_of text ≡ Ok ts → file_of ts ≡ Ok ds → program_of ds ≡ Ok s → AreCompared p q → IsPrinted s.fields p q c
    → IsCertificateReadBack s.fields text ds c
