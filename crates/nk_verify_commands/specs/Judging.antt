-- What `check_apart NAME A B` and `check_waypoint NAME A W B` answer to the bytes of a text with a certificate: the first fault of
-- the text, or that there is no question of these names to ask, or that the certificate is one for the question and `drop`, so no
-- history breaks the query, or its first row that fails and in what.
use Rattle.std.specs.Prelude.{◌≡◌, ℕ, List, codes}
use Rattle.nk_policy.specs.After.{drop_policy}
use Rattle.nk_names.specs.declared.Program.{Program}
use Rattle.nk_names.specs.ProgramOf.{DeclaredProgram, program_by}
use Rattle.nk_cert.specs.Certificates.{CertificateValue}
use Rattle.nk_cert.specs.Verdicts.{RowPart, Finding, valid, invalid, IsFinding}
use Rattle.nk_query.specs.Asked.{Asked, Question, NoneBreaks}
use Rattle.nk_query.specs.Answers.{IsNamedQuestion, asked_policy}
use Rattle.nk_verify_commands.specs.Asking.{LacksQuestion}
use Rattle.nk_verify_commands.specs.CertifiedText.{ToCertified}
use Rattle.nk_verify_commands.specs.Checking.{invalid_line}
use Rattle.nk_reply.specs.Outcome.{Outcome, done, differs, policy_refused}

-- what is found of a certificate for the question of these names and `drop`
pub record IsFoundForAsked (said : DeclaredProgram) (asked : Asked) (c : CertificateValue) (finding : Finding) : Type 0 where
  pub program : Program
  pub says : program_by program ≡ said
  pub question : Question
  pub named : IsNamedQuestion program asked question
  pub is : IsFinding program.fields (asked_policy question) drop_policy c finding

-- it is a certificate, so no history breaks the query, and the text says that it is one
pub record IsValidFor (said : DeclaredProgram) (asked : Asked) (c : CertificateValue) (text : List ℕ) : Type 0 where
  pub found : IsFoundForAsked said asked c valid
  pub none : NoneBreaks found.program.fields found.question
  pub told : text ≡ codes "valid\n"

-- a row of it fails first, in this part first, and the text says which
pub record IsInvalidFor (said : DeclaredProgram) (asked : Asked) (c : CertificateValue) (text : List ℕ) : Type 0 where
  pub row : ℕ
  pub in_part : RowPart
  pub found : IsFoundForAsked said asked c (invalid row in_part)
  pub told : text ≡ invalid_line row in_part

-- what is answered to a program with a certificate
abbrev pub ToJudged : DeclaredProgram → Asked → CertificateValue → Outcome → Type 0
ToJudged said asked c (done text) = IsValidFor said asked c text
ToJudged said asked c (differs text) = IsInvalidFor said asked c text
ToJudged said asked c (policy_refused text) = LacksQuestion said asked text
ToJudged said asked c outcome = ⊥

-- the answer of checking a certificate for the query of these names, over the bytes of a text
abbrev pub IsJudgeAnswer : Asked → List ℕ → Outcome → Type 0
IsJudgeAnswer asked bytes outcome = ToCertified (λ said c o. ToJudged said asked c o) bytes outcome
