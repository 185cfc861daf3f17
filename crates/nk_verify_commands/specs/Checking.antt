-- What `check LEFT RIGHT` answers to the bytes of a text with a certificate: the first fault of the text, or that a name is no
-- policy's, or that the certificate is one for the policies of these names, or its first row that fails and in what.
use Rattle.std.specs.Prelude.{◌≡◌, ℕ, ◌+◌, List, ◌++◌, codes, decimal}
use Rattle.nk_policy.specs.Policy.{Policy, marked_from, dups_of}
use Rattle.nk_names.specs.declared.Program.{Program}
use Rattle.nk_names.specs.ProgramOf.{DeclaredProgram, program_by}
use Rattle.nk_cert.specs.Equality.{AreSame}
use Rattle.nk_cert.specs.Certificates.{CertificateValue}
use Rattle.nk_cert.specs.Verdicts.{RowPart, position_part, start_part, finals_part, hop_part, Finding, valid, invalid, IsFinding}
use Rattle.nk_verify_commands.specs.CertifiedText.{ToCertified}
use Rattle.nk_verify_commands.specs.Comparing.{AreNamed, LacksPolicy}
use Rattle.nk_reply.specs.Outcome.{Outcome, done, differs, policy_refused}

-- the word for a part of a row
abbrev pub part_word : RowPart → List ℕ
part_word position_part = codes "position"
part_word start_part = codes "start"
part_word finals_part = codes "finals"
part_word hop_part = codes "hop"

-- what is said of a row that fails, rows from 1 on and the start row being the first
abbrev pub invalid_line : ℕ → RowPart → List ℕ
invalid_line row in_part = codes "invalid row " ++ decimal row ++ codes ": " ++ part_word in_part ++ codes "\n"

-- what is found of a certificate for the policies of these names, the dups of the right one numbered on from the left one's
pub record IsFound (said : DeclaredProgram) (left right : List ℕ) (c : CertificateValue) (finding : Finding) : Type 0 where
  pub program : Program
  pub says : program_by program ≡ said
  pub left_policy : Policy
  pub right_policy : Policy
  pub named : AreNamed program left right left_policy right_policy
  pub is : IsFinding program.fields left_policy (marked_from right_policy (1 + dups_of left_policy)) c finding

-- it is a certificate, so both policies give the same histories on every packet, and the text says that it is one
pub record IsValid (said : DeclaredProgram) (left right : List ℕ) (c : CertificateValue) (text : List ℕ) : Type 0 where
  pub found : IsFound said left right c valid
  pub same : AreSame found.program.fields found.left_policy found.right_policy
  pub told : text ≡ codes "valid\n"

-- a row of it fails first, in this part first, and the text says which
pub record IsInvalid (said : DeclaredProgram) (left right : List ℕ) (c : CertificateValue) (text : List ℕ) : Type 0 where
  pub row : ℕ
  pub in_part : RowPart
  pub found : IsFound said left right c (invalid row in_part)
  pub told : text ≡ invalid_line row in_part

-- what is answered to a program with a certificate
abbrev pub ToChecked : DeclaredProgram → List ℕ → List ℕ → CertificateValue → Outcome → Type 0
ToChecked said left right c (done text) = IsValid said left right c text
ToChecked said left right c (differs text) = IsInvalid said left right c text
ToChecked said left right c (policy_refused text) = LacksPolicy said left right text
ToChecked said left right c outcome = ⊥

-- the answer of checking a certificate for the policies of these names, over the bytes of a text
abbrev pub IsCheckAnswer : List ℕ → List ℕ → List ℕ → Outcome → Type 0
IsCheckAnswer left right bytes outcome = ToCertified (λ said c o. ToChecked said left right c o) bytes outcome
