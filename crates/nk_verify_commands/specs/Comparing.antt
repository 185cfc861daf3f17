-- What `equal LEFT RIGHT` answers to the bytes of a text: the first fault of the text, or that a name is no policy's, or the
-- printed certificate where both policies give the same histories on every packet, or the least history that one alone has.
use Rattle.std.specs.Prelude.{◌≡◌, ◌⊎◌, ℕ, None, Some, List, ◌++◌, codes}
use Rattle.nk_field.specs.Packet.{FieldTable}
use Rattle.nk_field.specs.Order.{Found}
use Rattle.nk_policy.specs.Policy.{Policy}
use Rattle.nk_names.specs.declared.Program.{Program}
use Rattle.nk_names.specs.Named.{policy_named}
use Rattle.nk_names.specs.ProgramOf.{DeclaredProgram, program_by}
use Rattle.nk_lex.specs.Joined.{joined}
use Rattle.nk_cert.specs.Equality.{Side, on_left, on_right, IsLeastDifference}
use Rattle.nk_cert.specs.Certificates.{CertificateValue}
use Rattle.nk_certtext.specs.Text.{cert_bytes}
use Rattle.nk_bisim.specs.Answers.{IsRelated}
use Rattle.nk_verify_commands.specs.CertifiedText.{HoldsCertificate}
use Rattle.nk_reply.specs.Messages.{found_lines}
use Rattle.nk_reply.specs.Outcome.{Outcome, done, differs, text_refused, policy_refused}
use Rattle.nk_input.specs.ProgramText.{Declares, HasFault}

-- which policy alone has the history
abbrev pub side_line : Side → List ℕ
side_line on_left = codes "left alone\n"
side_line on_right = codes "right alone\n"

-- what is said of a history that one policy alone has
abbrev pub difference_lines : FieldTable → Side → Found → List ℕ
difference_lines fields side f = codes "different\n" ++ side_line side ++ found_lines fields f

-- the program has policies of both names
pub record AreNamed (program : Program) (left right : List ℕ) (p q : Policy) : Type 0 where
  pub left_is : policy_named program left ≡ Some p
  pub right_is : policy_named program right ≡ Some q

-- Two policies of a program's fields give the same histories on every packet, and the text is that of their printed certificate,
-- which is one. After each text that declares the program, and a line feed, it is read as that certificate.
pub record TellsRelated (program : Program) (p q : Policy) (text : List ℕ) : Type 0 where
  pub certificate : CertificateValue
  pub related : IsRelated program.fields p q certificate
  pub told : text ≡ cert_bytes program.fields certificate
  pub read : (bytes : List ℕ) → Declares bytes (program_by program) → HoldsCertificate (joined bytes text) (program_by program) certificate

-- the policies of these names do so
pub record IsSame (said : DeclaredProgram) (left right text : List ℕ) : Type 0 where
  pub program : Program
  pub says : program_by program ≡ said
  pub left_policy : Policy
  pub right_policy : Policy
  pub named : AreNamed program left right left_policy right_policy
  pub tells : TellsRelated program left_policy right_policy text

-- the text tells the least history that one of the policies of these names alone has, and which one
pub record IsDifference (said : DeclaredProgram) (left right text : List ℕ) : Type 0 where
  pub program : Program
  pub says : program_by program ≡ said
  pub left_policy : Policy
  pub right_policy : Policy
  pub named : AreNamed program left right left_policy right_policy
  pub side : Side
  pub found : Found
  pub least : IsLeastDifference program.fields left_policy right_policy side found
  pub told : text ≡ difference_lines program.fields side found

-- one of the names is no policy's, and the text says so
pub record LacksPolicy (said : DeclaredProgram) (left right text : List ℕ) : Type 0 where
  pub program : Program
  pub says : program_by program ≡ said
  pub lacks : (policy_named program left ≡ None) ⊎ (policy_named program right ≡ None)
  pub told : text ≡ codes "refused C1: no policy\n"

-- what is answered to a program
abbrev pub ToCompared : DeclaredProgram → List ℕ → List ℕ → Outcome → Type 0
ToCompared said left right (done text) = IsSame said left right text
ToCompared said left right (differs text) = IsDifference said left right text
ToCompared said left right (policy_refused text) = LacksPolicy said left right text
ToCompared said left right outcome = ⊥

-- the answer of comparing the policies of these names, over the bytes of a text
abbrev pub IsEqualAnswer : List ℕ → List ℕ → List ℕ → Outcome → Type 0
IsEqualAnswer left right bytes (text_refused text) = HasFault bytes text
IsEqualAnswer left right bytes outcome = (said : DeclaredProgram) × Declares bytes said × ToCompared said left right outcome
