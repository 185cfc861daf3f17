-- Which status is exactly the answer to which bytes.
use Rattle.std.specs.Prelude.{◌≡◌, ◌⊎◌, ◌≤◌, ℕ, List, length, Some, None}
use Rattle.nk_field.specs.Packet.{FieldTable}
use Rattle.nk_policy.specs.Policy.{Policy}
use Rattle.nk_names.specs.declared.Program.{Program}
use Rattle.nk_names.specs.Named.{policy_named}
use Rattle.nk_names.specs.ProgramOf.{DeclaredProgram, program_by}
use Rattle.nk_cert.specs.Equality.{AreSame}
use Rattle.nk_input.specs.ProgramText.{Declares, HasFault}
use Rattle.nk_reply.specs.declared.status.Status.{Status}
use Rattle.nk_reply.specs.declared.status.Status.TheVariants.{Done, Differs, Text, Refused, NoMemory}
use Rattle.nk_reply.specs.Answer.{limit}
use Rattle.nk_reply.specs.Use.{HasRisen, Use}
use Rattle.nk_change_impact.specs.Ends.{Names, names_in}
use Rattle.nk_change_impact.specs.Impact.{AreBothNamed}

-- the bytes are a program's text, and it has policies of both names, of which this holds
pub record HaveBothPolicies (left right bytes : List ℕ) (Property : FieldTable → Policy → Policy → Type 0) : Type 0 where
  pub said : DeclaredProgram
  pub declared : Declares bytes said
  pub named : AreBothNamed said left right
  pub holds : Property named.program.fields named.left_policy named.right_policy

-- the bytes are a program's text, and one of the names is no policy's
pub record LackPolicy (left right bytes : List ℕ) : Type 0 where
  pub program : Program
  pub declared : Declares bytes (program_by program)
  pub lacks : (policy_named program left ≡ None) ⊎ (policy_named program right ≡ None)

-- What a status stands for over bytes within the limit: both policies give the same histories on every packet, or they don't; the
-- bytes are no program's text; a name is no policy's. The other statuses have causes outside of the bytes.
abbrev pub StandsFor : Status → List ℕ → List ℕ → List ℕ → Type 0
StandsFor Done left right bytes = HaveBothPolicies left right bytes AreSame
StandsFor Differs left right bytes = HaveBothPolicies left right bytes (λ fields p q. ¬ AreSame fields p q)
StandsFor Text left right bytes = (line : List ℕ) × HasFault bytes line
StandsFor Refused left right bytes = LackPolicy left right bytes
StandsFor s left right bytes = ⊥

-- the bytes are what the status stands for, and of bytes that a status stands for it is the one, unless memory ran out
pub record IsImpactStatus (left right bytes : List ℕ) (s : Status) : Type 0 where
  pub stands : (s ≡ NoMemory) ⊎ StandsFor s left right bytes
  pub comes : (t : Status) → StandsFor t left right bytes → (s ≡ t) ⊎ (s ≡ NoMemory)

-- where the words are two names, the source tells that these bytes are left, at most as many as an input has, and no count rose
abbrev pub Succeeds : List (List ℕ) → Use → Use → Use → Status → Type 0
Succeeds words source out err s = (names : Names) (bytes : List ℕ)
    → names_in words ≡ Some names → source.old ≡ Some bytes → length bytes ≤ limit
    → ¬ HasRisen source → ¬ HasRisen out → ¬ HasRisen err → IsImpactStatus names.0 names.1 bytes s
