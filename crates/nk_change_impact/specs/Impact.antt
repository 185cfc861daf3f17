-- What two names are answered over the bytes of a text: the first fault of the text; or that a name is no policy's; or that
-- both policies give the same histories on every packet; or two policies, the predicates of the packets from which the left
-- policy has a history that the right one hasn't, and of those from which the right one has a history that the left one hasn't.
use Rattle.std.specs.Prelude.{◌≡◌, ◌⊎◌, ℕ, None, Some, List, ◌++◌, codes}
use Rattle.nk_field.specs.Packet.{FieldTable}
use Rattle.nk_policy.specs.Policy.{Policy}
use Rattle.nk_policy.specs.Text.{pol_bytes}
use Rattle.nk_names.specs.declared.Program.{Program}
use Rattle.nk_names.specs.Named.{policy_named}
use Rattle.nk_names.specs.ProgramOf.{DeclaredProgram, program_by}
use Rattle.nk_input.specs.ProgramText.{Declares, HasFault}
use Rattle.nk_reply.specs.Outcome.{Outcome, done, differs, text_refused, policy_refused}
use Rattle.nk_cert.specs.Equality.{AreSame}
use Rattle.nk_difference.specs.Difference.{AreTheirPredicates}

-- both predicates, each as a policy with a name of its own
abbrev pub impact_lines : FieldTable → Policy → Policy → List ℕ
impact_lines fields left right =
    codes "let left_alone = " ++ pol_bytes fields left ++ codes "\nlet right_alone = " ++ pol_bytes fields right ++ codes "\n"

-- the program has policies of both names
pub record AreBothNamed (said : DeclaredProgram) (left right : List ℕ) : Type 0 where
  pub program : Program
  pub says : program_by program ≡ said
  pub left_policy : Policy
  pub right_policy : Policy
  pub left_is : policy_named program left ≡ Some left_policy
  pub right_is : policy_named program right ≡ Some right_policy

-- the policies of these names give the same histories on every packet in range, and the text says so
pub record TellsSame (said : DeclaredProgram) (left right text : List ℕ) : Type 0 where
  pub named : AreBothNamed said left right
  pub same : AreSame named.program.fields named.left_policy named.right_policy
  pub told : text ≡ codes "same\n"

-- the text has the predicates of the packets that the policies of these names differ on
pub record TellsImpact (said : DeclaredProgram) (left right text : List ℕ) : Type 0 where
  pub named : AreBothNamed said left right
  pub left_predicate : Policy
  pub right_predicate : Policy
  pub predicates : AreTheirPredicates named.program.fields named.left_policy named.right_policy left_predicate right_predicate
  pub told : text ≡ impact_lines named.program.fields left_predicate right_predicate

-- one of the names is no policy's, and the text says so
pub record LacksNamedPolicy (said : DeclaredProgram) (left right text : List ℕ) : Type 0 where
  pub program : Program
  pub says : program_by program ≡ said
  pub lacks : (policy_named program left ≡ None) ⊎ (policy_named program right ≡ None)
  pub told : text ≡ codes "refused C1: no policy\n"

-- what is answered to a program
abbrev pub ToImpactProgram : DeclaredProgram → List ℕ → List ℕ → Outcome → Type 0
ToImpactProgram said left right (done text) = TellsSame said left right text
ToImpactProgram said left right (differs text) = TellsImpact said left right text
ToImpactProgram said left right (policy_refused text) = LacksNamedPolicy said left right text
ToImpactProgram said left right outcome = ⊥

-- what is answered over the bytes of a text
abbrev pub IsImpactAnswer : List ℕ → List ℕ → List ℕ → Outcome → Type 0
IsImpactAnswer left right bytes (text_refused text) = HasFault bytes text
IsImpactAnswer left right bytes outcome = (said : DeclaredProgram) × Declares bytes said × ToImpactProgram said left right outcome
