-- What `apart NAME A B` and `waypoint NAME A W B` answer to the bytes of a text: the first fault of the text, or that a name is no
-- policy's, that one of A, W and B is no predicate or that the question is too large, or the printed certificate of the question
-- and `drop` where no history breaks the query, or the least history that does.
use Rattle.std.specs.Prelude.{◌≡◌, ℕ, List, ◌++◌, codes}
use Rattle.nk_field.specs.Packet.{FieldTable}
use Rattle.nk_field.specs.Order.{Found}
use Rattle.nk_policy.specs.After.{drop_policy}
use Rattle.nk_names.specs.declared.Program.{Program}
use Rattle.nk_names.specs.ProgramOf.{DeclaredProgram, program_by}
use Rattle.nk_query.specs.declared.error.QueryError.{QueryError}
use Rattle.nk_query.specs.Asked.{Asked, Question, NoneBreaks, IsLeastBreak}
use Rattle.nk_query.specs.Answers.{IsHindranceByName, IsNamedQuestion, asked_policy}
use Rattle.nk_verify_commands.specs.Comparing.{TellsRelated}
use Rattle.nk_verify_commands.specs.Messages.{TellsQuery}
use Rattle.nk_reply.specs.Messages.{found_lines}
use Rattle.nk_reply.specs.Outcome.{Outcome, done, differs, text_refused, policy_refused}
use Rattle.nk_input.specs.ProgramText.{Declares, HasFault}

-- what is said of a history that breaks a query
abbrev pub broken_lines : FieldTable → Found → List ℕ
broken_lines fields f = codes "broken\n" ++ found_lines fields f

-- No history breaks the query of these names: its question gives the same histories as `drop`, and the text is that of their
-- printed certificate, which is read back.
pub record IsHeldQuery (said : DeclaredProgram) (asked : Asked) (text : List ℕ) : Type 0 where
  pub program : Program
  pub says : program_by program ≡ said
  pub question : Question
  pub named : IsNamedQuestion program asked question
  pub none : NoneBreaks program.fields question
  pub tells : TellsRelated program (asked_policy question) drop_policy text

-- the text tells the least history that breaks the query of these names
pub record IsBroken (said : DeclaredProgram) (asked : Asked) (text : List ℕ) : Type 0 where
  pub program : Program
  pub says : program_by program ≡ said
  pub question : Question
  pub named : IsNamedQuestion program asked question
  pub found : Found
  pub least : IsLeastBreak program.fields question found
  pub told : text ≡ broken_lines program.fields found

-- there is no question of these names to ask, and the text tells the first cause
pub record LacksQuestion (said : DeclaredProgram) (asked : Asked) (text : List ℕ) : Type 0 where
  pub program : Program
  pub says : program_by program ≡ said
  pub cause : QueryError
  pub is : IsHindranceByName program asked cause
  pub told : TellsQuery cause text

-- what is answered to a program
abbrev pub ToAsked : DeclaredProgram → Asked → Outcome → Type 0
ToAsked said asked (done text) = IsHeldQuery said asked text
ToAsked said asked (differs text) = IsBroken said asked text
ToAsked said asked (policy_refused text) = LacksQuestion said asked text
ToAsked said asked outcome = ⊥

-- the answer of asking the query of these names, over the bytes of a text
abbrev pub IsAskAnswer : Asked → List ℕ → Outcome → Type 0
IsAskAnswer asked bytes (text_refused text) = HasFault bytes text
IsAskAnswer asked bytes outcome = (said : DeclaredProgram) × Declares bytes said × ToAsked said asked outcome
