-- How a run ends.
use Rattle.std.specs.Prelude.{◌≡◌, ◌⊎◌, ℕ, ◌+◌, Bool, true, false, Option, Some, None, Result, Ok, Err, List, [], codes, drop}
use Rattle.nk_reply.specs.declared.status.Status.{Status}
use Rattle.nk_reply.specs.declared.status.Status.TheVariants.{Usage, Refused}
use Rattle.nk_reply.specs.Answer.{Answer, answer}
use Rattle.nk_reply.specs.Meant.{IsAnswerBy, IsMeantBy, IsNoMemory}
use Rattle.nk_reply.specs.Reply as replies
use Rattle.nk_reply.specs.Sent.{Delivers}
use Rattle.nk_reply.specs.Use.{IsUntouched, Use}
use Rattle.nk_openflow_commands.specs.declared.reply.FlowsReply.{FlowsReply}
use Rattle.nk_openflow_commands.specs.declared.reply.FlowsReply.TheVariants as said
use Rattle.nk_openflow.specs.declared.refusals.WordFault.{WordFault}
use Rattle.nk_openflow.specs.declared.words.Head.{Head}
use Rattle.nk_openflow_commands.specs.Answer.{IsLinesAnswer}
use Rattle.nk_openflow.specs.Refusals.{word_fault_line}
use Rattle.nk_openflow.specs.Words.{first_word_fault, head_of}

-- words that don't begin with a switch and a part of its table
abbrev pub flows_usage : Answer
flows_usage = answer Usage (codes "usage: nk_flows SWITCH groups|flows [BASE] FIELD=OXM ..\n")

-- what words ask for, or what is answered to them alone: the words after the first ones map fields
abbrev pub word_answer : ℕ → WordFault → Answer
word_answer n k = answer Refused (word_fault_line n k)

abbrev pub unless_at_word : Head → Option (ℕ × WordFault) → Result Head Answer
unless_at_word head None = Ok head
unless_at_word head (Some f) = Err (word_answer f.0 f.1)

abbrev pub mapping_words : Head → List (List ℕ) → List (List ℕ)
mapping_words head ws = drop head.count ws

abbrev pub asked_by : Option Head → List (List ℕ) → Result Head Answer
asked_by None ws = Err flows_usage
asked_by (Some head) ws = unless_at_word head (first_word_fault head.base [] (head.count + 1) (mapping_words head ws))

abbrev pub asked : List (List ℕ) → Result Head Answer
asked ws = asked_by (head_of ws) ws

-- whether the input is asked for
abbrev pub reads : Result Head Answer → Bool
reads (Ok head) = true
reads (Err a) = false

-- the answer that words and the bytes of an input fix
abbrev pub IsAnswerOf : Result Head Answer → List (List ℕ) → List ℕ → Answer → Type 0
IsAnswerOf (Ok head) ws bytes a = IsAnswerBy (IsLinesAnswer head (mapping_words head ws)) bytes a
IsAnswerOf (Err said) ws bytes a = a ≡ said

abbrev pub IsFlowsAnswerTo : List (List ℕ) → List ℕ → Answer → Type 0
IsFlowsAnswerTo ws bytes a = IsAnswerOf (asked ws) ws bytes a

-- words alone fix the answer, and nothing is read
pub record IsFixedByWords (fixed : Answer) (source : Use) (a : Answer) : Type 0 where
  pub answer : a ≡ fixed
  pub unread : IsUntouched source

-- nothing was done to a source with these bytes left and this count of faults
abbrev pub nothing_done : Option (List ℕ) → ℕ → Use
nothing_done left faults = record { old = left; new = left; before = faults; now = faults }

-- why a run means to give an answer
abbrev pub IsMeantByWords : Answer → Use → Answer → Type 0
IsMeantByWords fixed source a = IsFixedByWords fixed source a ⊎ IsNoMemory source a

abbrev pub IsFlowsMeantTo : Result Head Answer → List (List ℕ) → Use → Answer → Type 0
IsFlowsMeantTo (Ok head) ws source a = IsMeantBy (IsLinesAnswer head (mapping_words head ws)) source a
IsFlowsMeantTo (Err fixed) ws source a = IsMeantByWords fixed source a

abbrev pub IsMeant : List (List ℕ) → Use → Answer → Type 0
IsMeant ws source a = IsFlowsMeantTo (asked ws) ws source a

-- the answer in what a run means to say
abbrev pub flows_answer_in : FlowsReply → Answer
flows_answer_in said.Usage = flows_usage
flows_answer_in (said.Reply r) = replies.answer_in r

-- an answer was meant for its cause, and then it was sent, or its sink failed at it
pub record Ends (ws : List (List ℕ)) (source out err : Use) (s : Status) : Type 0 where
  pub answer : Answer
  pub meant : IsMeant ws source answer
  pub delivered : Delivers answer out err s
