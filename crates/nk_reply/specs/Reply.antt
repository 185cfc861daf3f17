-- What a run means to say, as an answer.
use Rattle.std.specs.Prelude.{◌≡◌, ◌⊎◌, ℕ, List, ⊤}
use Rattle.nk_reply.specs.declared.status.Status.{Status}
use Rattle.nk_reply.specs.declared.status.Status.TheVariants.{WriteFault}
use Rattle.nk_reply.specs.declared.reply.Reply.{Reply}
use Rattle.nk_reply.specs.declared.reply.Reply.TheVariants as reply
use Rattle.nk_reply.specs.declared.reply.CommandAnswer.{CommandAnswer}
use Rattle.nk_reply.specs.declared.reply.CommandAnswer.TheVariants as is_said
use Rattle.nk_reply.specs.Outcome.{Outcome, done, differs, text_refused, policy_refused}
use Rattle.nk_reply.specs.Answer.{Answer, answer_of, no_memory, read_fault, too_long, usage}
use Rattle.nk_reply.specs.Use.{FailedAt, Took, Use}

-- the kind of answer, and its text
abbrev pub outcome_of : CommandAnswer → Outcome
outcome_of (is_said.Done text) = done text.items
outcome_of (is_said.Differs text) = differs text.items
outcome_of (is_said.Text text) = text_refused text.items
outcome_of (is_said.Refused text) = policy_refused text.items

-- the answer in a reply
abbrev pub answer_in : Reply → Answer
answer_in (reply.CommandAnswer s) = answer_of (outcome_of s)
answer_in reply.Usage = usage
answer_in reply.ReadFault = read_fault
answer_in reply.NoMemory = no_memory
answer_in reply.TooLong = too_long

-- all of the bytes went out, or the sink failed at them
abbrev pub IsDelivered : Use → List ℕ → Status → Status → Type 0
IsDelivered sink bytes s result =
    ((result ≡ s) × Took sink bytes) ⊎ ((result ≡ WriteFault) × FailedAt sink bytes)

-- the reply is one of these outcomes, or memory ran out
abbrev pub IsReplyOf : (Outcome → Type 0) → Reply → Type 0
IsReplyOf P (reply.CommandAnswer s) = P (outcome_of s)
IsReplyOf P reply.NoMemory = ⊤
IsReplyOf P r = ⊥
