-- A status and its text.
use Rattle.std.specs.Prelude.{ℕ, List, Bool, true, false, codes}
use Rattle.nk_reply.specs.declared.status.Status.{Status}
use Rattle.nk_reply.specs.declared.status.Status.TheVariants.{Done, Differs, Usage, Text, Refused}
use Rattle.nk_reply.specs.declared.status.Status.TheVariants.{ReadFault, NoMemory, TooLong}
use Rattle.nk_reply.specs.Outcome.{Outcome, done, differs, text_refused, policy_refused}

-- a status and its text
pub record Answer : Type 0 where
  pub status : Status
  pub text : List ℕ

abbrev pub answer : Status → List ℕ → Answer
answer s text = record { status = s; text = text }

-- the text goes to `out`, and nothing to `err`; else the other way round
abbrev pub goes_out : Status → Bool
goes_out Done = true
goes_out Differs = true
goes_out s = false

abbrev pub usage : Answer
usage = answer Usage (codes "usage: nk COMMAND ARGUMENTS\n")

abbrev pub read_fault : Answer
read_fault = answer ReadFault (codes "read fault\n")

abbrev pub no_memory : Answer
no_memory = answer NoMemory (codes "no memory\n")

abbrev pub too_long : Answer
too_long = answer TooLong (codes "too long\n")

-- how many bytes an input has at most
abbrev pub limit : ℕ
limit = 16777216

-- the status of each kind of answer that a command has
abbrev pub answer_of : Outcome → Answer
answer_of (done text) = answer Done text
answer_of (differs text) = answer Differs text
answer_of (text_refused text) = answer Text text
answer_of (policy_refused text) = answer Refused text
