-- How a run ends.
use Rattle.std.specs.Prelude.{◌≡◌, ◌⊎◌, ◌<◌, ◌≤◌, ℕ, List, [], length, Bool, true, false, Option, Some, None}
use Rattle.std.specs.Io.KnownBytes.{IsAtEnd, Keeps}
use Rattle.nk_io.specs.Reading.{GaveMore, GaveWithin}
use Rattle.nk_words.specs.Words.{command_of}
use Rattle.nk_words.specs.declared.words.Command.{Command}
use Rattle.nk_reply.specs.declared.status.Status.{Status}
use Rattle.nk_reply.specs.declared.status.Status.TheVariants.{Done, Differs, Usage, Text, Refused}
use Rattle.nk_reply.specs.declared.status.Status.TheVariants.{ReadFault, WriteFault, NoMemory, TooLong}
use Rattle.nk_reply.specs.Outcome.{Outcome, done, differs, text_refused, policy_refused}
use Rattle.nk_reply.specs.Answer.{Answer, answer_of, limit, no_memory, read_fault, too_long, usage}
use Rattle.nk_reply.specs.Meant.{IsNoMemory, IsReadWhere}
use Rattle.nk_reply.specs.Sent.{Delivers, FailsIn, IsSentWhole}
use Rattle.nk_reply.specs.Use.{HadLeft, HasRisen, IsQuiet, IsUntouched, Use}
use Rattle.nk.specs.Answer.{IsAnswerTo, IsOutcome, reads}

-- whether the words ask for the input: they are a command that reads it
abbrev pub asks_for_input : Option Command → Bool
asks_for_input None = false
asks_for_input (Some c) = reads c

-- What was read for an answer with this status, where the words ask for the input or do not.
abbrev pub IsReadFor : Option Command → Use → Status → Type 0
IsReadFor c source s = IsReadWhere (asks_for_input c) source s

-- the command and the input fix this answer
pub record IsFixedBy (c : Option Command) (source : Use) (a : Answer) : Type 0 where
  pub bytes : List ℕ
  pub left : HadLeft source bytes
  pub answer : IsAnswerTo c bytes a
  pub read : IsReadFor c source a.status
  pub quiet : IsQuiet source

-- a call of the source failed while the input of a command that reads it was read
pub record IsReadFault (c : Option Command) (source : Use) (a : Answer) : Type 0 where
  pub answer : a ≡ read_fault
  pub rose : HasRisen source
  pub asks : asks_for_input c ≡ true
  pub given : GaveWithin limit source.old source.new

-- Why a run means to give an answer with this status. A failed write is no answer.
abbrev pub IsCauseTo : Status → Option Command → Use → Answer → Type 0
IsCauseTo ReadFault c source a = IsReadFault c source a
IsCauseTo NoMemory c source a = IsNoMemory source a
IsCauseTo WriteFault c source a = ⊥
IsCauseTo s c source a = IsFixedBy c source a

-- why a run means to give the answer to this command
abbrev pub IsMeantTo : Option Command → Use → Answer → Type 0
IsMeantTo c source a = IsCauseTo a.status c source a

-- why a run means to give the answer to these words: the source failed, memory ran out, or it is
-- the one that the words and the input fix
abbrev pub IsMeant : List (List ℕ) → Use → Answer → Type 0
IsMeant words source a = IsMeantTo (command_of words) source a

-- the run meant an answer for a cause, and then sent it or failed at it
pub record Ends (words : List (List ℕ)) (source out err : Use) (s : Status) : Type 0 where
  pub answer : Answer
  pub meant : IsMeant words source answer
  pub delivered : Delivers answer out err s

-- the bytes are all that was left, within the limit, and all of them were read
pub record IsWholeInput (source : Use) (bytes : List ℕ) : Type 0 where
  pub left : HadLeft source bytes
  pub fits : length bytes ≤ limit
  pub end : IsAtEnd source.new

-- there are no bytes, and nothing was read
pub record IsNoInput (source : Use) (bytes : List ℕ) : Type 0 where
  pub none : bytes ≡ []
  pub unread : Keeps source.old source.new

-- the bytes that a command was done to, where it reads the input and where it doesn't
abbrev pub IsInput : Bool → Use → List ℕ → Type 0
IsInput true source bytes = IsWholeInput source bytes
IsInput false source bytes = IsNoInput source bytes

-- the words are a command that has an answer of this kind to all of the input, or to no bytes where it doesn't read, and it was
-- sent
pub record Answers (words : List (List ℕ)) (source out err : Use) (kind : List ℕ → Outcome)
    : Type 0 where
  pub command : Command
  pub bytes : List ℕ
  pub text : List ℕ
  pub given : command_of words ≡ Some command
  pub input : IsInput (reads command) source bytes
  pub is_outcome : IsOutcome command bytes (kind text)
  pub quiet : IsQuiet source
  pub sent : IsSentWhole (answer_of (kind text)) out err

-- the words are no command, nothing was read, and that was said
pub record IsUsage (words : List (List ℕ)) (source out err : Use) : Type 0 where
  pub none : command_of words ≡ None
  pub unread : IsUntouched source
  pub sent : IsSentWhole usage out err

-- the words are a command that reads, more bytes than the limit were left, and that was said
pub record IsTooLong (words : List (List ℕ)) (source out err : Use) : Type 0 where
  pub asks : asks_for_input (command_of words) ≡ true
  pub bytes : List ℕ
  pub left : HadLeft source bytes
  pub longer : limit < length bytes
  pub given : GaveMore limit source.old source.new
  pub quiet : IsQuiet source
  pub sent : IsSentWhole too_long out err

-- a sink failed at the answer that was meant
pub record IsWriteFault (words : List (List ℕ)) (source out err : Use) : Type 0 where
  pub answer : Answer
  pub meant : IsMeant words source answer
  pub failed : FailsIn answer out err

-- the cause of each status
abbrev pub IsCaused : List (List ℕ) → Use → Use → Use → Status → Type 0
IsCaused words source out err Done = Answers words source out err done
IsCaused words source out err Differs = Answers words source out err differs
IsCaused words source out err Text = Answers words source out err text_refused
IsCaused words source out err Refused = Answers words source out err policy_refused
IsCaused words source out err Usage = IsUsage words source out err
IsCaused words source out err TooLong = IsTooLong words source out err
IsCaused words source out err ReadFault =
    IsReadFault (command_of words) source read_fault × IsSentWhole read_fault out err
IsCaused words source out err NoMemory = IsNoMemory source no_memory × IsSentWhole no_memory out err
IsCaused words source out err WriteFault = IsWriteFault words source out err

-- the run ended with the answer that the words and the input fix
pub record EndsFixed (words : List (List ℕ)) (source out err : Use) (s : Status) : Type 0 where
  pub answer : Answer
  pub fixed : IsFixedBy (command_of words) source answer
  pub status : s ≡ answer.status
  pub sent : IsSentWhole answer out err

-- where no count rose, the run ends with the answer that is fixed, or because memory ran out
abbrev pub IsComplete : List (List ℕ) → Use → Use → Use → Status → Type 0
IsComplete words source out err s = ¬ HasRisen source → ¬ HasRisen out → ¬ HasRisen err
    → (s ≡ NoMemory) ⊎ EndsFixed words source out err s

-- What failed is told. The counts were below their last value.
pub record TellsFaults (source out err : Use) (s : Status) : Type 0 where
  -- A failed read is never taken for the end of the input: the run says so, or fails at saying so.
  pub read : source.before < source.now
      → ((s ≡ ReadFault) × IsSentWhole read_fault out err)
      ⊎ ((s ≡ WriteFault) × FailsIn read_fault out err)
  pub write : (out.before < out.now) ⊎ (err.before < err.now) → s ≡ WriteFault
