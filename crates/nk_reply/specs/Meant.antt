-- Why a run that reads all of its input means to give its answer.
use Rattle.std.specs.Prelude.{◌≡◌, ℕ, List, length, Bool, true, false, MatchBool, nat_lt}
use Rattle.std.specs.Io.KnownBytes.{IsAtEnd, Keeps}
use Rattle.nk_io.specs.Reading.{GaveMore, GaveWithin}
use Rattle.nk_reply.specs.declared.status.Status.{Status}
use Rattle.nk_reply.specs.declared.status.Status.TheVariants.{ReadFault, WriteFault, NoMemory, TooLong}
use Rattle.nk_reply.specs.Answer.{Answer, answer_of, limit, no_memory, read_fault, too_long}
use Rattle.nk_reply.specs.Outcome.{Outcome}
use Rattle.nk_reply.specs.Use.{HadLeft, HasRisen, IsQuiet, Use}

-- What was read for an answer with this status, where the input is asked for and where it is not: nothing where it is not,
-- more than the limit where that is the answer, and else all that was left.
abbrev pub IsReadWhere : Bool → Use → Status → Type 0
IsReadWhere false source s = Keeps source.old source.new
IsReadWhere true source TooLong = GaveMore limit source.old source.new
IsReadWhere true source s = IsAtEnd source.new

-- memory ran out, and no call of the source failed
pub record IsNoMemory (source : Use) (a : Answer) : Type 0 where
  pub answer : a ≡ no_memory
  pub quiet : IsQuiet source
  pub given : GaveWithin limit source.old source.new

-- a call of the source failed
pub record IsFailedRead (source : Use) (a : Answer) : Type 0 where
  pub answer : a ≡ read_fault
  pub rose : HasRisen source
  pub given : GaveWithin limit source.old source.new

-- the source gave more bytes than an input has
pub record IsLongInput (source : Use) (a : Answer) : Type 0 where
  pub answer : a ≡ too_long
  pub quiet : IsQuiet source
  pub given : GaveMore limit source.old source.new

-- Why a run means to say with this status that its input was not read to its end.
abbrev pub IsUnreadAs : Status → Use → Answer → Type 0
IsUnreadAs ReadFault source a = IsFailedRead source a
IsUnreadAs NoMemory source a = IsNoMemory source a
IsUnreadAs TooLong source a = IsLongInput source a
IsUnreadAs s source a = ⊥

-- not all of the input was read, and the answer says why
abbrev pub IsUnread : Use → Answer → Type 0
IsUnread source a = IsUnreadAs a.status source a

-- the answer to these bytes, where those within the limit have these outcomes
abbrev pub IsAnswerBy : (List ℕ → Outcome → Type 0) → List ℕ → Answer → Type 0
IsAnswerBy O bytes a =
    MatchBool (nat_lt limit (length bytes)) (a ≡ too_long) ((outcome : Outcome) × O bytes outcome × (a ≡ answer_of outcome))

-- the input fixes this answer
pub record IsFixedByInput (O : List ℕ → Outcome → Type 0) (source : Use) (a : Answer) : Type 0 where
  pub bytes : List ℕ
  pub left : HadLeft source bytes
  pub answer : IsAnswerBy O bytes a
  pub read : IsReadWhere true source a.status
  pub quiet : IsQuiet source

-- Why a run that reads its input means to give an answer with this status. A failed write is no answer.
abbrev pub IsCauseBy : Status → (List ℕ → Outcome → Type 0) → Use → Answer → Type 0
IsCauseBy ReadFault O source a = IsFailedRead source a
IsCauseBy NoMemory O source a = IsNoMemory source a
IsCauseBy WriteFault O source a = ⊥
IsCauseBy s O source a = IsFixedByInput O source a

-- why a run that reads its input means to give this answer, where bytes within the limit have these outcomes
abbrev pub IsMeantBy : (List ℕ → Outcome → Type 0) → Use → Answer → Type 0
IsMeantBy O source a = IsCauseBy a.status O source a
