-- How a run ends.
use Rattle.std.specs.Prelude.{◌≡◌, ◌⊎◌, ◌<◌, ◌≤◌, ℕ, List, [], ◌∷◌, length, Option, Some, None, codes}
use Rattle.std.specs.Io.KnownBytes.{IsAtEnd}
use Rattle.nk_io.specs.Reading.{GaveMore}
use Rattle.nk_reply.specs.declared.status.Status.{Status}
use Rattle.nk_reply.specs.declared.status.Status.TheVariants.{Done, Differs, Usage, Text, Refused}
use Rattle.nk_reply.specs.declared.status.Status.TheVariants.{ReadFault, WriteFault, NoMemory, TooLong}
use Rattle.nk_reply.specs.Answer.{Answer, answer, answer_of, limit, no_memory, read_fault, too_long}
use Rattle.nk_reply.specs.Outcome.{Outcome, done, differs, text_refused, policy_refused}
use Rattle.nk_reply.specs.Meant.{IsAnswerBy, IsFailedRead, IsFixedByInput, IsMeantBy, IsNoMemory}
use Rattle.nk_reply.specs.Sent.{Delivers, FailsIn, IsSentWhole}
use Rattle.nk_reply.specs.Use.{HadLeft, HasRisen, IsQuiet, IsUntouched, Use}
use Rattle.nk_change_impact.specs.Impact.{IsImpactAnswer}

-- two names
abbrev pub Names : Type 0
Names = List ℕ × List ℕ

-- the two names that words give, where they are two
abbrev pub names_in : List (List ℕ) → Option Names
names_in (left ∷ right ∷ []) = Some (left, right)
names_in words = None

-- the words are two names
abbrev pub AreNames : List (List ℕ) → Type 0
AreNames words = (names : Names) × (names_in words ≡ Some names)

-- the answer to words that aren't two
abbrev pub impact_usage : Answer
impact_usage = answer Usage (codes "usage: nk_impact LEFT RIGHT\n")

-- the answer that words and the bytes of an input fix
abbrev pub IsImpactAnswerOf : Option Names → List ℕ → Answer → Type 0
IsImpactAnswerOf (Some names) bytes a = IsAnswerBy (IsImpactAnswer names.0 names.1) bytes a
IsImpactAnswerOf None bytes a = a ≡ impact_usage

abbrev pub IsImpactAnswerTo : List (List ℕ) → List ℕ → Answer → Type 0
IsImpactAnswerTo words bytes a = IsImpactAnswerOf (names_in words) bytes a

-- the words are two names, and they and the input fix this answer; or the words aren't, they alone fix it, and nothing was read
abbrev pub IsImpactFixedBy : Option Names → Use → Answer → Type 0
IsImpactFixedBy (Some names) source a = IsFixedByInput (IsImpactAnswer names.0 names.1) source a
IsImpactFixedBy None source a = (a ≡ impact_usage) × IsUntouched source

-- Why a run means to give an answer: the words are two names, and the source fixes it, or could not be read, or memory ran out;
-- or they are not, and nothing was read.
abbrev pub IsImpactMeantTo : Option Names → Use → Answer → Type 0
IsImpactMeantTo (Some names) source a = IsMeantBy (IsImpactAnswer names.0 names.1) source a
IsImpactMeantTo None source a = IsImpactFixedBy None source a

-- the run meant an answer for a cause, and then sent it or failed at it
pub record Ends (words : List (List ℕ)) (source out err : Use) (s : Status) : Type 0 where
  pub answer : Answer
  pub meant : IsImpactMeantTo (names_in words) source answer
  pub delivered : Delivers answer out err s

-- the words are two names, all of the input was read, within the limit, it has an answer of this kind, and it was sent
pub record AnswersImpact (words : List (List ℕ)) (source out err : Use) (kind : List ℕ → Outcome)
    : Type 0 where
  pub names : Names
  pub bytes : List ℕ
  pub text : List ℕ
  pub given : names_in words ≡ Some names
  pub left : HadLeft source bytes
  pub fits : length bytes ≤ limit
  pub end : IsAtEnd source.new
  pub is_outcome : IsImpactAnswer names.0 names.1 bytes (kind text)
  pub quiet : IsQuiet source
  pub sent : IsSentWhole (answer_of (kind text)) out err

-- the words aren't two, nothing was read, and that was said
pub record IsUsage (words : List (List ℕ)) (source out err : Use) : Type 0 where
  pub none : names_in words ≡ None
  pub unread : IsUntouched source
  pub sent : IsSentWhole impact_usage out err

-- the words are two names, more bytes than the limit were left, and that was said
pub record IsTooLong (words : List (List ℕ)) (source out err : Use) : Type 0 where
  pub names : AreNames words
  pub bytes : List ℕ
  pub left : HadLeft source bytes
  pub longer : limit < length bytes
  pub given : GaveMore limit source.old source.new
  pub quiet : IsQuiet source
  pub sent : IsSentWhole too_long out err

-- a sink failed at the answer that was meant
pub record IsWriteFault (words : List (List ℕ)) (source out err : Use) : Type 0 where
  pub answer : Answer
  pub meant : IsImpactMeantTo (names_in words) source answer
  pub failed : FailsIn answer out err

-- the cause of each status
abbrev pub IsCaused : List (List ℕ) → Use → Use → Use → Status → Type 0
IsCaused words source out err Done = AnswersImpact words source out err done
IsCaused words source out err Differs = AnswersImpact words source out err differs
IsCaused words source out err Text = AnswersImpact words source out err text_refused
IsCaused words source out err Refused = AnswersImpact words source out err policy_refused
IsCaused words source out err Usage = IsUsage words source out err
IsCaused words source out err TooLong = IsTooLong words source out err
IsCaused words source out err ReadFault = AreNames words × IsFailedRead source read_fault × IsSentWhole read_fault out err
IsCaused words source out err NoMemory = AreNames words × IsNoMemory source no_memory × IsSentWhole no_memory out err
IsCaused words source out err WriteFault = IsWriteFault words source out err

-- the run ended with the answer that the words and the input fix
pub record EndsFixed (words : List (List ℕ)) (source out err : Use) (s : Status) : Type 0 where
  pub answer : Answer
  pub fixed : IsImpactFixedBy (names_in words) source answer
  pub status : s ≡ answer.status
  pub sent : IsSentWhole answer out err

-- where no count rose, the run ends with the answer that is fixed, or because memory ran out
abbrev pub IsComplete : List (List ℕ) → Use → Use → Use → Status → Type 0
IsComplete words source out err s = ¬ HasRisen source → ¬ HasRisen out → ¬ HasRisen err
    → (s ≡ NoMemory) ⊎ EndsFixed words source out err s

-- words that aren't two are said to be so, unless the sink fails, and no others are
abbrev pub TellsUsage : List (List ℕ) → Status → Type 0
TellsUsage words s = (s ≡ Usage → names_in words ≡ None) × (names_in words ≡ None → (s ≡ Usage) ⊎ (s ≡ WriteFault))
