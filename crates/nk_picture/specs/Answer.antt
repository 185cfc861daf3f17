-- The answer that words and the bytes of a text fix.
use Rattle.std.specs.Prelude.{◌≡◌, ◌⊎◌, ℕ, Bool, true, false, Ok, Err, List, ◌++◌, codes, decimal}
use Rattle.std.specs.declared.result.Result.{Result}
use Rattle.nk_names.specs.ProgramOf.{DeclaredProgram}
use Rattle.nk_input.specs.ProgramText.{Declares, HasFault}
use Rattle.nk_reply.specs.declared.status.Status.TheVariants.{Refused}
use Rattle.nk_reply.specs.Answer.{Answer, answer, no_memory}
use Rattle.nk_reply.specs.Meant.{IsMeantBy}
use Rattle.nk_reply.specs.Outcome.{Outcome, done, differs, text_refused, policy_refused}
use Rattle.nk_reply.specs.Sent.{Delivers}
use Rattle.nk_reply.specs.Use.{IsUntouched, Use}
use Rattle.nk_reply.specs.declared.status.Status.{Status}
use Rattle.nk_picture.specs.declared.way.Place.{Place}
use Rattle.nk_picture.specs.Drawing.{drawing}
use Rattle.nk_picture.specs.Way.{way_of_words}

-- the line that tells which word is no packet
abbrev pub word_line : ℕ → List ℕ
word_line n = codes "word " ++ decimal n ++ codes ": bad packet\n"

-- the bytes declare a network, and the text draws it with the way
pub record IsDrawn (way : List Place) (bytes text : List ℕ) : Type 0 where
  pub program : DeclaredProgram
  pub declares : Declares bytes program
  pub drawn : text ≡ drawing program.topo way

-- what a way and a text's bytes have as outcome: the drawing of both, or the line of the text's first fault
abbrev pub IsOutcomeOf : List Place → List ℕ → Outcome → Type 0
IsOutcomeOf way bytes (done text) = IsDrawn way bytes text
IsOutcomeOf way bytes (differs text) = ⊥
IsOutcomeOf way bytes (text_refused text) = HasFault bytes text
IsOutcomeOf way bytes (policy_refused text) = ⊥

-- nothing was read, and the line tells that this word is none, or memory ran out
pub record IsWordRefused (n : ℕ) (source : Use) (a : Answer) : Type 0 where
  pub unread : IsUntouched source
  pub answer : (a ≡ answer Refused (word_line n)) ⊎ (a ≡ no_memory)

-- why a run means to give an answer to a way, or to the number of a word that is none
abbrev pub IsMeantWith : Result (List Place) ℕ → Use → Answer → Type 0
IsMeantWith (Ok way) source a = IsMeantBy (IsOutcomeOf way) source a
IsMeantWith (Err n) source a = IsWordRefused n source a

-- whether the text is asked for: it is for a way, and isn't where a word is none
abbrev pub asks_for_text : Result (List Place) ℕ → Bool
asks_for_text (Ok way) = true
asks_for_text (Err n) = false

-- an answer was meant for its cause, and then it was sent or its sink failed at it
pub record Ends (words : List (List ℕ)) (source out err : Use) (s : Status) : Type 0 where
  pub answer : Answer
  pub meant : IsMeantWith (way_of_words words) source answer
  pub delivered : Delivers answer out err s
