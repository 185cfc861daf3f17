-- What a run answers.
use Rattle.std.specs.Prelude.{◌≡◌, ◌⊎◌, ℕ, List, codes, Option, Some, None, Ok, Err}
use Rattle.std.specs.declared.result.Result.{Result}
use Rattle.nk_reply.specs.declared.status.Status.{Status}
use Rattle.nk_reply.specs.declared.status.Status.TheVariants as status
use Rattle.nk_reply.specs.Reply.{IsDelivered}
use Rattle.nk_reply.specs.Use.{FailedAt, IsUntouched, Took, Use}
use Rattle.nk_notation.specs.declared.context.TextKind.TheVariants as kind
use Rattle.nk_notation.specs.declared.outward.Spot.TheVariants as spot
use Rattle.nk_notation.specs.declared.pieces.Ending.{Ending}
use Rattle.nk_notation.specs.declared.pieces.Ending.TheVariants as ending
use Rattle.nk_number_forms.specs.Faults.{notation_fault_line}
use Rattle.nk_notation.specs.Inward.{inward, text_start}
use Rattle.nk_notation.specs.Lexemes.{lexemes_of}
use Rattle.nk_notation.specs.Outward.{NamedForms, outward}
use Rattle.nk_notation.specs.Run.{TranslationEnds}
use Rattle.nk_notation.specs.Translation.{Translated}
use Rattle.nk_notation.specs.Words.{Direction, inwards, outwards}

-- a text with its addresses as numbers
abbrev pub inward_text : List ℕ → Translated
inward_text text = inward text_start (lexemes_of text)

-- a text with the values of these fields as addresses
abbrev pub outward_text : NamedForms → List ℕ → Translated
outward_text fields text = outward fields kind.Unknown spot.Nothing (lexemes_of text)

-- what a translation makes of a text
abbrev pub translation_by : Direction → List ℕ → Translated
translation_by inwards text = inward_text text
translation_by (outwards fields) text = outward_text fields text

-- What is told on `err` after a translation, and the status. A malformed word is told with its line.
abbrev pub Tells : Ending → (err : Use) → Status → Type 0
Tells ending.Done err s = (s ≡ status.Done) × IsUntouched err
Tells (ending.Refused f) err s = IsDelivered err (notation_fault_line f) status.Text s
Tells ending.ReadFault err s = IsDelivered err (codes "read fault\n") status.ReadFault s
Tells ending.NoMemory err s = IsDelivered err (codes "no memory\n") status.NoMemory s
Tells ending.TooLong err s = IsDelivered err (codes "too long\n") status.TooLong s
Tells ending.WriteFault err s = (s ≡ status.WriteFault) × IsUntouched err

abbrev pub address_usage : List ℕ
address_usage = codes "usage: nk_address in | nk_address out FIELD=KIND ..\n"

-- a text was translated, and it was told how that ended
pub record IsTranslated (made : List ℕ → Translated) (source out err : Use) (s : Status) : Type 0 where
  pub ending : Ending
  pub ends : TranslationEnds made source out ending
  pub tells : Tells ending err s

-- Nothing was read and no read failed, and nothing was written to `out`. The words are those of no translation, or memory ran out at
-- them.
pub record IsUnasked (line : List ℕ) (meant : Status) (source out err : Use) (s : Status) : Type 0 where
  pub unread : IsUntouched source
  pub untouched : IsUntouched out
  pub told : IsDelivered err line meant s

abbrev pub AnswersBy : Option Direction → (source out err : Use) → Status → Type 0
AnswersBy None source out err s = IsUnasked address_usage status.Usage source out err s
AnswersBy (Some d) source out err s = IsTranslated (translation_by d) source out err s

-- what a run with these words does
abbrev pub AnswersTranslation : Option Direction → (source out err : Use) → Status → Type 0
AnswersTranslation d source out err s = AnswersBy d source out err s ⊎ IsUnasked (codes "no memory\n") status.NoMemory source out err s

-- the bytes went out, or the sink failed at them
abbrev pub AreBytesWritten : {X E : Type 0} → List ℕ → (sink : Use) → Result X E → Type 0
AreBytesWritten bytes sink (Ok x) = Took sink bytes
AreBytesWritten bytes sink (Err e) = FailedAt sink bytes
