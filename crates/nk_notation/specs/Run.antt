-- A text that is translated piece by piece: what was read and written, and why a run ends.
use Rattle.std.specs.Prelude.{◌≡◌, ◌⊎◌, ◌<◌, ◌≤◌, ℕ, List, ◌++◌, length, None, Ok, Err}
use Rattle.std.specs.declared.result.Result.{Result}
use Rattle.std.specs.Io.KnownBytes.{Consumes, IsAtEnd}
use Rattle.nk_io.specs.Reading.{IsAllOf}
use Rattle.nk_reply.specs.Answer.{limit}
use Rattle.nk_reply.specs.Use.{FailedAt, HasRisen, IsQuiet, IsUntouched, Took, Use}
use Rattle.nk_number_forms.specs.declared.fault.Fault.{Fault}
use Rattle.nk_notation.specs.declared.pieces.Ending.{Ending}
use Rattle.nk_notation.specs.declared.pieces.Ending.TheVariants as ending
use Rattle.nk_notation.specs.Translation.{Translated, faulty, nothing, then_rest}

-- these bytes are the first ones of what is written
abbrev pub HasRest : (written : List ℕ) → Translated → Type 0
HasRest written t = (rest : List ℕ) × (t.bytes ≡ written ++ rest)

-- and of what is written of each text that begins so
abbrev pub BeginsEach : (List ℕ → Translated) → (text written : List ℕ) → Type 0
BeginsEach made text written = (more : List ℕ) → HasRest written (made (text ++ more))

-- all that was left was read, and what it comes to was written
pub record IsWhollyTranslated (made : List ℕ → Translated) (source out : Use) : Type 0 where
  pub text : List ℕ
  pub read : Consumes source.old source.new text
  pub end : IsAtEnd source.new
  pub left : IsAllOf source.old text
  pub fits : length text ≤ limit
  pub quiet : IsQuiet source
  pub sound : (made text).fault ≡ None
  pub taken : Took out (made text).bytes

-- A word of what was read is malformed: all before the word was written, and the word as it stands. Nothing that comes after changes
-- that; or nothing comes after.
pub record IsMalformedAt (made : List ℕ → Translated) (f : Fault) (source out : Use) : Type 0 where
  pub text : List ℕ
  pub read : Consumes source.old source.new text
  pub fits : length text ≤ limit
  pub quiet : IsQuiet source
  pub written : List ℕ
  pub refused : ((more : List ℕ) → made (text ++ more) ≡ faulty written f) ⊎ (IsAtEnd source.new × (made text ≡ faulty written f))
  pub taken : Took out written

-- the text was read up to a place; what was written begins what comes of each text that begins so
pub record IsCutOff (made : List ℕ → Translated) (out : Use) (text : List ℕ) : Type 0 where
  pub written : List ℕ
  pub begins : BeginsEach made text written
  pub taken : Took out written

-- the sink failed at bytes with which all that is written begins
pub record IsUnwritten (made : List ℕ → Translated) (source out : Use) : Type 0 where
  pub text : List ℕ
  pub read : Consumes source.old source.new text
  pub fits : length text ≤ limit
  pub quiet : IsQuiet source
  pub written : List ℕ
  pub begins : BeginsEach made text written ⊎ (IsAtEnd source.new × HasRest written (made text))
  pub failed : FailedAt out written

-- a text that was read up to a place
pub record IsReadTo (made : List ℕ → Translated) (source out : Use) : Type 0 where
  pub text : List ℕ
  pub read : Consumes source.old source.new text
  pub fits : length text ≤ limit
  pub so_far : IsCutOff made out text

-- The text can go on as one without a malformed word: none of its words is malformed, but that a word at its end may be, which can go on.
abbrev pub IsSoundSoFar : (List ℕ → Translated) → List ℕ → Type 0
IsSoundSoFar made text = (more : List ℕ) × ((made (text ++ more)).fault ≡ None)

-- a text that was read up to a place and can go on without a malformed word
pub record IsSoundTo (made : List ℕ → Translated) (source out : Use) : Type 0 where
  pub to : IsReadTo made source out
  pub sound : IsSoundSoFar made to.text

-- how many bytes one call of the source is asked for at most
abbrev pub piece_size : ℕ
piece_size = 4096

-- More bytes were read than an input may have: those of the text within the limit, and then those that go past it, at most a piece. The
-- text can go on without a malformed word.
pub record IsPastLimit (made : List ℕ → Translated) (source out : Use) : Type 0 where
  pub text : List ℕ
  pub rest : List ℕ
  pub read : Consumes source.old source.new (text ++ rest)
  pub past : limit < length (text ++ rest)
  pub near : length rest ≤ piece_size
  pub fits : length text ≤ limit
  pub so_far : IsCutOff made out text
  pub sound : IsSoundSoFar made text

-- why a run ends, and what was read and written
abbrev pub TranslationEnds : (List ℕ → Translated) → (source out : Use) → Ending → Type 0
TranslationEnds made source out ending.Done = IsWhollyTranslated made source out
TranslationEnds made source out (ending.Refused f) = IsMalformedAt made f source out
TranslationEnds made source out ending.ReadFault = IsSoundTo made source out × HasRisen source
TranslationEnds made source out ending.NoMemory = IsReadTo made source out × IsQuiet source
TranslationEnds made source out ending.TooLong = IsPastLimit made source out × IsQuiet source
TranslationEnds made source out ending.WriteFault = IsUnwritten made source out

-- A piece was taken, and what came of it was written. `whole` says what comes of the bytes from the piece on, and `rest` of those
-- after it.
abbrev pub Passes : {X : Type 0} → (whole rest : List ℕ → Translated) → (piece : List ℕ) → (out : Use) → Result X Ending → Type 0
Passes whole rest piece out (Ok x) =
    (written : List ℕ) × ((more : List ℕ) → whole (piece ++ more) ≡ then_rest written (rest more)) × Took out written
Passes whole rest piece out (Err (ending.Refused f)) =
    (written : List ℕ) × ((more : List ℕ) → whole (piece ++ more) ≡ faulty written f) × Took out written
Passes whole rest piece out (Err ending.WriteFault) =
    (written : List ℕ) × ((more : List ℕ) → HasRest written (whole (piece ++ more))) × FailedAt out written
Passes whole rest piece out (Err ending.NoMemory) = IsUntouched out
Passes whole rest piece out (Err e) = ⊥

-- the end of the text was taken, and what came of it was written
abbrev pub Finishes : (last : Translated) → (out : Use) → Ending → Type 0
Finishes last out ending.Done = (written : List ℕ) × (last ≡ then_rest written nothing) × Took out written
Finishes last out (ending.Refused f) = (written : List ℕ) × (last ≡ faulty written f) × Took out written
Finishes last out ending.WriteFault = (written : List ℕ) × HasRest written last × FailedAt out written
Finishes last out ending.NoMemory = IsUntouched out
Finishes last out e = ⊥

-- these bytes were written
abbrev pub AreBytesSent : {X : Type 0} → List ℕ → (out : Use) → Result X Ending → Type 0
AreBytesSent bytes out (Ok x) = Took out bytes
AreBytesSent bytes out (Err ending.WriteFault) = FailedAt out bytes
AreBytesSent bytes out (Err e) = ⊥
