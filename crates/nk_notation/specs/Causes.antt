-- When each status comes.
use Rattle.std.specs.Prelude.{◌≡◌, ◌⊎◌, ◌≤◌, ℕ, List, Option, Some, None, codes, length}
use Rattle.nk_reply.specs.Answer.{limit}
use Rattle.nk_reply.specs.declared.status.Status.{Status}
use Rattle.nk_reply.specs.declared.status.Status.TheVariants.{Done, Usage, Text, ReadFault, WriteFault, NoMemory, TooLong}
use Rattle.nk_reply.specs.Use.{FailedAt, HasRisen, IsQuiet, IsUntouched, Took, Use}
use Rattle.nk_number_forms.specs.declared.fault.Fault.{Fault}
use Rattle.nk_number_forms.specs.Faults.{notation_fault_line}
use Rattle.nk_notation.specs.Answer.{address_usage, translation_by}
use Rattle.nk_notation.specs.Run.{IsMalformedAt, IsPastLimit, IsReadTo, IsSoundTo, IsUnwritten, IsWhollyTranslated}
use Rattle.nk_notation.specs.Translation.{Translated}
use Rattle.nk_notation.specs.Words.{Direction}

-- the words ask for a translation of which this holds
abbrev pub IsOfAsked : Option Direction → ((List ℕ → Translated) → Type 0) → Type 0
IsOfAsked asked holds = (d : Direction) × (asked ≡ Some d) × holds (translation_by d)

-- the cause for which a line is told with a status
abbrev pub IsLineMeant : Option Direction → (source out : Use) → Status → List ℕ → Type 0
IsLineMeant asked source out Usage line = (asked ≡ None) × IsUntouched source × IsUntouched out × (line ≡ address_usage)
IsLineMeant asked source out Text line =
    (f : Fault) × IsOfAsked asked (λ made. IsMalformedAt made f source out) × (line ≡ notation_fault_line f)
IsLineMeant asked source out ReadFault line =
    IsOfAsked asked (λ made. IsSoundTo made source out) × HasRisen source × (line ≡ codes "read fault\n")
IsLineMeant asked source out NoMemory line =
    ((IsOfAsked asked (λ made. IsReadTo made source out) × IsQuiet source) ⊎ (IsUntouched source × IsUntouched out))
    × (line ≡ codes "no memory\n")
IsLineMeant asked source out TooLong line =
    IsOfAsked asked (λ made. IsPastLimit made source out) × IsQuiet source × (line ≡ codes "too long\n")
IsLineMeant asked source out s line = ⊥

-- The cause of each status: the whole text was written, a sink failed at the text or at a line, or a line was told.
abbrev pub IsCaused : Option Direction → (source out err : Use) → Status → Type 0
IsCaused asked source out err Done = IsOfAsked asked (λ made. IsWhollyTranslated made source out) × IsUntouched err
IsCaused asked source out err WriteFault =
    (IsOfAsked asked (λ made. IsUnwritten made source out) × IsUntouched err)
    ⊎ ((meant : Status) × (line : List ℕ) × IsLineMeant asked source out meant line × FailedAt err line)
IsCaused asked source out err s = (line : List ℕ) × IsLineMeant asked source out s line × Took err line

-- a fault is told only where a call failed
abbrev pub TellsFailedCalls : (source out err : Use) → Status → Type 0
TellsFailedCalls source out err s =
    (¬ HasRisen source → ¬ (s ≡ ReadFault)) × (¬ HasRisen out → ¬ HasRisen err → ¬ (s ≡ WriteFault))

-- words that ask for no translation are said to be so, unless the sink fails or memory runs out, and no others are
abbrev pub TellsWrongWords : Option Direction → Status → Type 0
TellsWrongWords asked s = (s ≡ Usage → asked ≡ None) × (asked ≡ None → (s ≡ Usage) ⊎ ((s ≡ WriteFault) ⊎ (s ≡ NoMemory)))

-- the status of a text by what comes of it: `Done`, or `Text` where a word is malformed; or memory ran out
abbrev pub IsTextStatus : Translated → Status → Type 0
IsTextStatus t s = (s ≡ NoMemory) ⊎ (((s ≡ Done) × (t.fault ≡ None)) ⊎ ((s ≡ Text) × ((f : Fault) × (t.fault ≡ Some f))))

-- Where the words ask for a translation, the source tells the bytes that it has left, these are within the limit and no call fails,
-- the status is the one that the text has.
abbrev pub TranslatesWhole : Option Direction → (source out err : Use) → Status → Type 0
TranslatesWhole asked source out err s = (d : Direction) (bytes : List ℕ) → asked ≡ Some d → source.old ≡ Some bytes → length bytes ≤ limit
    → ¬ HasRisen source → ¬ HasRisen out → ¬ HasRisen err → IsTextStatus (translation_by d bytes) s
