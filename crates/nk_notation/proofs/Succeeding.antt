-- What the status is where no call fails.
use Rattle.std.proofs.Common.{◌≡◌, ◌⊎◌, ◌<◌, ◌≤◌, ◌+◌, ◌++◌, ℕ, List, Option, length, sym, ap, ◌∙◌, inl, inr, subst, arith, append-nil, length-append}
use Rattle.std.specs.Prelude.{Some, None}
use Rattle.std.specs.Io.KnownBytes.{Consumes, IsAtEnd}
use Rattle.nk_reply.specs.declared.status.Status.{Status}
use Rattle.nk_reply.specs.declared.status.Status.TheVariants.{NoMemory}
use Rattle.nk_reply.specs.declared.status.Status.TheVariants as status
use Rattle.nk_reply.specs.Answer.{limit}
use Rattle.nk_reply.specs.Reply.{IsDelivered}
use Rattle.nk_reply.specs.Use.{HasRisen, Use}
use Rattle.nk_number_forms.specs.declared.fault.Fault.{Fault}
use Rattle.nk_notation.specs.Answer.{AnswersTranslation, Tells, translation_by}
use Rattle.nk_notation.specs.Causes.{IsTextStatus, TranslatesWhole}
use Rattle.nk_notation.specs.Run.{TranslationEnds}
use Rattle.nk_notation.specs.Translation.{Translated, faulty}
use Rattle.nk_notation.specs.Words.{Direction}
use Rattle.nk_notation.specs.declared.pieces.Ending.{Ending}
use Rattle.nk_notation.specs.declared.pieces.Ending.TheVariants as ending

-- what was delivered has the status that was meant, where the sink didn't fail
told : (err : Use) (line : List ℕ) (meant s : Status) → ¬ HasRisen err → IsDelivered err line meant s → s ≡ meant
told err line meant s quiet (inl t) = t.0
told err line meant s quiet (inr f) = absurd (quiet f.1.rose)

-- the bytes that are left are those that were read and the others
bytes_are : (new : Option (List ℕ)) (bytes text : List ℕ) → Consumes (Some bytes) new text → (more : List ℕ) × (bytes ≡ text ++ more)
bytes_are None bytes text c = absurd c
bytes_are (Some ys) bytes text c = (ys, c)

bytes_end : (new : Option (List ℕ)) (bytes text : List ℕ) → Consumes (Some bytes) new text → IsAtEnd new → bytes ≡ text
bytes_end None bytes text c e = absurd c
bytes_end (Some ys) bytes text c e = c ∙ ap (λ l. text ++ l) e ∙ append-nil text

-- a word of the text is malformed
malformed : (made : List ℕ → Translated) (f : Fault) (new : Option (List ℕ)) (bytes text written : List ℕ) → Consumes (Some bytes) new text
    → ((more : List ℕ) → made (text ++ more) ≡ faulty written f) ⊎ (IsAtEnd new × (made text ≡ faulty written f)) → (made bytes).fault ≡ Some f
malformed made f new bytes text written c (inl all) =
    let rest = bytes_are new bytes text c in ap (λ l. (made l).fault) rest.1 ∙ ap (λ t. t.fault) (all rest.0)
malformed made f new bytes text written c (inr e) = ap (λ l. (made l).fault) (bytes_end new bytes text c e.0) ∙ ap (λ t. t.fault) e.1

-- a text within the limit isn't too long
not_past : (new : Option (List ℕ)) (bytes text : List ℕ) → Consumes (Some bytes) new text → limit < length text → length bytes ≤ limit → ⊥
not_past new bytes text c past fits =
    let rest = bytes_are new bytes text c in
    let count : length bytes ≡ length text + length rest.0 = ap length rest.1 ∙ length-append text rest.0 in
    omega (arith, count, past, fits)

ended : (made : List ℕ → Translated) (new out_old out_new : Option (List ℕ)) (bytes : List ℕ) (sb sn ob on : ℕ) (err : Use) (s : Status) (e : Ending)
    → TranslationEnds made (record { old = Some bytes; new = new; before = sb; now = sn }) (record { old = out_old; new = out_new; before = ob; now = on }) e
    → Tells e err s → length bytes ≤ limit
    → ¬ HasRisen (record { old = Some bytes; new = new; before = sb; now = sn }) → ¬ HasRisen (record { old = out_old; new = out_new; before = ob; now = on })
    → ¬ HasRisen err → IsTextStatus (made bytes) s
ended made new out_old out_new bytes sb sn ob on err s ending.Done ends t fits qs qo qe =
    inr (inl (t.0, ap (λ l. (made l).fault) (sym ends.left) ∙ ends.sound))
ended made new out_old out_new bytes sb sn ob on err s (ending.Refused f) ends t fits qs qo qe =
    inr (inr (told err _ status.Text s qe t, (f, malformed made f new bytes ends.text ends.written ends.read ends.refused)))
ended made new out_old out_new bytes sb sn ob on err s ending.ReadFault ends t fits qs qo qe = absurd (qs ends.1)
ended made new out_old out_new bytes sb sn ob on err s ending.NoMemory ends t fits qs qo qe = inl (told err _ NoMemory s qe t)
ended made new out_old out_new bytes sb sn ob on err s ending.TooLong ends t fits qs qo qe =
    absurd (not_past new bytes (ends.0.text ++ ends.0.rest) ends.0.read ends.0.past fits)
ended made new out_old out_new bytes sb sn ob on err s ending.WriteFault ends t fits qs qo qe = absurd (qo ends.failed.rose)

of_some : (d : Direction) (source out err : Use) (bytes : List ℕ) (s : Status) → AnswersTranslation (Some d) source out err s → source.old ≡ Some bytes
    → length bytes ≤ limit → ¬ HasRisen source → ¬ HasRisen out → ¬ HasRisen err → IsTextStatus (translation_by d bytes) s
of_some d source out err bytes s (inr u) old fits qs qo qe = inl (told err _ NoMemory s qe u.told)
of_some d source out err bytes s (inl a) old fits qs qo qe =
    ended (translation_by d) source.new out.old out.new bytes source.before source.now out.before out.now err s a.ending
    (subst (λ o. TranslationEnds (translation_by d) (record { old = o; new = source.new; before = source.before; now = source.now }) out a.ending) old a.ends)
    a.tells fits qs qo qe

pub succeeds : (asked : Option Direction) (source out err : Use) (s : Status) → AnswersTranslation asked source out err s → TranslatesWhole asked source out err s
succeeds asked source out err s h d bytes given old fits qs qo qe =
    of_some d source out err bytes s (subst (λ a. AnswersTranslation a source out err s) given h) old fits qs qo qe
