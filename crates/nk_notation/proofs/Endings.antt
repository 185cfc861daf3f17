-- What follows from how a run ends.
use Rattle.std.proofs.Common.{◌≡◌, ◌⊎◌, ◌<◌, ℕ, List, refl, sym, inl, inr, subst, arith, Option}
use Rattle.std.specs.Prelude.{Some, None, codes}
use Rattle.nk_reply.specs.declared.status.Status.{Status}
use Rattle.nk_reply.specs.declared.status.Status.TheVariants.{Done, Differs, Usage, Text, Refused, ReadFault, WriteFault, NoMemory, TooLong}
use Rattle.nk_reply.specs.Reply.{IsDelivered}
use Rattle.nk_reply.specs.Use.{IsUntouched, Took, Use}
use Rattle.nk_number_forms.specs.Faults.{notation_fault_line}
use Rattle.nk_notation.specs.Answer.{AnswersTranslation, Tells, address_usage, translation_by}
use Rattle.nk_notation.specs.Causes.{IsCaused, IsLineMeant, TellsFailedCalls, TellsWrongWords}
use Rattle.nk_notation.specs.Run.{TranslationEnds}
use Rattle.nk_notation.specs.Translation.{Translated}
use Rattle.nk_notation.specs.Words.{Direction}
use Rattle.nk_notation.specs.declared.pieces.Ending.{Ending}
use Rattle.nk_notation.specs.declared.pieces.Ending.TheVariants as ending

module _ (asked : Option Direction) (source out err : Use) where
  sent : (meant : Status) (line : List ℕ) → IsLineMeant asked source out meant line → Took err line → IsCaused asked source out err meant
  sent Done line m t = absurd m
  sent Differs line m t = absurd m
  sent Refused line m t = absurd m
  sent WriteFault line m t = absurd m
  sent meant line m t = (line, m, t)

  -- a line that was meant went out, or its sink failed at it
  line_caused : (meant s : Status) (line : List ℕ) → IsLineMeant asked source out meant line → IsDelivered err line meant s
      → IsCaused asked source out err s
  line_caused meant s line m (inl t) = subst (λ x. IsCaused asked source out err x) (sym t.0) (sent meant line m t.1)
  line_caused meant s line m (inr f) = subst (λ x. IsCaused asked source out err x) (sym f.0) (inr (meant, line, m, f.1))

  ending_caused : (d : Direction) → asked ≡ Some d → (s : Status) (e : Ending) → TranslationEnds (translation_by d) source out e → Tells e err s
      → IsCaused asked source out err s
  ending_caused d given s ending.Done ends t = subst (λ x. IsCaused asked source out err x) (sym t.0) ((d, given, ends), t.1)
  ending_caused d given s ending.WriteFault ends t = subst (λ x. IsCaused asked source out err x) (sym t.0) (inl ((d, given, ends), t.1))
  ending_caused d given s (ending.Refused f) ends t = line_caused Text s (notation_fault_line f) (f, (d, given, ends), refl) t
  ending_caused d given s ending.ReadFault ends t = line_caused ReadFault s (codes "read fault\n") ((d, given, ends.0), ends.1, refl) t
  ending_caused d given s ending.NoMemory ends t = line_caused NoMemory s (codes "no memory\n") (inl ((d, given, ends.0), ends.1), refl) t
  ending_caused d given s ending.TooLong ends t = line_caused TooLong s (codes "too long\n") ((d, given, ends.0), ends.1, refl) t

-- each status has its cause
pub caused : (asked : Option Direction) (source out err : Use) (s : Status) → AnswersTranslation asked source out err s → IsCaused asked source out err s
caused None source out err s (inl u) = line_caused None source out err Usage s address_usage (refl, u.unread, u.untouched, refl) u.told
caused (Some d) source out err s (inl a) = ending_caused (Some d) source out err d refl s a.ending a.ends a.tells
caused asked source out err s (inr u) = line_caused asked source out err NoMemory s (codes "no memory\n") (inr (u.unread, u.untouched), refl) u.told

-- a fault is told only where a call failed
pub tells_faults : (asked : Option Direction) (source out err : Use) (s : Status) → AnswersTranslation asked source out err s → TellsFailedCalls source out err s
tells_faults asked source out err s h = (
  λ quiet e. quiet ((subst (λ x. IsCaused asked source out err x) e (caused asked source out err s h)).1.1),
  λ out_quiet err_quiet e. elim (subst (λ x. IsCaused asked source out err x) e (caused asked source out err s h)) [
    | inl u ↦ out_quiet (u.0.2.failed.rose)
    | inr f ↦ err_quiet (f.3.rose)
  ],
)

-- words that ask for no translation are said to be so, and no others are
unasked : (source out err : Use) (s : Status) → AnswersTranslation None source out err s → (s ≡ Usage) ⊎ ((s ≡ WriteFault) ⊎ (s ≡ NoMemory))
unasked source out err s (inl u) = elim u.told [
  | inl t ↦ inl t.0
  | inr f ↦ inr (inl f.0)
]
unasked source out err s (inr u) = elim u.told [
  | inl t ↦ inr (inr t.0)
  | inr f ↦ inr (inl f.0)
]

pub tells_usage : (asked : Option Direction) (source out err : Use) (s : Status) → AnswersTranslation asked source out err s → TellsWrongWords asked s
tells_usage asked source out err s h = (
  λ e. (subst (λ x. IsCaused asked source out err x) e (caused asked source out err s h)).1.0,
  λ none. unasked source out err s (subst (λ d. AnswersTranslation d source out err s) none h),
)

-- the run says that a read failed, or its sink fails at that
ending_read : (made : List ℕ → Translated) (source out err : Use) (s : Status) (e : Ending)
    → TranslationEnds made source out e → Tells e err s → source.before < source.now → IsDelivered err (codes "read fault\n") ReadFault s
ending_read made source out err s ending.ReadFault ends t rose = t
ending_read made source out err s ending.NoMemory ends t rose = absurd (omega (arith, rose, ends.1))
ending_read made source out err s ending.TooLong ends t rose = absurd (omega (arith, rose, ends.1))
ending_read made source out err s e ends t rose = absurd (omega (arith, rose, ends.quiet))

pub tells_read : (asked : Option Direction) (source out err : Use) (s : Status) → AnswersTranslation asked source out err s
    → source.before < source.now → IsDelivered err (codes "read fault\n") ReadFault s
tells_read None source out err s (inl u) rose = absurd (omega (arith, rose, u.unread.quiet))
tells_read (Some d) source out err s (inl a) rose = ending_read (translation_by d) source out err s a.ending a.ends a.tells rose
tells_read asked source out err s (inr u) rose = absurd (omega (arith, rose, u.unread.quiet))

-- a sink that failed is told
line_unsent : (err : Use) (line : List ℕ) (meant s : Status) → IsDelivered err line meant s → err.before < err.now → s ≡ WriteFault
line_unsent err line meant s (inl t) rose = absurd (omega (arith, rose, t.1.quiet))
line_unsent err line meant s (inr f) rose = f.0

ending_write : (made : List ℕ → Translated) (source out err : Use) (s : Status) (e : Ending)
    → TranslationEnds made source out e → Tells e err s → (out.before < out.now) ⊎ (err.before < err.now) → s ≡ WriteFault
ending_write made source out err s ending.Done ends t (inl rose) = absurd (omega (arith, rose, ends.taken.quiet))
ending_write made source out err s ending.Done ends t (inr rose) = absurd (omega (arith, rose, t.1.quiet))
ending_write made source out err s ending.WriteFault ends t rose = t.0
ending_write made source out err s (ending.Refused f) ends t (inl rose) = absurd (omega (arith, rose, ends.taken.quiet))
ending_write made source out err s (ending.Refused f) ends t (inr rose) = line_unsent err (notation_fault_line f) Text s t rose
ending_write made source out err s ending.ReadFault ends t (inl rose) = absurd (omega (arith, rose, ends.0.to.so_far.taken.quiet))
ending_write made source out err s ending.ReadFault ends t (inr rose) = line_unsent err (codes "read fault\n") ReadFault s t rose
ending_write made source out err s ending.NoMemory ends t (inl rose) = absurd (omega (arith, rose, ends.0.so_far.taken.quiet))
ending_write made source out err s ending.NoMemory ends t (inr rose) = line_unsent err (codes "no memory\n") NoMemory s t rose
ending_write made source out err s ending.TooLong ends t (inl rose) = absurd (omega (arith, rose, ends.0.so_far.taken.quiet))
ending_write made source out err s ending.TooLong ends t (inr rose) = line_unsent err (codes "too long\n") TooLong s t rose

unasked_write : (line : List ℕ) (meant : Status) (out err : Use) (s : Status) → IsUntouched out → IsDelivered err line meant s
    → (out.before < out.now) ⊎ (err.before < err.now) → s ≡ WriteFault
unasked_write line meant out err s untouched told (inl rose) = absurd (omega (arith, rose, untouched.quiet))
unasked_write line meant out err s untouched told (inr rose) = line_unsent err line meant s told rose

pub tells_write : (asked : Option Direction) (source out err : Use) (s : Status) → AnswersTranslation asked source out err s
    → (out.before < out.now) ⊎ (err.before < err.now) → s ≡ WriteFault
tells_write None source out err s (inl u) rose = unasked_write address_usage Usage out err s u.untouched u.told rose
tells_write (Some d) source out err s (inl a) rose = ending_write (translation_by d) source out err s a.ending a.ends a.tells rose
tells_write asked source out err s (inr u) rose = unasked_write (codes "no memory\n") NoMemory out err s u.untouched u.told rose
