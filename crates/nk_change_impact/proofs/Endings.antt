-- What follows from how a run ends.
use Rattle.std.proofs.Common.{◌≡◌, ◌⊎◌, ◌<◌, ◌≤◌, ◌∙◌, ℕ, List, length, refl, inl, inr, ap, subst, arith, Bool, true, false, MatchBool, nat_lt, Option}
use Rattle.std.proofs.lemmas.Bool.Decides.{nat_tests}
use Rattle.std.specs.Prelude.{Some, None}
use Rattle.std.specs.Io.KnownBytes.{IsAtEnd}
use Rattle.nk_reply.specs.declared.status.Status.{Status}
use Rattle.nk_reply.specs.declared.status.Status.TheVariants.{ReadFault, Usage, WriteFault, NoMemory}
use Rattle.nk_reply.specs.Outcome.{Outcome, done, differs, text_refused, policy_refused}
use Rattle.nk_reply.specs.Answer.{Answer, answer_of, limit, read_fault, too_long}
use Rattle.nk_reply.specs.Meant.{IsCauseBy, IsFixedByInput, IsReadWhere}
use Rattle.nk_reply.specs.Sent.{Delivers, IsSentWhole}
use Rattle.nk_reply.specs.Use.{FailedAt, HadLeft, HasRisen, IsQuiet, IsUntouched, Took, Use}
use Rattle.nk_change_impact.specs.Impact.{IsImpactAnswer}
use Rattle.nk_change_impact.specs.Ends.{Names, names_in, Ends, IsImpactFixedBy, IsImpactMeantTo, AnswersImpact, IsUsage, IsCaused, IsComplete, TellsUsage}

-- what was read for an outcome is all that was left
read_to_end : (source : Use) (outcome : Outcome) → IsReadWhere true source (answer_of outcome).status → IsAtEnd source.new
read_to_end source (done text) h = h
read_to_end source (differs text) h = h
read_to_end source (text_refused text) h = h
read_to_end source (policy_refused text) h = h

module _ (words : List (List ℕ)) (source out err : Use) where
  module _ (names : Names) (given : names_in words ≡ Some names) where
    answers : (kind : List ℕ → Outcome) (bytes text : List ℕ) → HadLeft source bytes → length bytes ≤ limit → IsAtEnd source.new
        → IsQuiet source → IsImpactAnswer names.0 names.1 bytes (kind text) → IsSentWhole (answer_of (kind text)) out err
        → AnswersImpact words source out err kind
    answers kind bytes text left fits end quiet o sent = record {
      names = names;
      bytes = bytes;
      text = text;
      given = given;
      left = left;
      fits = fits;
      end = end;
      is_outcome = o;
      quiet = quiet;
      sent = sent;
    }

    -- the outcome, once it was sent, is the cause of its status
    outcome_caused : (bytes : List ℕ) (outcome : Outcome) → HadLeft source bytes → length bytes ≤ limit → IsAtEnd source.new
        → IsQuiet source → IsImpactAnswer names.0 names.1 bytes outcome → IsSentWhole (answer_of outcome) out err
        → IsCaused words source out err (answer_of outcome).status
    outcome_caused bytes (done text) left fits end quiet o sent = answers done bytes text left fits end quiet o sent
    outcome_caused bytes (differs text) left fits end quiet o sent = answers differs bytes text left fits end quiet o sent
    outcome_caused bytes (text_refused text) left fits end quiet o sent = answers text_refused bytes text left fits end quiet o sent
    outcome_caused bytes (policy_refused text) left fits end quiet o sent = answers policy_refused bytes text left fits end quiet o sent

    -- what was sent is that the input is too long, or an outcome of all of it
    input_caused : (a : Answer) (bytes : List ℕ) (long : Bool) → HadLeft source bytes → IsQuiet source
        → IsReadWhere true source a.status → nat_lt limit (length bytes) ≡ long
        → MatchBool long (a ≡ too_long) ((outcome : Outcome) × IsImpactAnswer names.0 names.1 bytes outcome × (a ≡ answer_of outcome))
        → IsSentWhole a out err → IsCaused words source out err a.status
    input_caused a bytes true left quiet read long t sent =
        let more : IsReadWhere true source too_long.status
        = subst (λ (x : Answer). IsReadWhere true source x.status) t read in
        rw t (record {
          names = (names, given);
          bytes = bytes;
          left = left;
          longer = grind (arith, nat_tests);
          given = more;
          quiet = quiet;
          sent = subst (λ (x : Answer). IsSentWhole x out err) t sent;
        })
    input_caused a bytes false left quiet read long (outcome, o, t) sent =
        let fits : length bytes ≤ limit = grind (arith, nat_tests) in
        let end : IsAtEnd source.new
        = read_to_end source outcome (subst (λ (x : Answer). IsReadWhere true source x.status) t read) in
        rw t (outcome_caused bytes outcome left fits end quiet o (subst (λ (x : Answer). IsSentWhole x out err) t sent))

    fixed_caused : (a : Answer) → IsFixedByInput (IsImpactAnswer names.0 names.1) source a → IsSentWhole a out err
        → IsCaused words source out err a.status
    fixed_caused a h sent = input_caused a h.bytes _ h.left h.quiet h.read refl h.answer sent

    sent_caused : (a : Answer) (s : Status) → a.status ≡ s → IsCauseBy s (IsImpactAnswer names.0 names.1) source a
        → IsSentWhole a out err → IsCaused words source out err s
    sent_caused a ReadFault e m sent = (
      (names, given),
      record { answer = refl; rose = m.rose; given = m.given },
      subst (λ (x : Answer). IsSentWhole x out err) m.answer sent,
    )
    sent_caused a NoMemory e m sent = (
      (names, given),
      record { answer = refl; quiet = m.quiet; given = m.given },
      subst (λ (x : Answer). IsSentWhole x out err) m.answer sent,
    )
    sent_caused a WriteFault e m sent = absurd m
    sent_caused a s e m sent = subst (λ x. IsCaused words source out err x) e (fixed_caused a m sent)

  -- what was meant has its cause, once it was sent
  meant_caused : (names : Option Names) (a : Answer) → names_in words ≡ names → IsImpactMeantTo names source a
      → IsSentWhole a out err → IsCaused words source out err a.status
  meant_caused None a e m sent =
      rw m.0 (record { none = e; unread = m.1; sent = subst (λ (x : Answer). IsSentWhole x out err) m.0 sent })
  meant_caused (Some names) a e m sent = sent_caused names e a a.status refl m sent

  -- each status has its cause
  pub caused : (s : Status) → Ends words source out err s → IsCaused words source out err s
  caused s h = elim h.delivered [
    | inl d ↦ rw d.0 (meant_caused (names_in words) h.answer refl h.meant d.1)
    | inr f ↦ rw f.0 (record { answer = h.answer; meant = h.meant; failed = f.1 })
  ]

  -- words that aren't two are said to be so, and no others are
  pub tells_usage : (s : Status) → Ends words source out err s → TellsUsage words s
  tells_usage s h = (
    λ e. let told : IsUsage words source out err = subst (IsCaused words source out err) e (caused s h) in told.none,
    λ none. said (subst (λ names. IsImpactMeantTo names source h.answer) none h.meant),
  )
    where
      said : IsImpactMeantTo None source h.answer → (s ≡ Usage) ⊎ (s ≡ WriteFault)
      said m = elim h.delivered [
        | inl d ↦ inl (d.0 ∙ ap (λ (x : Answer). x.status) m.0)
        | inr f ↦ inr f.0
      ]

-- where the source did not fail, the answer is the one that is fixed, or memory ran out
by_cause : (names : Names) (source : Use) (a : Answer) (s : Status) → IsCauseBy s (IsImpactAnswer names.0 names.1) source a
    → ¬ HasRisen source → (s ≡ NoMemory) ⊎ IsImpactFixedBy (Some names) source a
by_cause names source a ReadFault m quiet = absurd (quiet m.rose)
by_cause names source a NoMemory m quiet = inl refl
by_cause names source a WriteFault m quiet = absurd m
by_cause names source a s m quiet = inr m

fixed_or_no_memory : (names : Option Names) (source : Use) (a : Answer) → IsImpactMeantTo names source a
    → ¬ HasRisen source → (a.status ≡ NoMemory) ⊎ IsImpactFixedBy names source a
fixed_or_no_memory None source a m quiet = inr m
fixed_or_no_memory (Some names) source a m quiet = by_cause names source a a.status m quiet

-- where nothing failed, the answer that is fixed went out, or memory ran out
pub complete : (words : List (List ℕ)) (source out err : Use) (s : Status)
    → Ends words source out err s → IsComplete words source out err s
complete words source out err s h read out_quiet err_quiet = elim h.delivered [
  | inl d ↦ elim (fixed_or_no_memory (names_in words) source h.answer h.meant read) [
    | inl none ↦ inl (d.0 ∙ none)
    | inr fixed ↦ inr (record { answer = h.answer; fixed = fixed; status = d.0; sent = d.1 })
  ]
  | inr f ↦ absurd (by_sink _ f.1)
]
  where
    by_sink : (b : Bool) → MatchBool b (FailedAt out h.answer.text × IsUntouched err)
        (FailedAt err h.answer.text × IsUntouched out) → ⊥
    by_sink true x = out_quiet x.0.rose
    by_sink false x = err_quiet x.0.rose

-- a source of which a call failed is the cause
by_failed_read : (names : Names) (source : Use) (a : Answer) (s : Status) → IsCauseBy s (IsImpactAnswer names.0 names.1) source a
    → source.before < source.now → a ≡ read_fault
by_failed_read names source a ReadFault m rose = m.answer
by_failed_read names source a NoMemory m rose = absurd (omega (arith, rose, m.quiet))
by_failed_read names source a WriteFault m rose = absurd m
by_failed_read names source a s m rose = absurd (omega (arith, rose, m.quiet))

read_failed : (names : Option Names) (source : Use) (a : Answer) → IsImpactMeantTo names source a
    → source.before < source.now → a ≡ read_fault
read_failed None source a m rose = absurd (omega (arith, rose, m.1.quiet))
read_failed (Some names) source a m rose = by_failed_read names source a a.status m rose

-- the run says that a read failed, or its sink fails at that
pub tells_read : (words : List (List ℕ)) (source out err : Use) (s : Status)
    → Ends words source out err s → source.before < source.now → Delivers read_fault out err s
tells_read words source out err s h rose =
    subst (λ a. Delivers a out err s) (read_failed (names_in words) source h.answer h.meant rose) h.delivered

-- a sink that failed is told
pub tells_write : (words : List (List ℕ)) (source out err : Use) (s : Status)
    → Ends words source out err s → (out.before < out.now) ⊎ (err.before < err.now) → s ≡ WriteFault
tells_write words source out err s h rose = elim h.delivered [
  | inl d ↦ absurd (both_quiet _ d.1 rose)
  | inr f ↦ f.0
]
  where
    both_quiet : (b : Bool) → MatchBool b (Took out h.answer.text × IsUntouched err) (Took err h.answer.text × IsUntouched out)
        → (out.before < out.now) ⊎ (err.before < err.now) → ⊥
    both_quiet true x (inl rose) = omega (arith, rose, x.0.quiet)
    both_quiet true x (inr rose) = omega (arith, rose, x.1.quiet)
    both_quiet false x (inl rose) = omega (arith, rose, x.1.quiet)
    both_quiet false x (inr rose) = omega (arith, rose, x.0.quiet)
