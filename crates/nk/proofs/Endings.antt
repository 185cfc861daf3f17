-- What follows from how a run ends.
use Rattle.std.proofs.Common.{◌≡◌, ◌⊎◌, ◌≤◌, ◌∙◌, ℕ, List, [], length, refl, inl, inr, subst, arith, Bool, true, false, MatchBool, nat_lt, Option}
use Rattle.std.proofs.lemmas.Bool.Decides.{nat_tests}
use Rattle.std.specs.Prelude.{Some, None}
use Rattle.std.specs.Io.KnownBytes.{IsAtEnd}
use Rattle.nk_words.specs.declared.words.Command.{Command}
use Rattle.nk_words.specs.Words.{command_of}
use Rattle.nk_reply.specs.declared.status.Status.{Status}
use Rattle.nk_reply.specs.declared.status.Status.TheVariants.{ReadFault, Usage, WriteFault, NoMemory}
use Rattle.nk_reply.specs.Outcome.{Outcome, done, differs, text_refused, policy_refused}
use Rattle.nk_reply.specs.Answer.{Answer, answer_of, limit, too_long}
use Rattle.nk.specs.Answer.{IsOutcome, IsOutcomeOf, reads}
use Rattle.nk_reply.specs.Use.{FailedAt, HadLeft, HasRisen, IsQuiet, IsUntouched, Use}
use Rattle.nk.specs.Ends.{Ends, IsCauseTo, IsCaused, IsComplete, IsFixedBy, IsInput, IsUsage}
use Rattle.nk_reply.specs.Meant.{IsReadWhere}
use Rattle.nk_reply.specs.Sent.{IsSentWhole}

-- the outcome of a command, once it was sent, is the cause of its status
outcome_caused : (words : List (List ℕ)) (source out err : Use) (c : Command) (bytes : List ℕ) (outcome : Outcome)
    → command_of words ≡ Some c → IsInput (reads c) source bytes → IsQuiet source → IsOutcome c bytes outcome
    → IsSentWhole (answer_of outcome) out err → IsCaused words source out err (answer_of outcome).status
outcome_caused words source out err c bytes (done text) e input quiet o sent = record {
  command = c;
  bytes = bytes;
  text = text;
  given = e;
  input = input;
  is_outcome = o;
  quiet = quiet;
  sent = sent;
}
outcome_caused words source out err c bytes (differs text) e input quiet o sent = record {
  command = c;
  bytes = bytes;
  text = text;
  given = e;
  input = input;
  is_outcome = o;
  quiet = quiet;
  sent = sent;
}
outcome_caused words source out err c bytes (text_refused text) e input quiet o sent = record {
  command = c;
  bytes = bytes;
  text = text;
  given = e;
  input = input;
  is_outcome = o;
  quiet = quiet;
  sent = sent;
}
outcome_caused words source out err c bytes (policy_refused text) e input quiet o sent = record {
  command = c;
  bytes = bytes;
  text = text;
  given = e;
  input = input;
  is_outcome = o;
  quiet = quiet;
  sent = sent;
}

-- what was read for an outcome is all that was left
read_to_end : (source : Use) (outcome : Outcome) → IsReadWhere true source (answer_of outcome).status → IsAtEnd source.new
read_to_end source (done text) h = h
read_to_end source outcome h = h

-- what was sent to a command is too long, or its outcome; where it doesn't read, it is that of no bytes
command_caused : (words : List (List ℕ)) (source out err : Use) (c : Command) (a : Answer) (bytes : List ℕ)
    (input long : Bool) → command_of words ≡ Some c → reads c ≡ input → HadLeft source bytes → IsQuiet source
    → IsReadWhere input source a.status → nat_lt limit (length bytes) ≡ long
    → MatchBool input (MatchBool long (a ≡ too_long) (IsOutcomeOf c bytes a)) (IsOutcomeOf c [] a) → IsSentWhole a out err
    → IsCaused words source out err a.status
command_caused words source out err c a bytes true true e is left quiet read long t sent =
    let given : IsReadWhere true source too_long.status
    = subst (λ (x : Answer). IsReadWhere true source x.status) t read in
    rw t (record {
      asks = rw e is;
      bytes = bytes;
      left = left;
      longer = grind (arith, nat_tests);
      given = given;
      quiet = quiet;
      sent = subst (λ (x : Answer). IsSentWhole x out err) t sent;
    })
command_caused words source out err c a bytes true false e is left quiet read long (outcome, o, t) sent =
    let fits : length bytes ≤ limit = grind (arith, nat_tests) in
    let end : IsAtEnd source.new
    = read_to_end source outcome (subst (λ (x : Answer). IsReadWhere true source x.status) t read) in
    let input : IsInput (reads c) source bytes = rw is (record { left = left; fits = fits; end = end }) in
    rw t (outcome_caused words source out err c bytes outcome e input quiet o
    (subst (λ (x : Answer). IsSentWhole x out err) t sent))
command_caused words source out err c a bytes false long e is left quiet read h (outcome, o, t) sent =
    let input : IsInput (reads c) source [] = rw is (record { none = refl; unread = read }) in
    rw t (outcome_caused words source out err c [] outcome e input quiet o
    (subst (λ (x : Answer). IsSentWhole x out err) t sent))

-- the answer that words and input fix, once it was sent, is the cause of its status
fixed_caused : (words : List (List ℕ)) (source out err : Use) (a : Answer) (c : Option Command)
    → command_of words ≡ c → IsFixedBy c source a → IsSentWhole a out err
    → IsCaused words source out err a.status
fixed_caused words source out err a None e h sent = rw h.answer (record {
  none = e;
  unread = record { same = h.read; quiet = h.quiet };
  sent = subst (λ (x : Answer). IsSentWhole x out err) h.answer sent;
})
fixed_caused words source out err a (Some c) e h sent =
    command_caused words source out err c a h.bytes _ _ e refl h.left h.quiet h.read refl h.answer sent

-- what was sent has its cause
sent_caused : (words : List (List ℕ)) (source out err : Use) (a : Answer) (s : Status)
    → a.status ≡ s → IsCauseTo s (command_of words) source a → IsSentWhole a out err
    → IsCaused words source out err s
sent_caused words source out err a ReadFault e m sent = (
  record { answer = refl; rose = m.rose; asks = m.asks; given = m.given },
  subst (λ (x : Answer). IsSentWhole x out err) m.answer sent,
)
sent_caused words source out err a NoMemory e m sent = (
  record { answer = refl; quiet = m.quiet; given = m.given },
  subst (λ (x : Answer). IsSentWhole x out err) m.answer sent,
)
sent_caused words source out err a WriteFault e m sent = absurd m
sent_caused words source out err a s e m sent =
    subst (λ x. IsCaused words source out err x) e
    (fixed_caused words source out err a _ refl m sent)

-- each status has its cause
pub caused : (words : List (List ℕ)) (source out err : Use) (s : Status)
    → Ends words source out err s → IsCaused words source out err s
caused words source out err s h = elim h.delivered [
  | inl d ↦ rw d.0 (sent_caused words source out err h.answer h.answer.status refl h.meant d.1)
  | inr f ↦ rw f.0 (record { answer = h.answer; meant = h.meant; failed = f.1 })
]

-- words that are told as no command are none
pub no_command : (words : List (List ℕ)) (source out err : Use) (s : Status)
    → Ends words source out err s → s ≡ Usage → command_of words ≡ None
no_command words source out err s h e =
    let told : IsUsage words source out err = subst (IsCaused words source out err) e (caused words source out err s h) in
    told.none

-- where the source did not fail, the answer is the one that is fixed, or memory ran out
fixed_or_no_memory : (c : Option Command) (source : Use) (a : Answer) (s : Status)
    → IsCauseTo s c source a → ¬ HasRisen source → (s ≡ NoMemory) ⊎ IsFixedBy c source a
fixed_or_no_memory c source a ReadFault m quiet = absurd (quiet m.rose)
fixed_or_no_memory c source a NoMemory m quiet = inl refl
fixed_or_no_memory c source a WriteFault m quiet = absurd m
fixed_or_no_memory c source a s m quiet = inr m

-- where nothing failed, the answer that is fixed went out, or memory ran out
pub complete : (words : List (List ℕ)) (source out err : Use) (s : Status)
    → Ends words source out err s → IsComplete words source out err s
complete words source out err s h read out_quiet err_quiet = elim h.delivered [
  | inl d ↦ elim (fixed_or_no_memory _ source h.answer h.answer.status h.meant read) [
    | inl none ↦ inl (d.0 ∙ none)
    | inr fixed ↦ inr (record { answer = h.answer; fixed = fixed; status = d.0; sent = d.1 })
  ]
  | inr f ↦ absurd (by_sink _ f.1)
]
  where
    by_sink : (b : Bool) → MatchBool b (FailedAt out h.answer.text × IsUntouched err)
        (FailedAt err h.answer.text × IsUntouched out) → ⊥
    by_sink true x = out_quiet x.0.rose
    by_sink false x = err_quiet x.0.rose
