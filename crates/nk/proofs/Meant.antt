-- Why a run means to give its answer.
use Rattle.std.proofs.Common.{◌≡◌, ℕ, List, [], true, false, refl}
use Rattle.std.specs.declared.option.Option.{Option}
use Rattle.std.specs.Prelude.{Some, None}
use Rattle.std.specs.Io.KnownBytes.{Keeps}
use Rattle.nk_io.specs.Reading.{IsAllOf}
use Rattle.nk_words.specs.declared.words.Command.{Command}
use Rattle.nk_reply.specs.declared.status.Status.{Status}
use Rattle.nk_reply.specs.declared.status.Status.TheVariants.{ReadFault, NoMemory, WriteFault}
use Rattle.nk_reply.specs.Answer.{Answer, answer_of, usage}
use Rattle.nk_reply.specs.Meant.{IsCauseBy, IsMeantBy, IsUnread}
use Rattle.nk_reply.specs.Outcome.{Outcome, done, differs, text_refused, policy_refused}
use Rattle.nk_reply.specs.declared.reply.Reply.{Reply}
use Rattle.nk_reply.specs.declared.reply.Reply.TheVariants as reply
use Rattle.nk_reply.specs.Reply.{answer_in, outcome_of}
use Rattle.nk_reply.specs.Use.{IsQuiet, Use}
use Rattle.nk_reply.proofs.Delivery.{Keeps-same}
use Rattle.nk_reply.proofs.Meant as by_input
use Rattle.nk.specs.Answer.{IsOutcome, IsReplyTo, reads}
use Rattle.nk.specs.Ends.{IsCauseTo, IsFixedBy, IsMeantTo}

-- a source has some bytes left, where it tells them
some_left : (o : Option (List ℕ)) → (bytes : List ℕ) × IsAllOf o bytes
some_left None = ([], tt)
some_left (Some left) = (left, refl)

-- words that are no command fix that answer, whatever the source has
pub usage_meant : (c : Option Command) (source : Use) → c ≡ None → source.new ≡ source.old
    → IsQuiet source → IsFixedBy c source usage
usage_meant c source none same quiet =
    let some = some_left source.old in
    let kept : Keeps source.old source.new = rw same (Keeps-same source.old) in
    record { bytes = some.0; left = some.1; answer = rw none refl; read = rw none kept; quiet = quiet }

-- what a command answers without reading is meant
pub unasked_meant : (source : Use) (c : Command) (r : Reply) → reads c ≡ false → source.new ≡ source.old → IsQuiet source
    → IsReplyTo c [] r → IsMeantTo (Some c) source (answer_in r)
unasked_meant source c (reply.CommandAnswer s) is same quiet h = outcome_meant (outcome_of s) h
  where
    fixed : (outcome : Outcome) → IsOutcome c [] outcome → IsFixedBy (Some c) source (answer_of outcome)
    fixed outcome o =
        let some = some_left source.old in
        let kept : Keeps source.old source.new = rw same (Keeps-same source.old) in
        record { bytes = some.0; left = some.1; answer = rw is (outcome, o, refl); read = rw is kept; quiet = quiet }

    outcome_meant : (outcome : Outcome) → IsOutcome c [] outcome → IsMeantTo (Some c) source (answer_of outcome)
    outcome_meant (done text) o = fixed (done text) o
    outcome_meant (differs text) o = fixed (differs text) o
    outcome_meant (text_refused text) o = fixed (text_refused text) o
    outcome_meant (policy_refused text) o = fixed (policy_refused text) o
unasked_meant source c reply.NoMemory is same quiet h =
    record { answer = refl; quiet = quiet; given = rw same (by_input.none_given source.old) }
unasked_meant source c r is same quiet h = absurd h

module _ (source : Use) (c : Command) (is : reads c ≡ true) where
  cause_to : (s : Status) (a : Answer) → IsCauseBy s (IsOutcome c) source a → IsCauseTo s (Some c) source a
  cause_to ReadFault a h = record { answer = h.answer; rose = h.rose; asks = is; given = h.given }
  cause_to NoMemory a h = h
  cause_to WriteFault a h = absurd h
  cause_to s a h = record { bytes = h.bytes; left = h.left; answer = rw is h.answer; read = rw is h.read; quiet = h.quiet }

  -- what is meant over the input of a command that reads it is meant to the command
  pub read_meant : (a : Answer) → IsMeantBy (IsOutcome c) source a → IsMeantTo (Some c) source a
  read_meant a h = cause_to a.status a h

  -- also that the input was not read to its end
  pub unread_meant : (a : Answer) → IsUnread source a → IsMeantTo (Some c) source a
  unread_meant a h = read_meant a (by_input.unread_meant (IsOutcome c) source a h)
