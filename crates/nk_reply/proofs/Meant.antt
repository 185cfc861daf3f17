-- Why a run that reads all of its input means to give its answer.
use Rattle.std.proofs.Common.{◌≡◌, ◌<◌, ◌≤◌, ℕ, List, [], ◌++◌, true, false, length, refl, sym, subst, arith, nat_lt, length-append}
use Rattle.std.proofs.lemmas.Bool.{lt-ltb}
use Rattle.std.proofs.lemmas.Bool.Decides.{nat_tests}
use Rattle.std.specs.declared.option.Option.{Option}
use Rattle.std.specs.Prelude.{Some, None}
use Rattle.std.specs.Io.KnownBytes.{Consumes, IsAtEnd}
use Rattle.nk_io.specs.Reading.{GaveMore, GaveWithin, IsAllOf}
use Rattle.nk_reply.specs.declared.status.Status.{Status}
use Rattle.nk_reply.specs.declared.status.Status.TheVariants.{ReadFault, NoMemory, TooLong}
use Rattle.nk_reply.specs.Answer.{Answer, answer_of, limit, too_long}
use Rattle.nk_reply.specs.Outcome.{Outcome, done, differs, text_refused, policy_refused}
use Rattle.nk_reply.specs.declared.reply.Reply.{Reply}
use Rattle.nk_reply.specs.declared.reply.Reply.TheVariants as reply
use Rattle.nk_reply.specs.Reply.{IsReplyOf, answer_in, outcome_of}
use Rattle.nk_reply.specs.Use.{HadLeft, IsQuiet, Use}
use Rattle.nk_reply.specs.Meant.{IsCauseBy, IsFixedByInput, IsMeantBy, IsReadWhere, IsUnread, IsUnreadAs}

-- a source that gave more than the limit had more than the limit left
more_left : (old new : Option (List ℕ)) → GaveMore limit old new
    → (bytes : List ℕ) × (limit < length bytes) × IsAllOf old bytes
more_left None new g = (g.0, g.1, tt)
more_left (Some x) None g = absurd g.2
more_left (Some x) (Some y) g =
    let h : x ≡ g.0 ++ y = g.2 in
    let more : limit < length x = rw h (omega (arith, g.1, length-append g.0 y)) in
    (x, more, refl)

-- a source whose bytes stay gave none
pub none_given : (old : Option (List ℕ)) → GaveWithin limit old old
none_given None = ([], omega arith, tt)
none_given (Some left) = ([], omega arith, refl)

module _ (O : List ℕ → Outcome → Type 0) (source : Use) where
  -- an input longer than the limit fixes that answer
  too_long_fixed : GaveMore limit source.old source.new → IsQuiet source → IsFixedByInput O source too_long
  too_long_fixed more quiet =
      let all = more_left source.old source.new more in
      let over : nat_lt limit (length all.0) ≡ true = lt-ltb _ _ all.1 in
      record { bytes = all.0; left = all.2; answer = rw over refl; read = more; quiet = quiet }

  unread_as : (s : Status) (a : Answer) → IsUnreadAs s source a → IsCauseBy s O source a
  unread_as ReadFault a h = h
  unread_as NoMemory a h = h
  unread_as TooLong a h = subst (IsFixedByInput O source) (sym h.answer) (too_long_fixed h.given h.quiet)
  unread_as s a h = absurd h

  -- what is said of an input that was not read to its end is meant
  pub unread_meant : (a : Answer) → IsUnread source a → IsMeantBy O source a
  unread_meant a h = unread_as a.status a h

-- the end of the input is what is read for an outcome
pub read_for : (source : Use) (outcome : Outcome) → IsAtEnd source.new → IsReadWhere true source (answer_of outcome).status
read_for source (done text) end = end
read_for source (differs text) end = end
read_for source (text_refused text) end = end
read_for source (policy_refused text) end = end

-- an outcome of all of an input is meant
pub whole_meant : (O : List ℕ → Outcome → Type 0) (source : Use) (bytes : List ℕ) (r : Reply) → HadLeft source bytes
    → length bytes ≤ limit → Consumes source.old source.new bytes → IsAtEnd source.new → IsQuiet source
    → IsReplyOf (O bytes) r → IsMeantBy O source (answer_in r)
whole_meant O source bytes (reply.CommandAnswer s) left fits read end quiet h = outcome_meant (outcome_of s) h
  where
    within : nat_lt limit (length bytes) ≡ false
    within = grind (arith, nat_tests, fits)

    fixed : (outcome : Outcome) → O bytes outcome → IsFixedByInput O source (answer_of outcome)
    fixed outcome o =
        record { bytes = bytes; left = left; answer = rw within (outcome, o, refl); read = read_for source outcome end; quiet = quiet }

    outcome_meant : (outcome : Outcome) → O bytes outcome → IsMeantBy O source (answer_of outcome)
    outcome_meant (done text) o = fixed (done text) o
    outcome_meant (differs text) o = fixed (differs text) o
    outcome_meant (text_refused text) o = fixed (text_refused text) o
    outcome_meant (policy_refused text) o = fixed (policy_refused text) o
whole_meant O source bytes reply.NoMemory left fits read end quiet h =
    record { answer = refl; quiet = quiet; given = (bytes, fits, read) }
whole_meant O source bytes reply.Usage left fits read end quiet h = absurd h
whole_meant O source bytes reply.ReadFault left fits read end quiet h = absurd h
whole_meant O source bytes reply.TooLong left fits read end quiet h = absurd h
