-- Of each command, and of words, at most one answer is right.
use Rattle.std.proofs.Common.{◌≡◌, ℕ, Bool, true, false, MatchBool, List, [], length, nat_lt, sym, ap, subst, ◌∙◌}
use Rattle.std.specs.Prelude.{Option, Some, None}
use Rattle.nk_io.specs.Reading.{IsAllOf}
use Rattle.nk_grammar.specs.Fields.{DeclaresFields}
use Rattle.nk_names.specs.ReadBack.{DeclaresWritable}
use Rattle.nk_tabtext.specs.Values.{tables_of}
use Rattle.nk_query.specs.Asked.{apart, waypoint}
use Rattle.nk_words.specs.declared.words.Command.{Command}
use Rattle.nk_words.specs.declared.words.Command.TheVariants.{Compile, Trace, Equal, Check, Fly}
use Rattle.nk_words.specs.declared.words.Command.TheVariants.{Apart, Waypoint, CheckApart, CheckWaypoint, Gen, Job, Update, Compact, Virtual}
use Rattle.nk_gen.specs.Text.{generated}
use Rattle.nk_uniqueness.specs.Texts.{TextsHavePackets}
use Rattle.nk_uniqueness.proofs.Comparing.{OnePrinted, OneFinding}
use Rattle.nk_reply.specs.Answer.{Answer, answer_of, limit, too_long}
use Rattle.nk.specs.Answer.{IsAnswerTo, IsOutcome, IsOutcomeOf, reads}
use Rattle.nk.specs.Ends.{IsFixedBy}
use Rattle.nk_trace_commands.specs.Flying.{ToFlown}
use Rattle.nk_reply.specs.Outcome.{Outcome}
use Rattle.nk_trace_commands.specs.Tracing.{ToLocated}
use Rattle.nk_reply.specs.Use.{Use}
use Rattle.nk_one_answer.proofs.Following.{OneTrace, by_tables, one_located, one_flown}
use Rattle.nk_one_answer.proofs.OneJob.{one_job}
use Rattle.nk_one_answer.proofs.Compacting.{one_compacting}
use Rattle.nk_one_answer.proofs.Updating.{one_update}
use Rattle.nk_one_answer.proofs.Virtualizing.{one_virtualizing}
use Rattle.nk_one_answer.proofs.Named.{one_compile, one_equal, one_check, one_ask, one_judge}

module _ (fields : DeclaresFields) (printed : OnePrinted) (finding : OneFinding) (writable : DeclaresWritable) (packets : TextsHavePackets) (trace : OneTrace) where
  one_outcome : (c : Command) (bytes : List ℕ) (o p : Outcome) → IsOutcome c bytes o → IsOutcome c bytes p → o ≡ p
  one_outcome (Compile name) bytes o p h k = one_compile packets name bytes o p h k
  one_outcome (Trace hops packet) bytes o p h k = by_tables (ToLocated hops) (one_located trace hops) (tables_of bytes) packet o p h k
  one_outcome (Fly seed steps packet) bytes o p h k = by_tables (ToFlown seed steps) (one_flown seed steps) (tables_of bytes) packet o p h k
  one_outcome (Equal left right) bytes o p h k = one_equal printed writable left right bytes o p h k
  one_outcome (Check left right) bytes o p h k = one_check finding left right bytes o p h k
  one_outcome (Apart name from target) bytes o p h k = one_ask printed writable (apart name from target) bytes o p h k
  one_outcome (Waypoint name from middle target) bytes o p h k = one_ask printed writable (waypoint name from middle target) bytes o p h k
  one_outcome (CheckApart name from target) bytes o p h k = one_judge finding (apart name from target) bytes o p h k
  one_outcome (CheckWaypoint name from middle target) bytes o p h k = one_judge finding (waypoint name from middle target) bytes o p h k
  one_outcome (Gen size seed) bytes o p h k = h ∙ sym k
  one_outcome (Job size seed) bytes o p h k = one_job printed writable packets (generated size seed) o p h k
  one_outcome (Update old new seed steps packet) bytes o p h k = one_update packets old new seed steps packet bytes o p h k
  one_outcome (Compact name) bytes o p h k = one_compacting packets name bytes o p h k
  one_outcome (Virtual name) bytes o p h k = one_virtualizing fields packets name bytes o p h k

  of_bytes : (c : Command) (bytes : List ℕ) (a b : Answer) → IsOutcomeOf c bytes a → IsOutcomeOf c bytes b → a ≡ b
  of_bytes c bytes a b h k = h.2 ∙ ap answer_of (one_outcome c bytes h.0 k.0 h.1 k.1) ∙ sym k.2

  within : (long : Bool) (c : Command) (bytes : List ℕ) (a b : Answer)
      → MatchBool long (a ≡ too_long) (IsOutcomeOf c bytes a) → MatchBool long (b ≡ too_long) (IsOutcomeOf c bytes b) → a ≡ b
  within true c bytes a b h k = h ∙ sym k
  within false c bytes a b h k = of_bytes c bytes a b h k

  reading : (input : Bool) (c : Command) (bytes : List ℕ) (a b : Answer)
      → MatchBool input (MatchBool (nat_lt limit (length bytes)) (a ≡ too_long) (IsOutcomeOf c bytes a)) (IsOutcomeOf c [] a)
      → MatchBool input (MatchBool (nat_lt limit (length bytes)) (b ≡ too_long) (IsOutcomeOf c bytes b)) (IsOutcomeOf c [] b) → a ≡ b
  reading true c bytes a b h k = within (nat_lt limit (length bytes)) c bytes a b h k
  reading false c bytes a b h k = of_bytes c [] a b h k

  pub one_answer : (c : Option Command) (bytes : List ℕ) (a b : Answer) → IsAnswerTo c bytes a → IsAnswerTo c bytes b → a ≡ b
  one_answer None bytes a b h k = h ∙ sym k
  one_answer (Some c) bytes a b h k = reading (reads c) c bytes a b h k

  -- the bytes are those that the source tells
  fixed_over : (c : Option Command) (source : Use) (bytes : List ℕ) (a : Answer) → source.old ≡ Some bytes → IsFixedBy c source a → IsAnswerTo c bytes a
  fixed_over c source bytes a tells f =
      let same : f.bytes ≡ bytes = subst (λ o. IsAllOf o f.bytes) tells f.left in
      subst (λ b. IsAnswerTo c b a) same f.answer

  pub one_fixed : (c : Option Command) (source other : Use) (bytes : List ℕ) (a b : Answer) → source.old ≡ Some bytes → other.old ≡ Some bytes
      → IsFixedBy c source a → IsFixedBy c other b → a ≡ b
  one_fixed c source other bytes a b s o h k = one_answer c bytes a b (fixed_over c source bytes a s h) (fixed_over c other bytes b o k)
