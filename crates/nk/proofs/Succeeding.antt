-- How a run ends, exactly by what the bytes are.
use Rattle.std.proofs.Common.{◌≡◌, ◌≤◌, ℕ, List, length, refl, inl, inr, sym, ap, subst, ◌∙◌, MatchBool, nat_lt}
use Rattle.std.proofs.lemmas.Bool.{le-ltb}
use Rattle.std.specs.Prelude.{Some, ⊤}
use Rattle.nk_io.specs.Reading.{IsAllOf}
use Rattle.nk_query.specs.Asked.{apart, waypoint}
use Rattle.nk_words.specs.declared.words.Command.{Command}
use Rattle.nk_words.specs.declared.words.Command.TheVariants.{Compile, Trace, Equal, Check, Fly}
use Rattle.nk_words.specs.declared.words.Command.TheVariants.{Apart, Waypoint, CheckApart, CheckWaypoint, Gen, Job, Update, Compact, Virtual}
use Rattle.nk_reply.specs.declared.status.Status.{Status}
use Rattle.nk_reply.specs.declared.status.Status.TheVariants.{Done, Differs, NoMemory}
use Rattle.nk_reply.specs.Answer.{Answer, answer_of, limit, too_long}
use Rattle.nk.specs.Answer.{IsAnswerTo, IsOutcome, IsOutcomeOf, reads}
use Rattle.nk.specs.Ends.{Ends, IsFixedBy}
use Rattle.nk_reply.specs.Outcome.{Outcome, done, differs}
use Rattle.nk.specs.Succeeding.{IsDone, IsOtherwise, IsStatusOf, IsOffered, Succeeds}
use Rattle.nk_reply.specs.Use.{Use}
use Rattle.nk.proofs.Endings.{complete}
use Rattle.nk_gen.specs.Text.{generated}
use Rattle.nk.specs.Generating.{IsGenAnswer}
use Rattle.nk.proofs.ByKind.{Kind, compile_kind, equal_kind, check_kind, ask_kind, judge_kind, trace_kind, fly_kind}
use Rattle.nk.proofs.CompactKind.{compact_kind}
use Rattle.nk.proofs.UpdateKind.{update_kind}
use Rattle.nk.proofs.VirtualKind.{virtual_kind}
use Rattle.nk.proofs.JobDone.{job_kind}

-- ---- each command

-- a generated text is always there
gen_kind : (size seed : ℕ) (o : Outcome) → IsGenAnswer size seed o → Kind o ⊤ ⊥
gen_kind size seed o h = subst (λ z. Kind z ⊤ ⊥) (sym h) (tt, λ x. x)

outcome_kind : (c : Command) (bytes : List ℕ) (o : Outcome) → IsOutcome c bytes o → Kind o (IsDone c bytes) (IsOtherwise c bytes)
outcome_kind (Compile name) bytes o h = compile_kind name bytes o h
outcome_kind (Trace hops packet) bytes o h = trace_kind hops packet bytes o h
outcome_kind (Fly seed steps packet) bytes o h = fly_kind seed steps packet bytes o h
outcome_kind (Equal left right) bytes o h = equal_kind left right bytes o h
outcome_kind (Check left right) bytes o h = check_kind left right bytes o h
outcome_kind (Apart name from target) bytes o h = ask_kind (apart name from target) bytes o h
outcome_kind (Waypoint name from middle target) bytes o h = ask_kind (waypoint name from middle target) bytes o h
outcome_kind (CheckApart name from target) bytes o h = judge_kind (apart name from target) bytes o h
outcome_kind (CheckWaypoint name from middle target) bytes o h = judge_kind (waypoint name from middle target) bytes o h
outcome_kind (Gen size seed) bytes o h = gen_kind size seed o h
outcome_kind (Job size seed) bytes o h = job_kind (generated size seed) o h
outcome_kind (Update old new seed steps packet) bytes o h = update_kind old new seed steps packet bytes o h
outcome_kind (Compact name) bytes o h = compact_kind name bytes o h
outcome_kind (Virtual name) bytes o h = virtual_kind name bytes o h

-- no two of these statuses are one
abbrev IsNeither : Status → Type 0
IsNeither Done = ⊥
IsNeither Differs = ⊥
IsNeither s = Unit {0}

abbrev IsDoneStatus : Status → Type 0
IsDoneStatus Done = Unit {0}
IsDoneStatus s = ⊥

-- the status of an outcome is exact
exact : (c : Command) (bytes : List ℕ) (o : Outcome) → Kind o (IsDone c bytes) (IsOtherwise c bytes) → IsStatusOf c bytes (answer_of o).status
exact c bytes (done t) k = record {
  done = λ d. inl refl;
  done_only = λ e. k.0;
  differs = λ x. absurd (k.1 x);
  differs_only = λ e. absurd (subst IsDoneStatus e tt);
}
exact c bytes (differs t) k = record {
  done = λ d. absurd (k.1 d);
  done_only = λ e. absurd (subst IsDoneStatus (sym e) tt);
  differs = λ x. inl refl;
  differs_only = λ e. k.0;
}
exact c bytes o k = record {
  done = λ d. absurd (k.0 d);
  done_only = λ e. absurd (subst IsNeither e tt);
  differs = λ x. absurd (k.1 x);
  differs_only = λ e. absurd (subst IsNeither e tt);
}

-- running out of memory is neither
exact_no_memory : (c : Command) (bytes : List ℕ) (s : Status) → s ≡ NoMemory → IsStatusOf c bytes s
exact_no_memory c bytes s e = record {
  done = λ d. inr e;
  done_only = λ f. absurd (subst IsNeither (sym e ∙ f) tt);
  differs = λ x. inr e;
  differs_only = λ f. absurd (subst IsNeither (sym e ∙ f) tt);
}

-- what is answered to the input of a command that reads
read_answer : (c : Command) (source : Use) (bytes left : List ℕ) (a : Answer) → (source.old ≡ Some bytes) × (length bytes ≤ limit)
    → IsAllOf source.old left → MatchBool (nat_lt limit (length left)) (a ≡ too_long) (IsOutcomeOf c left a) → IsOutcomeOf c bytes a
read_answer c source bytes left a given all h =
    let same : left ≡ bytes = subst (λ o. IsAllOf o left) given.0 all in
    let at = subst (λ b. MatchBool (nat_lt limit (length b)) (a ≡ too_long) (IsOutcomeOf c b a)) same h in
    subst (λ b. MatchBool b (a ≡ too_long) (IsOutcomeOf c bytes a)) (le-ltb limit (length bytes) given.1) at

-- what is answered to these bytes, by a command that reads or not
given_answer : (c : Command) (source : Use) (bytes left : List ℕ) (a : Answer) → IsOffered (reads c) source bytes
    → IsAllOf source.old left → IsAnswerTo (Some c) left a → IsOutcomeOf c bytes a
given_answer (Compile name) source bytes left a given all h = read_answer (Compile name) source bytes left a given all h
given_answer (Trace hops packet) source bytes left a given all h = read_answer (Trace hops packet) source bytes left a given all h
given_answer (Fly seed steps packet) source bytes left a given all h = read_answer (Fly seed steps packet) source bytes left a given all h
given_answer (Equal x y) source bytes left a given all h = read_answer (Equal x y) source bytes left a given all h
given_answer (Check x y) source bytes left a given all h = read_answer (Check x y) source bytes left a given all h
given_answer (Apart name from target) source bytes left a given all h = read_answer (Apart name from target) source bytes left a given all h
given_answer (Waypoint name from middle target) source bytes left a given all h =
    read_answer (Waypoint name from middle target) source bytes left a given all h
given_answer (CheckApart name from target) source bytes left a given all h =
    read_answer (CheckApart name from target) source bytes left a given all h
given_answer (CheckWaypoint name from middle target) source bytes left a given all h =
    read_answer (CheckWaypoint name from middle target) source bytes left a given all h
given_answer (Gen size seed) source bytes left a given all h = h
given_answer (Job size seed) source bytes left a given all h = h
given_answer (Update old new seed steps packet) source bytes left a given all h =
    read_answer (Update old new seed steps packet) source bytes left a given all h
given_answer (Compact name) source bytes left a given all h = read_answer (Compact name) source bytes left a given all h
given_answer (Virtual name) source bytes left a given all h = read_answer (Virtual name) source bytes left a given all h

-- the answer that is fixed has an exact status
exact_fixed : (c : Command) (bytes : List ℕ) (source : Use) (a : Answer) → IsOffered (reads c) source bytes
    → IsFixedBy (Some c) source a → IsStatusOf c bytes a.status
exact_fixed c bytes source a given f =
    let outcome : IsOutcomeOf c bytes a = given_answer c source bytes f.bytes a given f.left f.answer in
    subst (λ s. IsStatusOf c bytes s) (sym (ap (λ (x : Answer). x.status) outcome.2)) (exact c bytes outcome.0 (outcome_kind c bytes outcome.0 outcome.1))

pub succeeds : (words : List (List ℕ)) (source out err : Use) (s : Status) → Ends words source out err s → Succeeds words source out err s
succeeds words source out err s ends c bytes given input read out_quiet err_quiet = elim (complete words source out err s ends read out_quiet err_quiet) [
  | inl none ↦ exact_no_memory c bytes s none
  | inr fixed ↦
      subst (λ z. IsStatusOf c bytes z) (sym fixed.status)
      (exact_fixed c bytes source fixed.answer input (subst (λ o. IsFixedBy o source fixed.answer) given fixed.fixed))
]
