use Rattle.std.proofs.Common.{ℕ, List, length, sym, subst, arith}
use Rattle.std.proofs.lemmas.Result.{IfOk-weaker}
use Rattle.nk_policy.specs.Tree.{tree_of}
use Rattle.nk_apply.specs.Unions.{AreIds}
use Rattle.nk_determ.specs.Pairs.{AreLabelsBelow}
use Rattle.nk_store.specs.StoreState.{IsStorePacket}
use Rattle.nk_reach.specs.Sides.{alone, ends_of, AreSideFinals, AreOneSided}
use Rattle.nk_runs.proofs.Stands.{are_states}
use Rattle.nk_cert.specs.Together.{either_of}
use Rattle.nk_cert.specs.Values.{row_values, certificate_value}
use Rattle.nk_check.specs.Judged.{CanJudge, IsJudge, IsJudged, AreEntriesOf}
use Rattle.nk_check.proofs.Standing.{start_predicate, later_predicates}
use Rattle.nk_check.proofs.Weighing.{can_judge, found_by}
use Rattle.nk_check.proofs.checking.verdict_by.Goals as goal

pub new-requires-clause-states : goal.new-requires-clause-states
new-requires-clause-states c =
    let a = c.requires.automaton.3 in
    subst (AreIds c.args.st.now) (sym c.as_slice.ensures) (are_states c.args.st.now c.args.both.states (either_of c.requires.automaton.1 c.requires.automaton.2) a.states_are).ids

pub new-requires-clause-left : goal.new-requires-clause-left
new-requires-clause-left c = c.requires.automaton.3.left_start.id

pub new-requires-clause-right : goal.new-requires-clause-right
new-requires-clause-right c = c.requires.automaton.3.right_start.id

pub judge_of-requires-clause-states : goal.judge_of-requires-clause-states
judge_of-requires-clause-states c =
    let a = c.requires.automaton.3 in omega (arith, a.states_are.count)

pub judge_of-requires-clause-start : goal.judge_of-requires-clause-start
judge_of-requires-clause-start c = start_predicate (certificate_value c.args.certificate.now) c.requires.predicates

pub judge_of-requires-clause-later : goal.judge_of-requires-clause-later
judge_of-requires-clause-later c = later_predicates (tree_of c.args.certificate.now.start) c.args.certificate.now.rows c.requires.predicates

pub judge_rows-requires-clause-can : goal.judge_rows-requires-clause-can
judge_rows-requires-clause-can c =
    let a = c.requires.automaton.3 in
    let marked = subst (λ (r : List ℕ). AreSideFinals c.args.st.now r c.args.both.left c.args.both.right c.args.bound (length r) c.new.new.st c.in_ok-goal.goal.ends) c.as_slice.ensures c.in_ok-goal.ensures.marked in
    subst (λ r. CanJudge c.judge_of.new.st c.judge_of.new.ss r c.in_ok-judge.judge.told c.in_ok-goal.goal.ends c.in_ok-goal.goal.seen.entries) (sym c.in_ok-judge.ensures.states)
    (can_judge c.requires.automaton.0 c.args.st.now c.new.new.st c.judge_of.new.st c.args.both.states c.args.both.left c.args.both.right c.requires.automaton.1 c.requires.automaton.2
    a c.args.bound c.requires.automaton.4 c.in_ok-goal.goal.ends c.new.ensures.grows c.judge_of.ensures.grows c.in_ok-goal.ensures.ids marked c.judge_of.new.ss c.in_ok-judge.judge.told c.in_ok-goal.goal.seen.entries
    (subst (λ (r : List ℕ). IsJudge c.judge_of.new.st c.judge_of.new.ss (length r) (certificate_value c.args.certificate.now) c.in_ok-judge.judge.start c.in_ok-judge.judge.entries c.in_ok-judge.judge.told) c.in_ok-judge.ensures.states c.in_ok-judge.ensures.ok).all.pairs c.in_ok-goal.ensures.fits)

pub judge_rows-requires-clause-start : goal.judge_rows-requires-clause-start
judge_rows-requires-clause-start c = c.in_ok-judge.ensures.ok.start_is.pair

pub judge_rows-requires-clause-entries : goal.judge_rows-requires-clause-entries
judge_rows-requires-clause-entries c =
    subst (λ r. AreEntriesOf c.judge_of.new.st c.judge_of.new.ss (length c.in_ok-judge.judge.states) (row_values r) c.in_ok-judge.judge.entries) (sym c.as_slice-2.ensures) c.in_ok-judge.ensures.ok.later

pub returns : goal.returns
returns c =
    let marked = subst (λ (r : List ℕ). AreSideFinals c.args.st.now r c.args.both.left c.args.both.right c.args.bound (length r) c.new.new.st c.in_ok-goal.goal.ends) c.as_slice.ensures c.in_ok-goal.ensures.marked in
    let sided = subst (λ (r : List ℕ). (set pk : List ℕ) → AreLabelsBelow (length r) set → IsStorePacket c.args.st.now pk
    → AreOneSided c.args.st.now r c.args.both.left c.args.both.right c.args.bound set pk (alone (ends_of c.new.new.st c.in_ok-goal.goal.ends set pk))) c.as_slice.ensures c.in_ok-goal.ensures.alone in
    let made = subst (λ (r : List ℕ). IsJudge c.judge_of.new.st c.judge_of.new.ss (length r) (certificate_value c.args.certificate.now) c.in_ok-judge.judge.start c.in_ok-judge.judge.entries c.in_ok-judge.judge.told) c.in_ok-judge.ensures.states c.in_ok-judge.ensures.ok in
    let bad = λ (set pk : List ℕ). alone (ends_of c.judge_of.new.st c.in_ok-goal.goal.ends set pk) in
    IfOk-weaker c.judge_rows.result _ _
    (λ v judged fields p q a following.
    found_by fields c.args.st.now c.new.new.st c.judge_of.new.st c.args.both.states c.args.both.left c.args.both.right p q
    a c.args.bound following c.in_ok-goal.goal.ends c.new.ensures.grows c.judge_of.ensures.grows c.in_ok-goal.ensures.ids marked sided c.laws.ensures.tidy c.judge_of.new.ss c.differ.ensures.ascend
    (certificate_value c.args.certificate.now) c.in_ok-judge.judge.start c.in_ok-judge.judge.entries c.in_ok-judge.judge.told made v
    (subst (λ r. IsJudged c.judge_of.new.st c.judge_of.new.ss r bad c.in_ok-judge.judge.told c.in_ok-judge.judge.start (row_values c.args.certificate.now.rows) c.in_ok-judge.judge.entries v) c.in_ok-judge.ensures.states
    (subst (λ rs. IsJudged c.judge_of.new.st c.judge_of.new.ss c.in_ok-judge.judge.states bad c.in_ok-judge.judge.told c.in_ok-judge.judge.start (row_values rs) c.in_ok-judge.judge.entries v) c.as_slice-2.ensures judged)))
    c.judge_rows.ensures.ok
