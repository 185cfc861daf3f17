use Rattle.std.proofs.Common.{List, ℕ, Some, None, inl, inr, length, refl, subst, ◌∙◌, arith}
use Rattle.nk_store.proofs.Stores.{grows_on}
use Rattle.nk_determ.proofs.Interned.{sets_on}
use Rattle.nk_reach.specs.Sides.{alone, ends_of}
use Rattle.nk_cert.specs.Values.{row_values}
use Rattle.nk_check.specs.Judged.{IsRowJudged, IsStartJudged, row_at, entry_at}
use Rattle.nk_check.proofs.RowSets.{rows_count, entries_on, entry_pair}
use Rattle.nk_check.proofs.Judging.{none_met, one_met_more, row_before}
use Rattle.nk_check.proofs.judge.judge_rows.Goals as goal

pub loop-i-init : goal.loop-i-init
loop-i-init c = record {
  grows = c.judge_start.ensures.grows;
  sets = c.judge_start.ensures.sets;
  can = c.in_ok-first.ensures.can;
  same = c.in_ok-first.ensures.same;
  met = none_met c.args.st.now c.args.ss.now c.args.judge.now.states (λ set pk. alone (ends_of c.args.st.now c.args.goal.now.ends set pk)) c.args.judge.now.told (row_values c.args.later.now) c.args.judge.now.entries;
}

pub judge_row-requires-clause-entries : goal.judge_row-requires-clause-entries
judge_row-requires-clause-entries c =
    entries_on c.args.st.now c.loop-i.st c.args.ss.now c.loop-i.ss (length c.args.judge.now.states) (row_values c.args.later.now) c.args.judge.now.entries c.loop-i.invariant.grows c.loop-i.invariant.sets c.requires.entries

pub loop-i-preserved : goal.loop-i-preserved
loop-i-preserved c =
    let bad = λ (set pk : List ℕ). alone (ends_of c.args.st.now c.args.goal.now.ends set pk) in
    let e = entry_at c.args.judge.now.entries c.loop-i.i in
    let now = subst (λ o. IsRowJudged c.loop-i.st c.loop-i.ss c.args.judge.now.states (λ set pk. alone (ends_of c.loop-i.st c.loop-i.goal.ends set pk)) c.args.judge.now.told (row_at (row_values c.args.later.now) c.loop-i.i).positions e o)
    c.in_default-found.is c.in_ok-found.ensures.ok in
    record {
      grows = grows_on _ _ _ c.loop-i.invariant.grows c.judge_row.ensures.grows;
      sets = sets_on _ _ _ c.loop-i.invariant.sets c.judge_row.ensures.sets;
      can = c.in_ok-found.ensures.can;
      same = λ st set pk. c.in_ok-found.ensures.same st set pk ∙ c.loop-i.invariant.same st set pk;
      met = one_met_more c.args.st.now c.args.ss.now c.args.judge.now.states bad c.args.judge.now.told (row_values c.args.later.now) c.args.judge.now.entries c.loop-i.i c.loop-i.invariant.met
          (row_before c.args.st.now c.loop-i.st c.args.ss.now c.loop-i.ss c.args.judge.now.states c.args.judge.now.told c.args.goal.now.ends c.loop-i.goal.ends c.args.goal.now.seen.entries e c.loop-i.invariant.grows c.loop-i.invariant.sets c.requires.can
          (entry_pair c.args.st.now c.args.ss.now (length c.args.judge.now.states) c.args.later.now c.args.judge.now.entries c.loop-i.i (omega (arith, c.loop-i-test.true)) c.requires.entries)
          (λ set pk. c.loop-i.invariant.same c.loop-i.st set pk) (row_at (row_values c.args.later.now) c.loop-i.i).positions None now);
    }

pub returns-in-Some-found-clause-ok : goal.returns-in-Some-found-clause-ok
returns-in-Some-found-clause-ok c =
    let bad = λ (set pk : List ℕ). alone (ends_of c.args.st.now c.args.goal.now.ends set pk) in
    let e = entry_at c.args.judge.now.entries c.loop-i.i in
    let n = rows_count c.args.later.now in
    let now = subst (λ o. IsRowJudged c.loop-i.st c.loop-i.ss c.args.judge.now.states (λ set pk. alone (ends_of c.loop-i.st c.loop-i.goal.ends set pk)) c.args.judge.now.told (row_at (row_values c.args.later.now) c.loop-i.i).positions e o)
    c.in-Some-found.is c.in_ok-found.ensures.ok in
    inr (
      c.loop-i.i,
      refl,
      record {
        within = omega (arith, n, c.loop-i-test.true);
        first = subst (λ o. IsStartJudged c.args.st.now c.args.ss.now c.args.judge.now.states bad c.args.judge.now.told c.args.judge.now.start o) c.in_default.is c.in_ok-first.ensures.ok;
        before = c.loop-i.invariant.met;
        fails = row_before c.args.st.now c.loop-i.st c.args.ss.now c.loop-i.ss c.args.judge.now.states c.args.judge.now.told c.args.goal.now.ends c.loop-i.goal.ends c.args.goal.now.seen.entries e c.loop-i.invariant.grows c.loop-i.invariant.sets c.requires.can
            (entry_pair c.args.st.now c.args.ss.now (length c.args.judge.now.states) c.args.later.now c.args.judge.now.entries c.loop-i.i (omega (arith, c.loop-i-test.true)) c.requires.entries)
            (λ set pk. c.loop-i.invariant.same c.loop-i.st set pk) (row_at (row_values c.args.later.now) c.loop-i.i).positions (Some c.in-Some-found.part) now;
      },
    )

pub returns-in-Some-clause-ok : goal.returns-in-Some-clause-ok
returns-in-Some-clause-ok c =
    let bad = λ (set pk : List ℕ). alone (ends_of c.args.st.now c.args.goal.now.ends set pk) in
    inl (refl, subst (λ o. IsStartJudged c.args.st.now c.args.ss.now c.args.judge.now.states bad c.args.judge.now.told c.args.judge.now.start o) c.in-Some.is c.in_ok-first.ensures.ok)

pub returns-clause-ok : goal.returns-clause-ok
returns-clause-ok c =
    let bad = λ (set pk : List ℕ). alone (ends_of c.args.st.now c.args.goal.now.ends set pk) in
    let n = rows_count c.args.later.now in (
      subst (λ o. IsStartJudged c.args.st.now c.args.ss.now c.args.judge.now.states bad c.args.judge.now.told c.args.judge.now.start o) c.in_default.is c.in_ok-first.ensures.ok,
      λ j lt. c.loop-i.invariant.met j (omega (arith, n, lt, c.loop-i-test.false)),
    )
