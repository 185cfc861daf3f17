use Rattle.std.proofs.Common.{List, ℕ, length, sym, subst, arith}
use Rattle.std.proofs.lemmas.Result.{IfOk-weaker}
use Rattle.nk_determ.specs.Pairs.{IsPair}
use Rattle.nk_reach.specs.Sides.{alone, ends_of}
use Rattle.nk_cert.specs.Values.{row_values}
use Rattle.nk_check.specs.Judged.{AreLabels, IsSetJudged, row_at, entry_at}
use Rattle.nk_check.proofs.RowSets.{rows_count}
use Rattle.nk_check.proofs.Judging.{row_by_set}
use Rattle.nk_check.proofs.judge.judge_row.Goals as goal

pub entry_of-entry-requires : goal.entry_of-entry-requires
entry_of-entry-requires c = let n = rows_count c.args.later.now in omega (arith, c.requires.place, c.requires.entries.count, n)

pub judge_set-requires-clause-entry : goal.judge_set-requires-clause-entry
judge_set-requires-clause-entry c =
    let n = rows_count c.args.later.now in
    subst (IsPair c.args.st.now c.args.ss.now (length c.args.judge.now.states)) (sym c.entry_of-entry.ensures)
    (c.requires.entries.each c.args.i (omega (arith, c.requires.place, n))).pair

pub returns-clause-ok : goal.returns-clause-ok
returns-clause-ok c =
    let bad = λ (set pk : List ℕ). alone (ends_of c.args.st.now c.args.goal.now.ends set pk) in
    let positions = (row_at (row_values c.args.later.now) c.args.i).positions in
    let are = subst (λ n. AreLabels n positions) c.len.ensures (c.has_labels.ensures.yes c.if-not-has_labels.false) in
    IfOk-weaker c.judge_set.result _ _
    (λ o j.
    row_by_set c.args.st.now c.args.ss.now c.args.judge.now.states bad c.args.judge.now.told positions (entry_at c.args.judge.now.entries c.args.i) o are
    (subst (λ e. IsSetJudged c.args.st.now c.args.ss.now c.args.judge.now.states bad c.args.judge.now.told e o) c.entry_of-entry.ensures j))
    c.judge_set.ensures.ok

pub returns-then-not-has_labels-clause-ok : goal.returns-then-not-has_labels-clause-ok
returns-then-not-has_labels-clause-ok c =
    subst (λ n. AreLabels n (row_at (row_values c.args.later.now) c.args.i).positions → ⊥) c.len.ensures (c.has_labels.ensures.no c.if-not-has_labels.true)
