use Rattle.std.proofs.Common.{ℕ, List, length}
use Rattle.std.proofs.lemmas.Result.{IfOk-weaker}
use Rattle.nk_reach.specs.Sides.{alone, ends_of}
use Rattle.nk_goal.proofs.Growing.{sets_refl, pair_on}
use Rattle.nk_check.proofs.Judging.{can_judge_on, ends_stay, set_judged_before, start_by_set}
use Rattle.nk_check.proofs.judge.judge_start.Goals as goal

pub judge_set-requires-clause-can : goal.judge_set-requires-clause-can
judge_set-requires-clause-can c =
    can_judge_on c.args.st.now c.has_each.new.st c.args.ss.now c.args.ss.now c.args.judge.now.states c.args.judge.now.told c.args.goal.now.ends c.args.goal.now.seen.entries c.has_each.ensures.grows (sets_refl c.args.ss.now) c.requires.can

pub judge_set-requires-clause-entry : goal.judge_set-requires-clause-entry
judge_set-requires-clause-entry c =
    pair_on c.args.st.now c.has_each.new.st c.args.ss.now c.args.ss.now (length c.args.judge.now.states) c.args.judge.now.start c.has_each.ensures.grows (sets_refl c.args.ss.now) c.requires.start

pub returns-clause-ok : goal.returns-clause-ok
returns-clause-ok c =
    let bad = λ (set pk : List ℕ). alone (ends_of c.args.st.now c.args.goal.now.ends set pk) in
    let now = λ (set pk : List ℕ). alone (ends_of c.has_each.new.st c.args.goal.now.ends set pk) in
    IfOk-weaker c.judge_set.result _ _
    (λ o j.
    start_by_set c.args.st.now c.args.ss.now c.args.judge.now.states bad c.args.judge.now.told c.args.judge.now.start o (c.in_ok-has_each.ensures.yes c.if-not-branch.false)
    (set_judged_before c.args.st.now c.has_each.new.st c.args.ss.now c.args.ss.now c.args.judge.now.states bad now c.args.judge.now.told c.args.judge.now.start c.has_each.ensures.grows (sets_refl c.args.ss.now)
    c.requires.can.states_are c.requires.can.told_are c.requires.start
    (λ pk. ends_stay c.args.st.now c.has_each.new.st c.args.goal.now.ends c.args.judge.now.states _ pk c.has_each.ensures.grows c.requires.can.goal.ids c.requires.can.labels c.requires.start.places) o j))
    c.judge_set.ensures.ok

pub returns-then-not-branch-clause-can : goal.returns-then-not-branch-clause-can
returns-then-not-branch-clause-can c =
    can_judge_on c.args.st.now c.has_each.new.st c.args.ss.now c.args.ss.now c.args.judge.now.states c.args.judge.now.told c.args.goal.now.ends c.args.goal.now.seen.entries c.has_each.ensures.grows (sets_refl c.args.ss.now) c.requires.can

pub returns-then-not-branch-clause-ok : goal.returns-then-not-branch-clause-ok
returns-then-not-branch-clause-ok c = c.in_ok-has_each.ensures.no c.if-not-branch.true
