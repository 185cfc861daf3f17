use Rattle.std.proofs.Common.{ℕ, List, length, sym, subst, arith, ◌<◌, ◌≡◌}
use Rattle.nk_store.proofs.Stores.{grows_on}
use Rattle.nk_determ.specs.Pairs.{AreStates, ArePairs}
use Rattle.nk_reach.specs.Rounds.{IsNextLevel}
use Rattle.nk_reach.specs.Sides.{alone, ends_of, property_grows}
use Rattle.nk_goal.proofs.Growing.{sets_refl, states_grow, pairs_on}
use Rattle.nk_check.proofs.Judging.{one_level, can_judge_after, one_violation, no_violation_at, one_leaves, all_stay}
use Rattle.nk_check.proofs.judge.judge_set.Goals as goal

pub any_violation-requires-clause-fits : goal.any_violation-requires-clause-fits
any_violation-requires-clause-fits c = c.requires.can.goal

pub any_violation-requires-clause-pairs : goal.any_violation-requires-clause-pairs
any_violation-requires-clause-pairs c =
    subst (λ n. ArePairs c.args.st.now c.args.ss.now n c.in_ok-level.level) (sym c.requires.can.labels)
    (one_level c.args.st.now c.args.ss.now (length c.args.judge.now.states) c.args.entry c.in_ok-level.level c.in_ok-level.ensures c.requires.entry)

pub returns-then-branch-clause-sets : goal.returns-then-branch-clause-sets
returns-then-branch-clause-sets c = sets_refl c.args.ss.now

pub returns-then-branch-clause-can : goal.returns-then-branch-clause-can
returns-then-branch-clause-can c =
    can_judge_after c.args.st.now c.any_violation.new.st c.args.ss.now c.args.ss.now c.args.judge.now.states c.args.judge.now.told c.args.goal.now.ends c.any_violation.new.g.ends c.args.goal.now.seen.entries c.any_violation.new.g.seen.entries
    c.any_violation.ensures.grows (sets_refl c.args.ss.now) c.requires.can
    c.in_ok-any_violation.ensures.fits c.in_ok-any_violation.ensures.labels

pub returns-then-branch-clause-ok : goal.returns-then-branch-clause-ok
returns-then-branch-clause-ok c =
    one_violation c.args.st.now c.args.ss.now c.args.judge.now.states (λ set pk. alone (ends_of c.args.st.now c.args.goal.now.ends set pk)) c.args.judge.now.told c.args.entry c.in_ok-level.level c.in_ok-level.ensures
    (c.in_ok-any_violation.ensures.yes c.if-branch.true)

pub next_level-requires-clause-states : goal.next_level-requires-clause-states
next_level-requires-clause-states c =
    subst (AreStates c.any_violation.new.st) (sym c.as_slice.ensures) (states_grow c.args.st.now c.any_violation.new.st c.args.judge.now.states c.any_violation.ensures.grows c.requires.can.states_are)

pub next_level-requires-clause-visited : goal.next_level-requires-clause-visited
next_level-requires-clause-visited c =
    subst (λ (r : List ℕ). ArePairs c.any_violation.new.st c.args.ss.now (length r) c.args.judge.now.told) (sym c.as_slice.ensures)
    (pairs_on c.args.st.now c.any_violation.new.st c.args.ss.now c.args.ss.now (length c.args.judge.now.states) c.args.judge.now.told c.any_violation.ensures.grows (sets_refl c.args.ss.now) c.requires.can.told_are)

pub next_level-requires-clause-last : goal.next_level-requires-clause-last
next_level-requires-clause-last c =
    subst (λ (r : List ℕ). ArePairs c.any_violation.new.st c.args.ss.now (length r) c.in_ok-level.level) (sym c.as_slice.ensures)
    (pairs_on c.args.st.now c.any_violation.new.st c.args.ss.now c.args.ss.now (length c.args.judge.now.states) c.in_ok-level.level c.any_violation.ensures.grows (sets_refl c.args.ss.now)
    (one_level c.args.st.now c.args.ss.now (length c.args.judge.now.states) c.args.entry c.in_ok-level.level c.in_ok-level.ensures c.requires.entry))

pub returns-then-len-gt0-clause-can : goal.returns-then-len-gt0-clause-can
returns-then-len-gt0-clause-can c =
    can_judge_after c.args.st.now c.next_level.new.st c.args.ss.now c.next_level.new.ss c.args.judge.now.states c.args.judge.now.told c.args.goal.now.ends c.any_violation.new.g.ends c.args.goal.now.seen.entries c.any_violation.new.g.seen.entries
    (grows_on _ _ _ c.any_violation.ensures.grows c.next_level.ensures.grows) c.next_level.ensures.sets c.requires.can
    (property_grows c.any_violation.new.st c.next_level.new.st c.any_violation.new.g.ends c.any_violation.new.g.seen.entries c.in_ok-any_violation.ensures.fits c.next_level.ensures.grows) c.in_ok-any_violation.ensures.labels

pub returns-then-len-gt0-clause-ok : goal.returns-then-len-gt0-clause-ok
returns-then-len-gt0-clause-ok c =
    let bad = λ (set pk : List ℕ). alone (ends_of c.args.st.now c.args.goal.now.ends set pk) in
    let next = subst (λ r. IsNextLevel c.any_violation.new.st c.args.ss.now r c.args.judge.now.told c.in_ok-level.level c.next_level.new.st c.next_level.new.ss c.in_ok-elsewhere.elsewhere) c.as_slice.ensures c.in_ok-elsewhere.ensures.ok in
    let some : 0 < length c.in_ok-elsewhere.elsewhere = omega (arith, c.len.ensures, c.if-len-gt0.true) in (
      no_violation_at c.args.st.now c.args.ss.now c.args.judge.now.states bad c.args.judge.now.told c.args.entry c.in_ok-level.level c.in_ok-level.ensures (c.in_ok-any_violation.ensures.no c.if-branch.false),
      one_leaves c.args.st.now c.any_violation.new.st c.next_level.new.st c.args.ss.now c.next_level.new.ss c.args.judge.now.states bad c.args.judge.now.told c.args.entry c.in_ok-level.level c.in_ok-elsewhere.elsewhere c.in_ok-level.ensures
          c.any_violation.ensures.grows c.next_level.ensures.grows c.requires.can.states_are c.requires.can.told_are c.requires.entry next some,
    )

pub returns-clause-can : goal.returns-clause-can
returns-clause-can c =
    can_judge_after c.args.st.now c.next_level.new.st c.args.ss.now c.next_level.new.ss c.args.judge.now.states c.args.judge.now.told c.args.goal.now.ends c.any_violation.new.g.ends c.args.goal.now.seen.entries c.any_violation.new.g.seen.entries
    (grows_on _ _ _ c.any_violation.ensures.grows c.next_level.ensures.grows) c.next_level.ensures.sets c.requires.can
    (property_grows c.any_violation.new.st c.next_level.new.st c.any_violation.new.g.ends c.any_violation.new.g.seen.entries c.in_ok-any_violation.ensures.fits c.next_level.ensures.grows) c.in_ok-any_violation.ensures.labels

pub returns-clause-ok : goal.returns-clause-ok
returns-clause-ok c =
    let bad = λ (set pk : List ℕ). alone (ends_of c.args.st.now c.args.goal.now.ends set pk) in
    let next = subst (λ r. IsNextLevel c.any_violation.new.st c.args.ss.now r c.args.judge.now.told c.in_ok-level.level c.next_level.new.st c.next_level.new.ss c.in_ok-elsewhere.elsewhere) c.as_slice.ensures c.in_ok-elsewhere.ensures.ok in
    let none : length c.in_ok-elsewhere.elsewhere ≡ 0 = omega (arith, c.len.ensures, c.if-len-gt0.false) in (
      no_violation_at c.args.st.now c.args.ss.now c.args.judge.now.states bad c.args.judge.now.told c.args.entry c.in_ok-level.level c.in_ok-level.ensures (c.in_ok-any_violation.ensures.no c.if-branch.false),
      all_stay c.args.st.now c.any_violation.new.st c.next_level.new.st c.args.ss.now c.next_level.new.ss c.args.judge.now.states bad c.args.judge.now.told c.args.entry c.in_ok-level.level c.in_ok-elsewhere.elsewhere c.in_ok-level.ensures
          c.any_violation.ensures.grows c.next_level.ensures.grows c.requires.can.states_are c.requires.can.told_are c.requires.entry next none,
    )
