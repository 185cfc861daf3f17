use Rattle.std.proofs.Common.{◌<◌, ◌+◌, length, sym, subst, arith}
use Rattle.nk_store.proofs.Stores.{grows_on}
use Rattle.nk_reach.specs.Sides.{AreSideFinals}
use Rattle.nk_reach.proofs.OneSided.{marks_push, goal_new, marks_ids}
use Rattle.nk_reach.proofs.Meanings.{one_sided}
use Rattle.nk_reach.proofs.sides.OneSide.new.Goals as goal

pub loop-l-preserved : goal.loop-l-preserved
loop-l-preserved c =
    let l : c.loop-l.l < length c.args.states.now = omega (arith, c.loop-l-test.true) in
    record {
      grows = grows_on _ _ _ c.loop-l.invariant.grows c.marked_state.ensures.grows;
      marked = subst (AreSideFinals c.args.st.now c.args.states.now c.args.left c.args.right c.args.bound (c.loop-l.l + 1) c.marked_state.new.st) (sym c.in_ok-push.ensures.ok)
          (marks_push c.args.st.now c.loop-l.st c.marked_state.new.st c.args.states.now c.args.left c.args.right c.args.bound c.loop-l.l c.in_ok-d.d c.loop-l.ends c.requires.states c.requires.left c.requires.right l c.loop-l.invariant.grows
          c.marked_state.ensures.grows c.loop-l.invariant.marked c.in_ok-d.ensures.start c.in_ok-d.ensures.rest);
      of_left = c.in_ok-d.ensures.of_left;
      of_right = c.in_ok-d.ensures.of_right;
    }

pub returns-clause-alone : goal.returns-clause-alone
returns-clause-alone c = λ set pk places p.
    one_sided c.args.st.now c.loop-l.st c.args.states.now c.args.left c.args.right c.args.bound c.loop-l.ends set pk c.laws.ensures.tidy
    (subst (λ n. AreSideFinals c.args.st.now c.args.states.now c.args.left c.args.right c.args.bound n c.loop-l.st c.loop-l.ends) (omega (arith, c.loop-l-test.false)) c.loop-l.invariant.marked) places p

pub returns-clause-fits : goal.returns-clause-fits
returns-clause-fits c =
    goal_new c.loop-l.st c.loop-l.ends c.new-seen.result.entries
    (marks_ids c.args.st.now c.loop-l.st c.args.states.now c.args.left c.args.right c.args.bound c.loop-l.l c.loop-l.ends c.loop-l.invariant.marked) c.new-seen.ensures.empty

pub returns-clause-ids : goal.returns-clause-ids
returns-clause-ids c = marks_ids c.args.st.now c.loop-l.st c.args.states.now c.args.left c.args.right c.args.bound c.loop-l.l c.loop-l.ends c.loop-l.invariant.marked
