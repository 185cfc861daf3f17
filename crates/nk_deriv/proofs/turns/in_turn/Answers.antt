use Rattle.std.proofs.Common.{sym, subst, ◌∙◌}
use Rattle.nk_policy.specs.Tree.{tree_of}
use Rattle.nk_deriv.specs.Turns.{ArePutAfter}
use Rattle.nk_deriv.proofs.InTurn.{turning_none, turning_drop, turning_next, turning_done}
use Rattle.nk_deriv.proofs.turns.in_turn.Goals as goal

pub loop-state-init : goal.loop-state-init
loop-state-init c = turning_none _ _ _ c.keeping-free.ensures

pub returns-then-none : goal.returns-then-none
returns-then-none c = turning_drop _ _ _ _ _ (sym c.is_drop-none.ensures ∙ c.if-none.true) c.loop-state.invariant

pub loop-state-preserved : goal.loop-state-preserved
loop-state-preserved c =
    turning_next _ c.loop-state.legs _ (tree_of c.loop-state.free) _ c.state-item.result c.args.states.now _ c.loop-state-test.true c.state-item.is
    (subst (ArePutAfter c.loop-state.legs c.put_following.new.out (tree_of c.loop-state.free)) c.as_slice.ensures c.in_ok-put_following.ensures)
    c.in_ok-free.ensures c.loop-state.invariant

pub returns : goal.returns
returns c = turning_done _ _ _ _ _ c.loop-state-test.false c.loop-state.invariant
