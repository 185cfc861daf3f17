use Rattle.std.proofs.Common.{refl, sym, subst, ◌∙◌}
use Rattle.nk_policy.specs.Tree.{tree_of}
use Rattle.nk_deriv.specs.Turns.{IsTurn}
use Rattle.nk_deriv.proofs.Legs.{after_none, after_drop, following_more, following_all}
use Rattle.nk_deriv.proofs.turns.put_following.Goals as goal

pub returns-then-none : goal.returns-then-none
returns-then-none c = after_drop _ _ _ _ refl (sym c.is_drop-none.ensures ∙ c.if-none.true)

pub loop-leg-init : goal.loop-leg-init
loop-leg-init c = after_none _ _

pub loop-leg-preserved : goal.loop-leg-preserved
loop-leg-preserved c =
    following_more _ _ _ (tree_of c.args.free.now) c.args.legs.now _ c.leg-item.result c.in_ok-ways.ways c.loop-leg-test.true c.leg-item.is
    (subst (λ t. IsTurn (tree_of c.in_ok-ways.ways) t (tree_of c.leg-item.result.0)) c.in_ok-front.ensures c.in_ok-ways.ensures)
    c.in_ok-push.ensures.ok c.loop-leg.invariant

pub returns : goal.returns
returns c = following_all _ _ _ _ _ c.loop-leg-test.false c.loop-leg.invariant
