use Rattle.std.proofs.Common.{◌≡◌, ◌+◌, length, sym, subst, arith}
use Rattle.nk_backward.specs.Places.{AreAllPlaces}
use Rattle.nk_backward.proofs.Placing.{all_none, all_push}
use Rattle.nk_backward.proofs.postorder.with_places.Goals as goal

pub loop-k-init : goal.loop-k-init
loop-k-init c = subst (λ ps. AreAllPlaces 0 ps) (sym c.new-all.ensures) all_none

pub loop-k-preserved : goal.loop-k-preserved
loop-k-preserved c = subst (λ ps. AreAllPlaces (c.loop-k.k + 1) ps) (sym c.in_ok-push.ensures.ok) (all_push c.loop-k.k c.loop-k.all c.at.result.now c.loop-k.invariant)

pub returns : goal.returns
returns c =
    let e : c.loop-k.k ≡ length c.args.ranks.now = omega (arith, c.loop-k-test.false, c.len-k-end.ensures, c.loop-k.auto.k-end) in
    subst (λ n. AreAllPlaces n c.loop-k.all) e c.loop-k.invariant
