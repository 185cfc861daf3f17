use Rattle.std.proofs.Common.{◌≡◌, ◌<◌, ◌⊎◌, ◌↔◌, ℕ, Contains, subst, arith}
use Rattle.nk_backward.proofs.Marking.{places_none, places_push}
use Rattle.nk_backward.proofs.predecessors.push_places.Goals as goal

pub loop-j-init : goal.loop-j-init
loop-j-init c = places_none c.args.all.now c.args.k

pub loop-j-preserved : goal.loop-j-preserved
loop-j-preserved c = places_push c.args.all.now c.loop-j.all c.push.new.self c.args.k c.loop-j.j c.loop-j.invariant c.in_ok-push.ensures.ok

pub returns : goal.returns
returns c =
    let e : c.loop-j.j ≡ c.args.count = omega (arith, c.loop-j-test.false, c.loop-j.auto.j-end) in
    subst (λ (n : ℕ). (p : ℕ × ℕ) → Contains c.loop-j.all p ↔ (Contains c.args.all.now p ⊎ ((p.0 ≡ c.args.k) × (p.1 < n)))) e c.loop-j.invariant
