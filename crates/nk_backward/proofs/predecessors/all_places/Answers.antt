use Rattle.std.proofs.Common.{◌≡◌, ◌<◌, ◌⊎◌, ◌↔◌, ℕ, Contains, length, sym, subst, arith}
use Rattle.nk_backward.specs.Predecessors.{ArePlacesBelow}
use Rattle.nk_backward.proofs.Tracing.{at_place}
use Rattle.nk_backward.proofs.Marking.{places_start, places_next}
use Rattle.nk_backward.proofs.predecessors.all_places.Goals as goal

pub loop-k-init : goal.loop-k-init
loop-k-init c = subst (λ ps. ArePlacesBelow c.args.ts.now 0 ps) (sym c.new-all.ensures) (places_start c.args.ts.now)

pub loop-k-preserved : goal.loop-k-preserved
loop-k-preserved c =
    let l : c.loop-k.k < length c.args.ts.now = omega (arith, c.loop-k-test.true, c.len-k-end.ensures) in
    places_next c.args.ts.now c.loop-k.k c.loop-k.all c.push_places.new.all c.at.result.now (at_place c.args.ts.now c.loop-k.k c.at.result.now l c.at.ensures) c.loop-k.invariant
    (subst (λ (n : ℕ). (p : ℕ × ℕ) → Contains c.push_places.new.all p ↔ (Contains c.loop-k.all p ⊎ ((p.0 ≡ c.loop-k.k) × (p.1 < n)))) c.len.ensures c.in_ok-push_places.ensures)

pub returns : goal.returns
returns c =
    let e : c.loop-k.k ≡ length c.args.ts.now = omega (arith, c.loop-k-test.false, c.len-k-end.ensures, c.loop-k.auto.k-end) in
    subst (λ (n : ℕ). ArePlacesBelow c.args.ts.now n c.loop-k.all) e c.loop-k.invariant
