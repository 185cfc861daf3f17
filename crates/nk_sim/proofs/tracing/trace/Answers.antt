use Rattle.std.proofs.Common.{◌≡◌, subst, length, arith}
use Rattle.std.proofs.lemmas.Bool.Decides.{nat_tests}
use Rattle.nk_sim.specs.Flights.{IsAt}
use Rattle.nk_sim.proofs.Steps.{seen_at_end, seen_early}
use Rattle.nk_sim.proofs.tracing.trace.Goals as goal

pub returns-then-is_empty : goal.returns-then-is_empty
returns-then-is_empty c =
    let none : length c.loop-k.state.waiting.items ≡ 0 = grind (arith, nat_tests, c.is_empty.ensures, c.if-is_empty.true) in
    seen_early c.args.t.now c.args.p.now c.loop-k.k c.args.hops c.loop-k.state c.ended.result c.loop-k.invariant none c.loop-k-test.true c.ended.ensures.histories c.ended.ensures.flying

pub returns : goal.returns
returns c =
    let t = c.args.t.now in
    let pk = c.args.p.now in
    let last : c.loop-k.k ≡ c.args.hops = omega arith in
    let is : IsAt t pk c.args.hops c.loop-k.state = subst (λ n. IsAt t pk n c.loop-k.state) last c.loop-k.invariant in
    seen_at_end t pk c.args.hops c.in_ok-step.field-0 c.ended-2.result (c.in_ok-step.ensures pk is) c.ended-2.ensures.histories c.ended-2.ensures.flying
