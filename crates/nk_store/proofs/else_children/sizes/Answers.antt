use Rattle.std.proofs.Common.{arith, ◌≡◌, ◌∙◌, subst, sym, ap, ◌+◌, ◌-◌, ℕ, cond, eqb, drop, ◌∷◌}
use Rattle.nk_store.specs.Nodes.{Rises}
use Rattle.nk_store.specs.ElseChild.{kept, spans, size_of}
use Rattle.nk_store.proofs.Children.{rest_is, kept_put, below_step, counts_step}
use Rattle.nk_store.proofs.else_children.sizes.Goals as goal

pub loop-end-preserved : goal.loop-end-preserved
loop-end-preserved c =
    let item = c.loop-end-item.result in
    let old = c.loop-end.sizes.entries in
    let new = c.insert.new.self.entries in
    let more = drop (c.loop-end.end-index + 1) c.args.parts.now in
    let rest : drop c.loop-end.end-index c.args.parts.now ≡ item ∷ more = rest_is c.args.parts.now c.loop-end.end-index item c.loop-end-test.true c.loop-end-item.is in
    let rise : Rises c.args.high c.loop-end.from (item ∷ more) = subst (Rises c.args.high c.loop-end.from) rest c.loop-end.invariant.rise in
    let put : (q : ℕ) → kept new q ≡ cond (eqb item.1 q) (kept old item.1 + (item.0 + 1 - c.loop-end.from)) (kept old q) =
    λ q. kept_put old new item.1 (c.size-before.result + (item.0 + 1 - c.loop-end.from)) (λ z. c.in_ok-insert.ensures.updates.0 z) q
    ∙ ap (λ n. cond (eqb item.1 q) (n + (item.0 + 1 - c.loop-end.from)) (kept old q)) c.size-before.ensures in
    record {
      rise = rise.2;
      small = omega (arith, rise.1);
      below = below_step old new item.1 c.loop-end.from (item.0 + 1) c.loop-end.invariant.below (omega (arith, rise.0)) put;
      counts = λ q. counts_step old new item.1 item.0 c.loop-end.from more put q ∙ sym (ap (λ l. kept old q + size_of q (spans l c.loop-end.from)) rest) ∙ c.loop-end.invariant.counts q;
    }
