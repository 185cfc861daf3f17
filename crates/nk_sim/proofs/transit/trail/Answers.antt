use Rattle.std.proofs.Common.{◌≡◌, ◌+◌, ◌-◌, ◌++◌, ◌∷◌, [], ℕ, suc, ap, sym, subst, ◌∙◌, arith}
use Rattle.std.specs.Prelude.{reverse}
use Rattle.nk_sim.specs.declared.transit.Crossing.{Crossing}
use Rattle.nk_sim.specs.Flights.{trail, HasTrail}
use Rattle.nk_sim.proofs.Trails.{trail_back, put_back}
use Rattle.nk_sim.proofs.transit.trail.Goals as goal

pub crossing_of-crossing-requires : goal.crossing_of-crossing-requires
crossing_of-crossing-requires c =
    (trail_back c.args.crossings.now (c.args.k - c.loop-step._step) (c.args.k - (c.loop-step._step + 1)) c.loop-step.at (omega arith) c.loop-step.invariant.there).0

pub loop-step-preserved : goal.loop-step-preserved
loop-step-preserved c =
    let cs = c.args.crossings.now in
    let m : ℕ = c.args.k - c.loop-step._step in
    let n : ℕ = c.args.k - (c.loop-step._step + 1) in
    let x = c.crossing_of-crossing.result in
    let e : m ≡ suc n = omega arith in
    let back = trail_back cs m n c.loop-step.at e c.loop-step.invariant.there in
    record {
      there = subst (λ (d : Crossing). HasTrail cs n d.earlier) (sym c.crossing_of-crossing.ensures) back.1;
      joined =
          ap (λ l. trail cs n x.earlier ++ reverse l) (c.in_ok-push-2.ensures.items ∙ ap (λ l. l ++ x.before ∷ []) c.in_ok-push.ensures.items)
          ∙ put_back (trail cs n x.earlier) c.loop-step.backwards.items x.before x.after
          ∙ ap (λ l. l ++ reverse c.loop-step.backwards.items)
          (ap (λ (d : Crossing). trail cs n d.earlier ++ d.before ∷ d.after ∷ []) c.crossing_of-crossing.ensures ∙ sym back.2)
          ∙ c.loop-step.invariant.joined;
    }

pub returns : goal.returns
returns c =
    let e : 0 ≡ c.args.k - c.loop-step._step = omega arith in
    c.from_vec.ensures
    ∙ c.reverse.ensures.items
    ∙ ap (λ n. trail c.args.crossings.now n c.loop-step.at ++ reverse c.loop-step.backwards.items) e
    ∙ c.loop-step.invariant.joined
