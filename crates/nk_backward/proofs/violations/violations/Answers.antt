use Rattle.std.proofs.Common.{◌<◌, ◌∙◌, ℕ, [], List, length, take, get_or, sym, ap, subst, arith}
use Rattle.nk_store.proofs.Stores.{grows_on}
use Rattle.nk_sets.specs.PacketSets.{IsSet}
use Rattle.nk_sets.proofs.SetLemmas.{set_grows}
use Rattle.nk_determ.specs.Pairs.{IsPair}
use Rattle.nk_goal.proofs.Places.{each_at}
use Rattle.nk_goal.proofs.Growing.{each_weaker}
use Rattle.nk_goal.proofs.Adding.{take_more}
use Rattle.nk_witness.specs.Backs.{AreViolationsSoFar}
use Rattle.nk_backward.specs.CounterexampleStarts.{of_side}
use Rattle.nk_backward.proofs.Restricting.{restricted_set, restricted_push}
use Rattle.nk_backward.proofs.violations.violations.Goals as goal

pub side_violations-requires-clause-packets : goal.side_violations-requires-clause-packets
side_violations-requires-clause-packets g c =
    let l : c.loop-k.k < length c.args.entries.now = omega (arith, c.loop-k-test.true, c.len-k-end.ensures) in
    c.loop-k.invariant.grows.ids c.at.result.now.1 (each_at (IsPair c.args.st.now c.args.ss.now (g.G.Goal.labels c.args.g.now)) c.args.entries.now c.loop-k.k c.at.result.now c.requires.entries l c.at.ensures).packets.id

pub add_some-requires-clause-back : goal.add_some-requires-clause-back
add_some-requires-clause-back g c =
    each_weaker (λ p. IsSet c.loop-k.st p.1) (λ p. IsSet c.side_violations.new.st p.1) c.loop-k.back
    (λ p q. set_grows c.loop-k.st c.side_violations.new.st p.1 c.side_violations.ensures.grows q) c.loop-k.invariant.made.packets

pub add_some-requires-clause-packets : goal.add_some-requires-clause-packets
add_some-requires-clause-packets g c =
    let l : c.loop-k.k < length c.args.entries.now = omega (arith, c.loop-k-test.true, c.len-k-end.ensures) in
    let p = each_at (IsPair c.args.st.now c.args.ss.now (g.G.Goal.labels c.args.g.now)) c.args.entries.now c.loop-k.k c.at.result.now c.requires.entries l c.at.ensures in
    let set = set_grows c.args.st.now c.loop-k.st c.at.result.now.1 c.loop-k.invariant.grows p.packets in
    restricted_set c.loop-k.st c.side_violations.new.st c.at.result.now.1 c.in_ok-bad.bad (λ pk. of_side c.args.side (g.G.Goal.violations_of c.loop-k.g c.loop-k.st (get_or c.args.ss.now c.at.result.now.0 []) pk)) set.predicate c.in_ok-bad.ensures.ok

pub loop-k-preserved : goal.loop-k-preserved
loop-k-preserved g c =
    let l : c.loop-k.k < length c.args.entries.now = omega (arith, c.loop-k-test.true, c.len-k-end.ensures) in
    let p = each_at (IsPair c.args.st.now c.args.ss.now (g.G.Goal.labels c.args.g.now)) c.args.entries.now c.loop-k.k c.at.result.now c.requires.entries l c.at.ensures in
    let set : List ℕ = get_or c.args.ss.now c.at.result.now.0 [] in
    let bad = λ (s : List ℕ) (pk : List ℕ). of_side c.args.side (g.G.Goal.violations_of c.args.g.now c.args.st.now s pk) in
    record {
      grows = grows_on _ _ _ c.loop-k.invariant.grows (grows_on _ _ _ c.side_violations.ensures.grows c.add_some.ensures.grows);
      fits = g.met.G.Goal.fits_on c.side_violations.new.g c.side_violations.new.st c.add_some.new.st c.in_ok-bad.ensures.fits c.add_some.ensures.grows;
      labels = c.in_ok-bad.ensures.labels ∙ c.loop-k.invariant.labels;
      same = λ st s pk. c.in_ok-bad.ensures.same st s pk ∙ c.loop-k.invariant.same st s pk;
      made = subst (λ q. AreViolationsSoFar c.args.st.now c.args.ss.now bad q c.add_some.new.st c.add_some.new.back) (sym (take_more c.args.entries.now c.loop-k.k c.at.result.now l c.at.ensures))
          (restricted_push c.args.st.now c.loop-k.st c.side_violations.new.st c.add_some.new.st c.args.ss.now (g.G.Goal.labels c.args.g.now) bad (λ pk. of_side c.args.side (g.G.Goal.violations_of c.loop-k.g c.loop-k.st set pk))
          (take c.loop-k.k c.args.entries.now) c.loop-k.back c.add_some.new.back c.at.result.now c.in_ok-bad.bad c.loop-k.invariant.made c.loop-k.invariant.grows c.side_violations.ensures.grows c.in_ok-bad.ensures.ok
          (λ pk. ap (of_side c.args.side) (c.loop-k.invariant.same c.loop-k.st set pk ∙ g.met.G.Goal.violations_grow c.args.g.now c.args.st.now c.loop-k.st set pk c.requires.fits c.loop-k.invariant.grows p.places))
          p c.in_ok-add_some.ensures.ok);
    }
