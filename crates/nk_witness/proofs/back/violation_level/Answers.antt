use Rattle.std.proofs.Common.{◌≡◌, ◌<◌, ◌∙◌, [], length, take, get_or, sym, subst, arith}
use Rattle.nk_store.proofs.Stores.{grows_on}
use Rattle.nk_sets.specs.PacketSets.{IsSet}
use Rattle.nk_sets.proofs.SetLemmas.{set_grows}
use Rattle.nk_determ.specs.Pairs.{AreLabelsBelow, IsPair}
use Rattle.nk_goal.proofs.Places.{each_at}
use Rattle.nk_goal.proofs.Growing.{each_weaker}
use Rattle.nk_goal.proofs.Adding.{take_more, take_whole}
use Rattle.nk_witness.specs.Backs.{AreViolationsSoFar}
use Rattle.nk_witness.proofs.Backing.{guarded_set, violations_so_far_push}
use Rattle.nk_witness.proofs.back.violation_level.Goals as goal

pub bad-requires-clause-set : goal.bad-requires-clause-set
bad-requires-clause-set g c =
    let l : c.loop-k.k < length c.args.level.now = omega (arith, c.loop-k-test.true, c.len-k-end.ensures) in
    (each_at (IsPair c.args.st.now c.args.ss.now (g.G.Goal.labels c.args.g.now)) c.args.level.now c.loop-k.k c.at.result.now c.requires.pairs.each l c.at.ensures).known

pub bad-requires-clause-places : goal.bad-requires-clause-places
bad-requires-clause-places g c =
    let l : c.loop-k.k < length c.args.level.now = omega (arith, c.loop-k-test.true, c.len-k-end.ensures) in
    subst (λ n. AreLabelsBelow n (get_or c.args.ss.now c.at.result.now.0 [])) (sym c.loop-k.invariant.labels)
    (each_at (IsPair c.args.st.now c.args.ss.now (g.G.Goal.labels c.args.g.now)) c.args.level.now c.loop-k.k c.at.result.now c.requires.pairs.each l c.at.ensures).places

pub at_packets-requires-clause-set : goal.at_packets-requires-clause-set
at_packets-requires-clause-set g c = c.in_ok-finals.ensures.ok.id

pub at_packets-requires-clause-diagram : goal.at_packets-requires-clause-diagram
at_packets-requires-clause-diagram g c =
    let l : c.loop-k.k < length c.args.level.now = omega (arith, c.loop-k-test.true, c.len-k-end.ensures) in
    c.bad.ensures.grows.ids c.at.result.now.1 (c.loop-k.invariant.grows.ids c.at.result.now.1
    (each_at (IsPair c.args.st.now c.args.ss.now (g.G.Goal.labels c.args.g.now)) c.args.level.now c.loop-k.k c.at.result.now c.requires.pairs.each l c.at.ensures).packets.id)

pub add-requires-clause-pairs : goal.add-requires-clause-pairs
add-requires-clause-pairs g c =
    each_weaker (λ p. IsSet c.loop-k.st p.1) (λ p. IsSet c.at_packets.new.st p.1) c.loop-k.back
    (λ p q. set_grows c.loop-k.st c.at_packets.new.st p.1 (grows_on _ _ _ c.bad.ensures.grows c.at_packets.ensures.grows) q) c.loop-k.invariant.made.packets

pub add-requires-clause-packets : goal.add-requires-clause-packets
add-requires-clause-packets g c =
    let l : c.loop-k.k < length c.args.level.now = omega (arith, c.loop-k-test.true, c.len-k-end.ensures) in
    let p = each_at (IsPair c.args.st.now c.args.ss.now (g.G.Goal.labels c.args.g.now)) c.args.level.now c.loop-k.k c.at.result.now c.requires.pairs.each l c.at.ensures in
    guarded_set c.bad.new.st c.at_packets.new.st c.in_ok-finals.finals c.at.result.now.1 c.in_ok-bad.bad
    (set_grows c.args.st.now c.bad.new.st c.at.result.now.1 (grows_on _ _ _ c.loop-k.invariant.grows c.bad.ensures.grows) p.packets).predicate c.in_ok-bad.ensures.ok

pub loop-k-preserved : goal.loop-k-preserved
loop-k-preserved g c =
    let l : c.loop-k.k < length c.args.level.now = omega (arith, c.loop-k-test.true, c.len-k-end.ensures) in
    let p = each_at (IsPair c.args.st.now c.args.ss.now (g.G.Goal.labels c.args.g.now)) c.args.level.now c.loop-k.k c.at.result.now c.requires.pairs.each l c.at.ensures in
    let set = get_or c.args.ss.now c.at.result.now.0 [] in
    record {
      grows = grows_on _ _ _ c.loop-k.invariant.grows (grows_on _ _ _ c.bad.ensures.grows (grows_on _ _ _ c.at_packets.ensures.grows c.add.ensures.grows));
      fits = g.met.G.Goal.fits_on c.bad.new.self c.bad.new.st c.add.new.st c.in_ok-finals.ensures.fits (grows_on _ _ _ c.at_packets.ensures.grows c.add.ensures.grows);
      labels = c.in_ok-finals.ensures.labels ∙ c.loop-k.invariant.labels;
      same = λ st set pk. c.in_ok-finals.ensures.same st set pk ∙ c.loop-k.invariant.same st set pk;
      made = subst (λ q. AreViolationsSoFar c.args.st.now c.args.ss.now (g.G.Goal.violations_of c.args.g.now c.args.st.now) q c.add.new.st c.add.new.self) (sym (take_more c.args.level.now c.loop-k.k c.at.result.now l c.at.ensures))
          (violations_so_far_push c.args.st.now c.loop-k.st c.bad.new.st c.at_packets.new.st c.add.new.st c.args.ss.now (g.G.Goal.labels c.args.g.now) (g.G.Goal.violations_of c.args.g.now c.args.st.now) (g.G.Goal.violations_of c.loop-k.g c.loop-k.st set)
          (take c.loop-k.k c.args.level.now) c.loop-k.back c.add.new.self c.at.result.now c.in_ok-finals.finals c.in_ok-bad.bad c.loop-k.invariant.made c.loop-k.invariant.grows c.bad.ensures.grows c.in_ok-finals.ensures.ok
          (λ pk. c.loop-k.invariant.same c.loop-k.st set pk ∙ g.met.G.Goal.violations_grow c.args.g.now c.args.st.now c.loop-k.st set pk c.requires.fits c.loop-k.invariant.grows p.places)
          c.at_packets.ensures.grows c.in_ok-bad.ensures.ok p c.in_ok-add.ensures.ok);
    }

pub returns-clause-ok : goal.returns-clause-ok
returns-clause-ok g c =
    let whole : take c.loop-k.k c.args.level.now ≡ c.args.level.now = take_whole c.args.level.now c.loop-k.k (omega (arith, c.loop-k-test.false, c.len-k-end.ensures)) in
    subst (λ q. AreViolationsSoFar c.args.st.now c.args.ss.now (g.G.Goal.violations_of c.args.g.now c.args.st.now) q c.loop-k.st c.loop-k.back) whole c.loop-k.invariant.made
