use Rattle.std.proofs.Common.{◌≡◌, ◌<◌, length, take, sym, subst, arith}
use Rattle.nk_store.proofs.Stores.{grows_on}
use Rattle.nk_sets.specs.PacketSets.{IsSet}
use Rattle.nk_sets.proofs.SetLemmas.{set_grows}
use Rattle.nk_determ.proofs.Interned.{sets_on}
use Rattle.nk_determ.specs.Pairs.{AreLabelsBelow, IsPair}
use Rattle.nk_goal.proofs.Places.{each_at}
use Rattle.nk_goal.proofs.Growing.{sets_same, sets_known, states_grow, pairs_on, each_weaker}
use Rattle.nk_goal.proofs.Adding.{take_more, take_whole}
use Rattle.nk_witness.specs.Preimages.{IsPreimageInEntries}
use Rattle.nk_witness.proofs.PreimageSteps.{preimage_in_push}
use Rattle.nk_witness.proofs.preimages.preimage_in_level.Goals as goal

pub preimage_in_pair-requires-clause-states : goal.preimage_in_pair-requires-clause-states
preimage_in_pair-requires-clause-states c = states_grow c.args.st.now c.loop-k.st c.args.states.now c.loop-k.invariant.grows c.requires.states

pub preimage_in_pair-requires-clause-set : goal.preimage_in_pair-requires-clause-set
preimage_in_pair-requires-clause-set c =
    let l : c.loop-k.k < length c.args.level.now = omega (arith, c.loop-k-test.true, c.len-k-end.ensures) in
    sets_known c.args.ss.now c.loop-k.ss c.at.result.now.0 c.loop-k.invariant.sets
    (each_at (IsPair c.args.st.now c.args.ss.now (length c.args.states.now)) c.args.level.now c.loop-k.k c.at.result.now c.requires.level.each l c.at.ensures).known

pub preimage_in_pair-requires-clause-places : goal.preimage_in_pair-requires-clause-places
preimage_in_pair-requires-clause-places c =
    let l : c.loop-k.k < length c.args.level.now = omega (arith, c.loop-k-test.true, c.len-k-end.ensures) in
    let p = each_at (IsPair c.args.st.now c.args.ss.now (length c.args.states.now)) c.args.level.now c.loop-k.k c.at.result.now c.requires.level.each l c.at.ensures in
    subst (AreLabelsBelow (length c.args.states.now)) (sym (sets_same c.args.ss.now c.loop-k.ss c.at.result.now.0 c.loop-k.invariant.sets p.known)) p.places

pub preimage_in_pair-requires-clause-packets : goal.preimage_in_pair-requires-clause-packets
preimage_in_pair-requires-clause-packets c =
    let l : c.loop-k.k < length c.args.level.now = omega (arith, c.loop-k-test.true, c.len-k-end.ensures) in
    set_grows c.args.st.now c.loop-k.st c.at.result.now.1 c.loop-k.invariant.grows
    (each_at (IsPair c.args.st.now c.args.ss.now (length c.args.states.now)) c.args.level.now c.loop-k.k c.at.result.now c.requires.level.each l c.at.ensures).packets

pub preimage_in_pair-requires-clause-next : goal.preimage_in_pair-requires-clause-next
preimage_in_pair-requires-clause-next c = pairs_on c.args.st.now c.loop-k.st c.args.ss.now c.loop-k.ss (length c.args.states.now) c.args.next.now c.loop-k.invariant.grows c.loop-k.invariant.sets c.requires.next

pub add-requires-clause-pairs : goal.add-requires-clause-pairs
add-requires-clause-pairs c =
    each_weaker (λ p. IsSet c.loop-k.st p.1) (λ p. IsSet c.preimage_in_pair.new.st p.1) c.loop-k.back (λ p q. set_grows c.loop-k.st c.preimage_in_pair.new.st p.1 c.preimage_in_pair.ensures.grows q) c.loop-k.invariant.made.packets

pub add-requires-clause-packets : goal.add-requires-clause-packets
add-requires-clause-packets c = c.in_ok-led.ensures.ok.packets

pub loop-k-preserved : goal.loop-k-preserved
loop-k-preserved c =
    let l : c.loop-k.k < length c.args.level.now = omega (arith, c.loop-k-test.true, c.len-k-end.ensures) in
    record {
      grows = grows_on _ _ _ c.loop-k.invariant.grows (grows_on _ _ _ c.preimage_in_pair.ensures.grows c.add.ensures.grows);
      sets = sets_on _ _ _ c.loop-k.invariant.sets c.preimage_in_pair.ensures.sets;
      made = subst (λ q. IsPreimageInEntries c.args.st.now c.args.ss.now c.args.states.now c.args.next.now q c.add.new.st c.add.new.self) (sym (take_more c.args.level.now c.loop-k.k c.at.result.now l c.at.ensures))
          (preimage_in_push c.args.st.now c.loop-k.st c.preimage_in_pair.new.st c.add.new.st c.args.ss.now c.loop-k.ss c.args.states.now c.args.next.now (take c.loop-k.k c.args.level.now) c.loop-k.back c.add.new.self c.at.result.now c.in_ok-led.led
          c.requires.states c.loop-k.invariant.made c.loop-k.invariant.grows c.loop-k.invariant.sets c.preimage_in_pair.ensures.grows c.requires.next
          (each_at (IsPair c.args.st.now c.args.ss.now (length c.args.states.now)) c.args.level.now c.loop-k.k c.at.result.now c.requires.level.each l c.at.ensures)
          c.in_ok-led.ensures.ok c.in_ok-add.ensures.ok);
    }

pub returns-clause-ok : goal.returns-clause-ok
returns-clause-ok c =
    let whole : take c.loop-k.k c.args.level.now ≡ c.args.level.now = take_whole c.args.level.now c.loop-k.k (omega (arith, c.loop-k-test.false, c.len-k-end.ensures)) in
    subst (λ q. IsPreimageInEntries c.args.st.now c.args.ss.now c.args.states.now c.args.next.now q c.loop-k.st c.loop-k.back) whole c.loop-k.invariant.made

pub returns-in_err-add-clause-sets : goal.returns-in_err-add-clause-sets
returns-in_err-add-clause-sets c = sets_on c.args.ss.now c.loop-k.ss c.preimage_in_pair.new.ss c.loop-k.invariant.sets c.preimage_in_pair.ensures.sets
