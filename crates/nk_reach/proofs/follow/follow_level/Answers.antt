use Rattle.std.proofs.Common.{◌≡◌, ◌<◌, length, take, sym, subst, arith}
use Rattle.nk_store.proofs.Stores.{grows_on}
use Rattle.nk_sets.proofs.SetLemmas.{set_grows}
use Rattle.nk_determ.proofs.Interned.{sets_on}
use Rattle.nk_determ.specs.Pairs.{AreLabelsBelow, IsPair}
use Rattle.nk_reach.specs.Rounds.{IsSoFar}
use Rattle.nk_goal.proofs.Places.{each_at}
use Rattle.nk_goal.proofs.Growing.{sets_same, states_grow}
use Rattle.nk_goal.proofs.Adding.{take_more, take_whole}
use Rattle.nk_reach.proofs.Following.{so_far_push, raw_of}
use Rattle.nk_reach.proofs.follow.follow_level.Goals as goal

pub follow_pair-requires-clause-states : goal.follow_pair-requires-clause-states
follow_pair-requires-clause-states c = states_grow c.args.st.now c.loop-k.st c.args.states.now c.loop-k.invariant.grows c.requires.states

pub follow_pair-requires-clause-places : goal.follow_pair-requires-clause-places
follow_pair-requires-clause-places c =
    let l : c.loop-k.k < length c.args.last.now = omega (arith, c.loop-k-test.true, c.len-k-end.ensures) in
    let p = each_at (IsPair c.args.st.now c.args.ss.now (length c.args.states.now)) c.args.last.now c.loop-k.k c.at.result.now c.requires.last.each l c.at.ensures in
    subst (AreLabelsBelow (length c.args.states.now)) (sym (sets_same c.args.ss.now c.loop-k.ss c.at.result.now.0 c.loop-k.invariant.sets p.known)) p.places

pub follow_pair-requires-clause-packets : goal.follow_pair-requires-clause-packets
follow_pair-requires-clause-packets c =
    let l : c.loop-k.k < length c.args.last.now = omega (arith, c.loop-k-test.true, c.len-k-end.ensures) in
    set_grows c.args.st.now c.loop-k.st c.at.result.now.1 c.loop-k.invariant.grows
    (each_at (IsPair c.args.st.now c.args.ss.now (length c.args.states.now)) c.args.last.now c.loop-k.k c.at.result.now c.requires.last.each l c.at.ensures).packets

pub loop-k-preserved : goal.loop-k-preserved
loop-k-preserved c =
    let l : c.loop-k.k < length c.args.last.now = omega (arith, c.loop-k-test.true, c.len-k-end.ensures) in
    record {
      grows = grows_on _ _ _ c.loop-k.invariant.grows c.follow_pair.ensures.grows;
      sets = sets_on _ _ _ c.loop-k.invariant.sets c.follow_pair.ensures.sets;
      made = subst (λ q. IsSoFar c.args.st.now c.args.ss.now c.args.states.now q c.follow_pair.new.st c.follow_pair.new.ss c.follow_pair.new.raw) (sym (take_more c.args.last.now c.loop-k.k c.at.result.now l c.at.ensures))
          (so_far_push c.args.st.now c.loop-k.st c.follow_pair.new.st c.args.ss.now c.loop-k.ss c.follow_pair.new.ss c.args.states.now (take c.loop-k.k c.args.last.now) c.loop-k.raw c.follow_pair.new.raw c.at.result.now
          c.requires.states c.loop-k.invariant.made c.loop-k.invariant.grows c.loop-k.invariant.sets c.follow_pair.ensures.sets
          (each_at (IsPair c.args.st.now c.args.ss.now (length c.args.states.now)) c.args.last.now c.loop-k.k c.at.result.now c.requires.last.each l c.at.ensures)
          c.in_ok-follow_pair.ensures.ok);
    }

pub returns-clause-ok : goal.returns-clause-ok
returns-clause-ok c =
    let whole : take c.loop-k.k c.args.last.now ≡ c.args.last.now = take_whole c.args.last.now c.loop-k.k (omega (arith, c.loop-k-test.false, c.len-k-end.ensures)) in
    raw_of c.args.st.now c.loop-k.st c.args.ss.now c.loop-k.ss c.args.states.now c.args.last.now c.loop-k.raw
    (subst (λ q. IsSoFar c.args.st.now c.args.ss.now c.args.states.now q c.loop-k.st c.loop-k.ss c.loop-k.raw) whole c.loop-k.invariant.made) c.differ.ensures.differ
