use Rattle.std.proofs.Common.{◌<◌, [], ◌∷◌, ◌++◌, ◌+◌, length, take, refl, sym, subst, arith}
use Rattle.nk_store.proofs.Stores.{grows_on}
use Rattle.nk_sets.proofs.SetLemmas.{set_grows}
use Rattle.nk_determ.proofs.Interned.{sets_on}
use Rattle.nk_determ.specs.Pairs.{AreLabelsBelow, IsPair}
use Rattle.nk_goal.proofs.Places.{each_at}
use Rattle.nk_goal.proofs.Growing.{sets_same, sets_known, states_grow}
use Rattle.nk_goal.proofs.Adding.{take_more}
use Rattle.nk_backward.specs.declared.transitions.Transitions.{Transitions}
use Rattle.nk_backward.specs.Transitions.{AreTransitions}
use Rattle.nk_backward.proofs.Tracing.{transitions_push}
use Rattle.nk_backward.proofs.transitions.transitions_of.Goals as goal

pub outs_from-requires-clause-states : goal.outs_from-requires-clause-states
outs_from-requires-clause-states c = states_grow c.args.st.now c.loop-k.st c.args.states.now c.loop-k.invariant.grows c.requires.states

pub outs_from-requires-clause-set : goal.outs_from-requires-clause-set
outs_from-requires-clause-set c =
    let l : c.loop-k.k < length c.args.entries.now = omega (arith, c.loop-k-test.true, c.len-k-end.ensures) in
    sets_known c.args.ss.now c.loop-k.ss c.at.result.now.0 c.loop-k.invariant.sets
    (each_at (IsPair c.args.st.now c.args.ss.now (length c.args.states.now)) c.args.entries.now c.loop-k.k c.at.result.now c.requires.entries l c.at.ensures).known

pub outs_from-requires-clause-places : goal.outs_from-requires-clause-places
outs_from-requires-clause-places c =
    let l : c.loop-k.k < length c.args.entries.now = omega (arith, c.loop-k-test.true, c.len-k-end.ensures) in
    let p = each_at (IsPair c.args.st.now c.args.ss.now (length c.args.states.now)) c.args.entries.now c.loop-k.k c.at.result.now c.requires.entries l c.at.ensures in
    subst (AreLabelsBelow (length c.args.states.now)) (sym (sets_same c.args.ss.now c.loop-k.ss c.at.result.now.0 c.loop-k.invariant.sets p.known)) p.places

pub outs_from-requires-clause-packets : goal.outs_from-requires-clause-packets
outs_from-requires-clause-packets c =
    let l : c.loop-k.k < length c.args.entries.now = omega (arith, c.loop-k-test.true, c.len-k-end.ensures) in
    set_grows c.args.st.now c.loop-k.st c.at.result.now.1 c.loop-k.invariant.grows
    (each_at (IsPair c.args.st.now c.args.ss.now (length c.args.states.now)) c.args.entries.now c.loop-k.k c.at.result.now c.requires.entries l c.at.ensures).packets

pub loop-k-preserved : goal.loop-k-preserved
loop-k-preserved c =
    let l : c.loop-k.k < length c.args.entries.now = omega (arith, c.loop-k-test.true, c.len-k-end.ensures) in
    let t : Transitions = record { source = c.at.result.now.0; outs = c.in_ok-outs.outs } in
    record {
      grows = grows_on _ _ _ c.loop-k.invariant.grows c.outs_from.ensures.grows;
      sets = sets_on _ _ _ c.loop-k.invariant.sets c.outs_from.ensures.sets;
      made = subst (λ ts. AreTransitions c.args.st.now c.args.ss.now c.args.states.now (take (c.loop-k.k + 1) c.args.entries.now) c.outs_from.new.st c.outs_from.new.ss ts) (sym c.in_ok-push.ensures.ok)
          (subst (λ q. AreTransitions c.args.st.now c.args.ss.now c.args.states.now q c.outs_from.new.st c.outs_from.new.ss (c.loop-k.all ++ t ∷ [])) (sym (take_more c.args.entries.now c.loop-k.k c.at.result.now l c.at.ensures))
          (transitions_push c.args.st.now c.loop-k.st c.outs_from.new.st c.args.ss.now c.loop-k.ss c.outs_from.new.ss c.args.states.now (take c.loop-k.k c.args.entries.now) c.loop-k.all c.at.result.now t
          c.requires.states c.loop-k.invariant.made c.loop-k.invariant.grows c.loop-k.invariant.sets c.outs_from.ensures.grows c.outs_from.ensures.sets
          (each_at (IsPair c.args.st.now c.args.ss.now (length c.args.states.now)) c.args.entries.now c.loop-k.k c.at.result.now c.requires.entries l c.at.ensures) refl c.in_ok-outs.ensures.ok));
    }
