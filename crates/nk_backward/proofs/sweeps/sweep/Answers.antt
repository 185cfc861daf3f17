use Rattle.std.proofs.Common.{◌<◌, ◌+◌, length, sym, subst, arith}
use Rattle.nk_store.proofs.Stores.{grows_same}
use Rattle.nk_sets.specs.Outs.{AllSuitStore}
use Rattle.nk_sets.proofs.OutEntries.{all_suit_on}
use Rattle.nk_backward.specs.declared.transitions.Transitions.{Transitions}
use Rattle.nk_backward.specs.Sweeps.{IsTakenBack}
use Rattle.nk_backward.proofs.Tracing.{at_place}
use Rattle.nk_backward.proofs.Sweeping.{IsSweptSoFar, place_of, swept_start, swept_next, swept_whole}
use Rattle.nk_backward.proofs.sweeps.sweep.Goals as goal

pub loop-k-init : goal.loop-k-init
loop-k-init c = swept_start c.args.st.now c.args.ts.now c.args.order.now c.args.back.now (grows_same c.args.st.now) c.requires.back c.requires.once

pub at-t-requires : goal.at-t-requires
at-t-requires c =
    let l : c.loop-k.k < length c.args.order.now = omega (arith, c.loop-k-test.true, c.len-k-end.ensures) in
    c.requires.order.within c.at.result.now (c.loop-k.k, l, sym c.at.ensures)

pub sweep_one-requires-clause-suits_store : goal.sweep_one-requires-clause-suits_store
sweep_one-requires-clause-suits_store c =
    let l : c.loop-k.k < length c.args.order.now = omega (arith, c.loop-k-test.true, c.len-k-end.ensures) in
    let j : c.at.result.now.1 < length c.args.ts.now = c.requires.order.within c.at.result.now (c.loop-k.k, l, sym c.at.ensures) in
    all_suit_on c.args.st.now c.loop-k.st c.at-t.result.now.outs c.loop-k.invariant.grows
    (subst (λ (t : Transitions). AllSuitStore c.args.st.now t.outs) (sym (at_place c.args.ts.now c.at.result.now.1 c.at-t.result.now j c.at-t.ensures)) (c.requires.suits_store c.at.result.now.1 j))

pub loop-k-preserved : goal.loop-k-preserved
loop-k-preserved c =
    let l : c.loop-k.k < length c.args.order.now = omega (arith, c.loop-k-test.true, c.len-k-end.ensures) in
    let j : c.at.result.now.1 < length c.args.ts.now = c.requires.order.within c.at.result.now (c.loop-k.k, l, sym c.at.ensures) in
    subst (λ b. IsSweptSoFar c.args.st.now c.args.ts.now c.args.order.now c.args.back.now c.sweep_one.new.st c.sweep_one.new.back (c.loop-k.k + 1) b) (sym c.both_hold-closed.ensures)
    (swept_next c.args.st.now c.loop-k.st c.sweep_one.new.st c.args.ts.now c.args.order.now c.args.back.now c.loop-k.back c.sweep_one.new.back c.loop-k.k c.at.result.now.1 c.loop-k.closed c.in_ok-none.none
    c.requires.suits_store j (place_of c.args.order.now c.loop-k.k c.at.result.now l (sym c.at.ensures)) c.loop-k.invariant c.sweep_one.ensures.grows
    (subst (λ (t : Transitions). IsTakenBack c.loop-k.st t c.loop-k.back c.sweep_one.new.st c.sweep_one.new.back c.in_ok-none.none) (at_place c.args.ts.now c.at.result.now.1 c.at-t.result.now j c.at-t.ensures) c.in_ok-none.ensures.ok))

pub returns-clause-ok : goal.returns-clause-ok
returns-clause-ok c =
    swept_whole c.args.st.now c.loop-k.st c.args.ts.now c.args.order.now c.args.back.now c.loop-k.back c.loop-k.k c.loop-k.closed c.requires.suits_store c.requires.order (omega (arith, c.loop-k-test.false, c.len-k-end.ensures)) c.loop-k.invariant
