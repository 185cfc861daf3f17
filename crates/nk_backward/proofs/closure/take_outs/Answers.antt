use Rattle.std.proofs.Common.{◌<◌, length, arith}
use Rattle.nk_store.proofs.Stores.{grows_on, grows_same}
use Rattle.nk_sets.proofs.SetLemmas.{set_grows}
use Rattle.nk_sets.proofs.OutEntries.{is_set_at, entry_at}
use Rattle.nk_backward.specs.Closures.{IsTakenBelow}
use Rattle.nk_backward.proofs.Tracing.{outs_suit_on}
use Rattle.nk_backward.proofs.Gaining.{found_nothing}
use Rattle.nk_backward.proofs.Taking.{taken_push}
use Rattle.nk_backward.proofs.closure.take_outs.Goals as goal

pub loop-i-init : goal.loop-i-init
loop-i-init c = record {
  grows = grows_same c.args.st.now;
  made = found_nothing c.args.st.now c.args.st.now (IsTakenBelow c.args.st.now c.args.ts.now c.args.places.now c.args.outs.now 0) c.args.found.now (grows_same c.args.st.now) c.requires.found
      (λ i z w m. absurd (let l = m.1 in omega (arith, l)));
}

pub take_out-requires-clause-suits_store : goal.take_out-requires-clause-suits_store
take_out-requires-clause-suits_store c = outs_suit_on c.args.st.now c.loop-i.st c.args.ts.now c.loop-i.invariant.grows c.requires.suits_store

pub take_out-requires-clause-packets : goal.take_out-requires-clause-packets
take_out-requires-clause-packets c =
    let l : c.loop-i.i < length c.args.outs.now = omega (arith, c.loop-i-test.true, c.len-i-end.ensures) in
    set_grows c.args.st.now c.loop-i.st c.at.result.now.packets c.loop-i.invariant.grows (is_set_at c.args.st.now c.args.outs.now c.loop-i.i c.at.result.now c.requires.outs l c.at.ensures)

pub loop-i-preserved : goal.loop-i-preserved
loop-i-preserved c =
    let l : c.loop-i.i < length c.args.outs.now = omega (arith, c.loop-i-test.true, c.len-i-end.ensures) in
    record {
      grows = grows_on _ _ _ c.loop-i.invariant.grows c.take_out.ensures.grows;
      made = taken_push c.args.st.now c.loop-i.st c.take_out.new.st c.args.ts.now c.args.places.now c.args.outs.now c.loop-i.i c.at.result.now c.args.found.now c.loop-i.found c.take_out.new.found
          c.loop-i.invariant.grows c.requires.suits_store c.requires.places c.requires.outs l (entry_at c.args.outs.now c.loop-i.i c.at.result.now l c.at.ensures) c.loop-i.invariant.made c.in_ok-take_out.ensures.ok;
    }
