use Rattle.std.proofs.Common.{◌<◌, [], length, take, sym, subst, arith}
use Rattle.nk_store.proofs.Stores.{grows_on, grows_same}
use Rattle.nk_sets.specs.PacketSets.{IsSet}
use Rattle.nk_sets.proofs.SetLemmas.{set_grows}
use Rattle.nk_goal.proofs.Places.{each_at}
use Rattle.nk_goal.proofs.Adding.{take_more, take_whole}
use Rattle.nk_backward.specs.Closures.{IsLedInto, AreFound}
use Rattle.nk_backward.proofs.Tracing.{outs_suit_on}
use Rattle.nk_backward.proofs.Gaining.{found_nothing}
use Rattle.nk_backward.proofs.Preceding.{predecessors_on}
use Rattle.nk_backward.proofs.Taking.{frontier_push}
use Rattle.nk_backward.proofs.closure.led_into.Goals as goal

pub loop-k-init : goal.loop-k-init
loop-k-init c = record {
  grows = grows_same c.args.st.now;
  made = subst (λ ps. AreFound c.args.st.now (IsLedInto c.args.st.now c.args.ts.now []) [] c.args.st.now ps) (sym c.new-found.ensures)
      (found_nothing c.args.st.now c.args.st.now (IsLedInto c.args.st.now c.args.ts.now []) [] (grows_same c.args.st.now) tt (λ i z w m. absurd m.3));
}

pub take_back-requires-clause-suits_store : goal.take_back-requires-clause-suits_store
take_back-requires-clause-suits_store c = outs_suit_on c.args.st.now c.loop-k.st c.args.ts.now c.loop-k.invariant.grows c.requires.suits_store

pub take_back-requires-clause-pre : goal.take_back-requires-clause-pre
take_back-requires-clause-pre c = predecessors_on c.args.st.now c.loop-k.st c.args.ts.now c.args.pre.now.places c.args.pre.now.into.entries c.loop-k.invariant.grows c.requires.suits_store c.requires.pre

pub take_back-requires-clause-packets : goal.take_back-requires-clause-packets
take_back-requires-clause-packets c =
    let l : c.loop-k.k < length c.args.frontier.now = omega (arith, c.loop-k-test.true, c.len-count.ensures) in
    set_grows c.args.st.now c.loop-k.st c.at.result.now.1 c.loop-k.invariant.grows (each_at (λ p. IsSet c.args.st.now p.1) c.args.frontier.now c.loop-k.k c.at.result.now c.requires.frontier l c.at.ensures)

pub loop-k-preserved : goal.loop-k-preserved
loop-k-preserved c =
    let l : c.loop-k.k < length c.args.frontier.now = omega (arith, c.loop-k-test.true, c.len-count.ensures) in
    let set = each_at (λ p. IsSet c.args.st.now p.1) c.args.frontier.now c.loop-k.k c.at.result.now c.requires.frontier l c.at.ensures in
    record {
      grows = grows_on _ _ _ c.loop-k.invariant.grows c.take_back.ensures.grows;
      made = subst (λ ps. AreFound c.args.st.now (IsLedInto c.args.st.now c.args.ts.now ps) [] c.take_back.new.st c.take_back.new.found) (sym (take_more c.args.frontier.now c.loop-k.k c.at.result.now l c.at.ensures))
          (frontier_push c.args.st.now c.loop-k.st c.take_back.new.st c.args.ts.now (take c.loop-k.k c.args.frontier.now) c.at.result.now [] c.loop-k.found c.take_back.new.found
          c.loop-k.invariant.grows c.requires.suits_store set c.loop-k.invariant.made c.in_ok-take_back.ensures.ok);
    }

pub returns-clause-ok : goal.returns-clause-ok
returns-clause-ok c =
    let all = take_whole c.args.frontier.now c.loop-k.k (omega (arith, c.loop-k-test.false, c.len-count.ensures)) in
    subst (λ ps. AreFound c.args.st.now (IsLedInto c.args.st.now c.args.ts.now ps) [] c.loop-k.st c.loop-k.found) all c.loop-k.invariant.made
