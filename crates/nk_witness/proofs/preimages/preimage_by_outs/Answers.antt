use Rattle.std.proofs.Common.{◌<◌, length, arith}
use Rattle.nk_store.proofs.Stores.{grows_on}
use Rattle.nk_sets.specs.PacketSets.{IsSet}
use Rattle.nk_sets.proofs.SetLemmas.{set_grows}
use Rattle.nk_sets.proofs.OutEntries.{suits_on, suits_at}
use Rattle.nk_goal.proofs.Growing.{each_weaker}
use Rattle.nk_witness.proofs.PreimageSteps.{preimage_by_none, preimage_by_push}
use Rattle.nk_witness.proofs.preimages.preimage_by_outs.Goals as goal

pub loop-i-init : goal.loop-i-init
loop-i-init c = record {
  grows = c.empty.ensures.grows;
  made = preimage_by_none c.args.st.now c.empty.new.st c.args.outs.now c.args.next.now c.in_ok-all.all c.in_ok-all.ensures.ok c.in_ok-all.ensures.predicate;
}

pub preimage_by_out-requires-clause-packets : goal.preimage_by_out-requires-clause-packets
preimage_by_out-requires-clause-packets c =
    let l : c.loop-i.i < length c.args.outs.now = omega (arith, c.loop-i-test.true, c.len-i-end.ensures) in
    (suits_on c.args.st.now c.loop-i.st c.at-q.result.now c.loop-i.invariant.grows (suits_at c.args.st.now c.args.outs.now c.loop-i.i c.at-q.result.now c.requires.outs l c.at-q.ensures)).packets

pub preimage_by_out-requires-clause-next : goal.preimage_by_out-requires-clause-next
preimage_by_out-requires-clause-next c =
    each_weaker (λ p. IsSet c.args.st.now p.1) (λ p. IsSet c.loop-i.st p.1) c.args.next.now (λ p q. set_grows c.args.st.now c.loop-i.st p.1 c.loop-i.invariant.grows q) c.requires.next

pub union-requires-clause-left : goal.union-requires-clause-left
union-requires-clause-left c = c.preimage_by_out.ensures.grows.ids c.loop-i.all c.loop-i.invariant.made.packets.id

pub union-requires-clause-right : goal.union-requires-clause-right
union-requires-clause-right c = c.in_ok-some.ensures.ok.packets.id

pub loop-i-preserved : goal.loop-i-preserved
loop-i-preserved c =
    let l : c.loop-i.i < length c.args.outs.now = omega (arith, c.loop-i-test.true, c.len-i-end.ensures) in
    record {
      grows = grows_on _ _ _ c.loop-i.invariant.grows (grows_on _ _ _ c.preimage_by_out.ensures.grows c.union.ensures.grows);
      made = preimage_by_push c.args.st.now c.loop-i.st c.preimage_by_out.new.st c.union.new.st c.args.outs.now c.loop-i.i c.at-q.result.now c.args.next.now c.loop-i.all c.in_ok-some.some c.in_ok-more.more
          c.requires.outs c.requires.next l c.at-q.ensures c.loop-i.invariant.grows c.loop-i.invariant.made c.preimage_by_out.ensures.grows c.in_ok-some.ensures.ok c.in_ok-more.ensures.ok c.in_ok-more.ensures.predicate;
    }
