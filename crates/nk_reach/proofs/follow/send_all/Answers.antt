use Rattle.std.proofs.Common.{◌<◌, length, arith}
use Rattle.nk_store.proofs.Stores.{grows_on}
use Rattle.nk_sets.proofs.OutEntries.{suits_on, suits_at}
use Rattle.nk_reach.proofs.Sending.{all_sent_push}
use Rattle.nk_reach.proofs.follow.send_all.Goals as goal

pub send-requires-clause-act : goal.send-requires-clause-act
send-requires-clause-act c =
    let l : c.loop-i.i < length c.args.outs.now = omega (arith, c.loop-i-test.true, c.len-i-end.ensures) in
    (suits_on c.args.st.now c.loop-i.st c.at-q.result.now c.loop-i.invariant.grows (suits_at c.args.st.now c.args.outs.now c.loop-i.i c.at-q.result.now c.requires.packets l c.at-q.ensures)).suits

pub send-requires-clause-packets : goal.send-requires-clause-packets
send-requires-clause-packets c =
    let l : c.loop-i.i < length c.args.outs.now = omega (arith, c.loop-i-test.true, c.len-i-end.ensures) in
    (suits_on c.args.st.now c.loop-i.st c.at-q.result.now c.loop-i.invariant.grows (suits_at c.args.st.now c.args.outs.now c.loop-i.i c.at-q.result.now c.requires.packets l c.at-q.ensures)).packets

pub loop-i-preserved : goal.loop-i-preserved
loop-i-preserved c =
    let l : c.loop-i.i < length c.args.outs.now = omega (arith, c.loop-i-test.true, c.len-i-end.ensures) in
    record {
      grows = grows_on _ _ _ c.loop-i.invariant.grows c.send.ensures.grows;
      sent = all_sent_push c.args.st.now c.loop-i.st c.send.new.st c.args.outs.now c.loop-i.i c.at-q.result.now c.args.raw.now c.loop-i.raw c.send.new.raw c.requires.packets l c.at-q.ensures
          c.loop-i.invariant.sent c.loop-i.invariant.grows c.in_ok-send.ensures.ok;
    }
