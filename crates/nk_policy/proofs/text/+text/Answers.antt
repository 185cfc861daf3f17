use Rattle.nk_policy.proofs.TextSteps.{sum_done, seq_done}
use Rattle.nk_policy.proofs.text.+text.Goals as goal

pub push_sum-returns : goal.push_sum-returns
push_sum-returns t c =
    sum_done c.args.fields.now c.args.ps.now c.loop-q.q-index _ c.loop-q.out.items c.args.out.now.items c.loop-q.before.now c.loop-q-test.false c.is_empty.ensures c.if-is_empty.false c.loop-q.invariant

pub push_seq-returns : goal.push_seq-returns
push_seq-returns t c =
    seq_done c.args.fields.now c.args.ps.now c.loop-q.q-index _ c.loop-q.out.items c.args.out.now.items c.loop-q.before.now c.loop-q-test.false c.is_empty.ensures c.if-is_empty.false c.loop-q.invariant
