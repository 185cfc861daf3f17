use Rattle.std.proofs.Common.{◌++◌, ap, ◌∙◌}
use Rattle.std.proofs.lemmas.List.{take_all}
use Rattle.nk_policy.proofs.HistoryLists.{turn_done, turns_done}
use Rattle.nk_policy.proofs.all_histories.+histories.Goals as goal

pub push_all-loop-q-preserved : goal.push_all-loop-q-preserved
push_all-loop-q-preserved t c =
    turn_done c.args.ps.now c.loop-q.q-index c.loop-g.g-index c.q-item.result c.loop-q.current.items c.deref-g-items.result.now c.loop-g.next.items _ c.loop-q-test.true c.q-item.is c.deref-g-items.ensures.value c.loop-g-test.false c.loop-g.invariant c.loop-q.invariant

pub push_all-returns : goal.push_all-returns
push_all-returns t c =
    let all = take_all c.loop-g-2.g-index c.deref-g-items-2.result.now c.loop-g-2-test.false in
    c.loop-g-2.invariant
    ∙ ap (λ l. c.args.out.now.items ++ l) (all ∙ c.deref-g-items-2.ensures.value ∙ turns_done c.args.ps.now c.loop-q.q-index c.loop-q.current.items _ c.loop-q-test.false c.loop-q.invariant)
