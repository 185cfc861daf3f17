use Rattle.nk_compile.proofs.EndLemmas.{ends_left}
use Rattle.nk_compile.proofs.ends.+put_ends.Goals as goal

pub put_all_ends-loop-q-preserved : goal.put_all_ends-loop-q-preserved
put_all_ends-loop-q-preserved t c = λ new left. c.loop-q.invariant new (ends_left c.loop-q.ends c.put_ends.new.ends new c.args.ps.now c.loop-q.q-index c.q-item.result c.loop-q-test.true c.q-item.is c.put_ends.ensures left)
