use Rattle.std.proofs.Common.{arith}
use Rattle.nk_store.proofs.Ordered.{strict_from_neighbours}
use Rattle.nk_store.proofs.store.ascend.Goals as goal

pub returns : goal.returns
returns c _ = strict_from_neighbours c.args.outs.now (λ k d l. c.loop-i.invariant k d (omega (arith, l, c.loop-i-test.false, c.loop-i.auto.i, c.loop-i.auto.i-end)))
