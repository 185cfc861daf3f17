use Rattle.std.proofs.Common.{arith, sym}
use Rattle.nk_topo.proofs.Orders.{double_more, double_nowhere}
use Rattle.nk_topo.proofs.search.repeats.Goals as goal

pub loop-i-preserved : goal.loop-i-preserved
loop-i-preserved c =
    double_more c.args.numbers.now c.loop-i.i c.requires (omega arith) (omega arith) c.if-numbers-i.false c.loop-i.invariant

pub returns : goal.returns
returns c = sym (double_nowhere c.args.numbers.now c.loop-i.i (omega arith) c.loop-i.invariant)
