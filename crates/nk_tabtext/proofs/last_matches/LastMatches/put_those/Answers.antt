use Rattle.std.proofs.Common.{◌++◌, take}
use Rattle.nk_tabtext.specs.Remembered.{those}
use Rattle.nk_tabtext.proofs.Remembering.{turned_all, turned_more, turned_none}
use Rattle.nk_tabtext.proofs.last_matches.LastMatches.put_those.Goals as goal

pub loop-m-init : goal.loop-m-init
loop-m-init c = λ row. turned_none c.args.fs.now row c.args.from c.args.self.now

pub loop-m-preserved : goal.loop-m-preserved
loop-m-preserved c = λ row b.
    let fs = c.args.fs.now in
    let i = c.loop-m.m-index in
    turned_more fs c.args.tag row c.args.ms.now i _ c.m-item.result _ c.loop-m-test.true c.m-item.is
    (c.in_ok-place.ensures (row ++ those fs c.args.tag (take i c.args.ms.now)) (c.loop-m.invariant row b))

pub returns : goal.returns
returns c = λ row b. turned_all c.args.fs.now c.args.tag row c.args.ms.now c.loop-m.m-index _ _ c.loop-m-test.false (c.loop-m.invariant row b)
