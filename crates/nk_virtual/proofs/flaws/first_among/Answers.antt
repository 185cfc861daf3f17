use Rattle.std.proofs.Common.{sym, ◌∙◌}
use Rattle.nk_virtual.proofs.Judged.{kept_more, judged_more}
use Rattle.nk_virtual.proofs.flaws.first_among.Goals as goal
use Rattle.nk_virtual.proofs.flaws.first_among.Goals.{then-comes_first+in_ok-found, else-comes_first}

pub loop-k-preserved : goal.loop-k-preserved
loop-k-preserved c =
    elim c.if-comes_first.branch [
      | then-comes_first+in_ok-found w ↦
          judged_more c.args.fields.now c.args.topo.now c.args.tag c.args.links.now c.loop-k.k-index c.k-item.result c.loop-k.first c.if-comes_first.first w.in_ok-found.found c.loop-k-test.true c.k-item.is (sym c.comes_first.ensures ∙ w.if-comes_first.true) w.in_ok-found.ensures (w.first-is ∙ w.earlier-first.ensures) c.loop-k.invariant
      | else-comes_first w ↦
          kept_more c.args.fields.now c.args.topo.now c.args.tag c.args.links.now c.loop-k.k-index c.k-item.result c.loop-k.first c.if-comes_first.first c.loop-k-test.true c.k-item.is (sym c.comes_first.ensures ∙ w.if-comes_first.false) w.first-is c.loop-k.invariant
    ]
