use Rattle.std.proofs.Common.{◌∙◌, arith}
use Rattle.std.proofs.lemmas.List.{get_or_default}
use Rattle.nk_apply.proofs.Intervals.{steady_more, cofactors_more}
use Rattle.nk_apply.proofs.few.interval_at.Goals as goal

pub loop-i-preserved : goal.loop-i-preserved
loop-i-preserved c =
    let is = c.index-ds-i.is ∙ get_or_default c.args.ds.now c.loop-i.i c.index-ds-i.result 0 c.loop-i-test.true in
    record {
      from = omega (arith, c.loop-i.invariant.from, c.part_at-until.ensures.from, c.min-end.ensures);
      within = omega (arith, c.loop-i.invariant.within, c.min-end.ensures);
      steady = steady_more c.args.st.now c.args.f c.args.ds.now c.loop-i.i c.index-ds-i.result c.args.v c.loop-i.end c.min-end.result c.part_at-until.result c.loop-i.invariant.steady is c.part_at-until.ensures c.min-end.ensures;
      children = cofactors_more c.args.st.now c.args.f c.args.v c.loop-i.i c.index-ds-i.result c.args.ds.now c.push.new.self c.loop-i.all c.part_at-until.result c.loop-i-test.true is c.part_at-until.ensures c.loop-i.invariant.children c.in_ok-push.ensures.ok;
    }
