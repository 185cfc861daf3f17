use Rattle.std.proofs.Common.{◌∙◌, sym, ap, ◌+◌, drop}
use Rattle.nk_store.specs.ElseChild.{spans, largest}
use Rattle.nk_store.proofs.Children.{rest_is, largest_step}
use Rattle.nk_store.proofs.else_children.else_of_few.Goals as goal

pub loop-c-preserved : goal.loop-c-preserved
loop-c-preserved c =
    largest_step (spans c.args.parts.now 0) c.loop-c.best c.loop-c-item.result (drop (c.loop-c.c-index + 1) c.args.parts.now) c.larger_among-best.result c.larger_among-best.ensures
    ∙ sym (ap (largest (spans c.args.parts.now 0) c.loop-c.best) (rest_is c.args.parts.now c.loop-c.c-index c.loop-c-item.result c.loop-c-test.true c.loop-c-item.is))
    ∙ c.loop-c.invariant
