use Rattle.std.proofs.Common.{◌∙◌, ◌++◌, sym}
use Rattle.nk_flight.proofs.Blocks.{so_far}
use Rattle.nk_flight.proofs.waiting.Waiting.listed.Goals as goal

pub loop-block-preserved : goal.loop-block-preserved
loop-block-preserved c =
    c.in_ok-extend_from_slice.ensures.items
    ∙ (λ j. c.loop-block.invariant j ++ (c.as_slice.ensures.value ∙ c.block.view_is) j)
    ∙ sym (so_far c.deref-block-items.result.now c.loop-block.block-index c.block-item.result c.loop-block-test.true c.block-item.is)
