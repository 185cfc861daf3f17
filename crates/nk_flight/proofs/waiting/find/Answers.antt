use Rattle.std.proofs.Common.{◌≡◌, ◌+◌, ◌-◌, ◌≤◌, ◌∙◌, ap, sym, subst, length, take}
use Rattle.std.specs.List.{concat}
use Rattle.std.proofs.lemmas.List.{get_or_default}
use Rattle.nk_flight.proofs.Blocks.{goes_on}
use Rattle.nk_flight.proofs.waiting.find.Goals as goal

pub loop-within-preserved : goal.loop-within-preserved
loop-within-preserved c =
    let bs = c.args.blocks.now in
    let b = c.loop-within.block in
    let tested = c.index-blocks-block.result in
    let passed = c.index-blocks-block-in-loop-within.result in
    let lt = c.loop-within.invariant.0 in
    let same : tested ≡ passed = c.index-blocks-block.is ∙ get_or_default bs b tested passed lt ∙ sym c.index-blocks-block-in-loop-within.is in
    let le : length passed ≤ c.loop-within.within = subst (λ n. n ≤ c.loop-within.within) (c.len.ensures ∙ ap length same) c.loop-within-test.true in
    let next = goes_on bs c.args.i b c.loop-within.within passed c.requires lt c.loop-within.invariant.1 c.index-blocks-block-in-loop-within.is le in
    (next.0, ap (λ n. length (concat (take (b + 1) bs)) + (c.loop-within.within - n)) c.len-within.ensures ∙ next.1)
