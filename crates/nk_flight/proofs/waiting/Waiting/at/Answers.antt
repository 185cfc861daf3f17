use Rattle.std.proofs.Common.{◌≡◌, ◌+◌, ◌<◌, ◌∙◌, [], ap, sym, subst, length, take}
use Rattle.std.specs.Prelude.{slice_index, slice_index_or}
use Rattle.std.specs.List.{concat}
use Rattle.nk_flight.proofs.Blocks.{place_at}
use Rattle.nk_flight.proofs.waiting.Waiting.at.Goals as goal

pub returns : goal.returns
returns c =
    let bs = c.self.inside.blocks.items in
    let b = c.find-block.result.0 in
    let j = c.find-block.result.1 in
    let is = c.as_slice.ensures.value in
    let there : b < length bs = subst (λ l. b < length l) is c.find-block.ensures.there in
    let within : j < length (slice_index_or bs b []) = subst (λ l. j < length (slice_index_or l b [])) is c.find-block.ensures.within in
    let before : length (concat (take b bs)) + j ≡ c.args.i = subst (λ l. length (concat (take b l)) + j ≡ c.args.i) is c.find-block.ensures.before in
    c.at.ensures
    ∙ sym (place_at bs b j c.index.result.now there within c.index.ensures)
    ∙ ap (slice_index (concat bs)) before
    ∙ ap (λ l. slice_index l c.args.i) c.self.view_is
