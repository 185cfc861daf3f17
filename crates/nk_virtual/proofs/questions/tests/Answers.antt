use Rattle.std.proofs.Common.{◌≡◌, ◌<◌, ◌≤◌, length, sym, ap, ◌∙◌, arith}
use Rattle.std.specs.Prelude.{slice_index}
use Rattle.std.proofs.lemmas.List.{drop_all}
use Rattle.nk_policy.specs.Policy.{test}
use Rattle.nk_policy.specs.Tree.{trees_of}
use Rattle.nk_policy.proofs.Trees.{joined, joined_none}
use Rattle.nk_virtual.specs.Questions.{tests_from}
use Rattle.nk_virtual.proofs.Parts.{tests_more}
use Rattle.nk_virtual.proofs.questions.tests.Goals as goal

pub loop-place-preserved : goal.loop-place-preserved
loop-place-preserved c =
    let maxima = c.args.fields.now.maxima in
    let within : c.loop-place.place < length maxima = omega (arith, c.loop-place-test.true, c.len-place-end.ensures) in
    let value : c.get.result ≡ slice_index c.args.x.now c.loop-place.place = c.get.ensures ∙ ap (slice_index c.args.x.now) c.new-f.ensures in
    tests_more maxima c.args.x.now c.loop-place.place _ c.loop-place.out.items _ _ within c.in_ok-push.ensures.items
    (ap (λ f. test f c.get.result) c.new-f.ensures ∙ ap (test c.loop-place.place) value)
    c.loop-place.invariant

pub returns : goal.returns
returns c =
    let maxima = c.args.fields.now.maxima in
    let past : length maxima ≤ c.loop-place.place = omega (arith, c.loop-place-test.false, c.len-place-end.ensures) in
    sym (joined_none (trees_of c.loop-place.out.items))
    ∙ ap (λ l. joined (trees_of c.loop-place.out.items) (tests_from c.loop-place.place l c.args.x.now)) (sym (drop_all c.loop-place.place maxima past))
    ∙ c.loop-place.invariant
