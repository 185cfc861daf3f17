use Rattle.std.proofs.Common.{◌≡◌, ◌<◌, ◌∙◌, ap, arith}
use Rattle.nk_store.specs.Nodes.{field_of_node}
use Rattle.nk_store.specs.StoreState.{root_field}
use Rattle.nk_apply.proofs.Parts.{root_field_of_node, split_at}
use Rattle.nk_apply.proofs.walks.first_before.Goals as goal

pub returns-then-place : goal.returns-then-place
returns-then-place c =
    let st = c.args.st.now in
    let less : c.in-Case.g < c.args.place = omega (arith, c.place.ensures.is, c.if-place.true) in
    let t : root_field st c.args.d ≡ c.in-Case.g = root_field_of_node st c.args.d c.view.result.now c.view.ensures.node c.view.ensures.means ∙ ap field_of_node c.in-Case.is in
    (less, t, split_at st c.in-Case.g c.args.d c.view.result.now c.requires.id c.view.ensures.node c.view.ensures.means (omega (arith, t)) (omega (arith, less, c.requires.few)))
