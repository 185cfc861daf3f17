use Rattle.std.proofs.Common.{◌≡◌, ◌<◌, ◌∙◌, ap, arith}
use Rattle.nk_store.specs.Nodes.{field_of_node}
use Rattle.nk_store.specs.StoreState.{root_field}
use Rattle.nk_apply.proofs.Parts.{root_field_of_node, split_at, case_field}
use Rattle.nk_apply.proofs.part.tested.Goals as goal

pub returns-in-Case : goal.returns-in-Case
returns-in-Case c =
    let st = c.args.st.now in
    let h : c.in-Case.f < 18 = case_field st c.args.a c.in-Case.f c.view.result.now _ c.view.ensures.means c.in-Case.is in
    let t : root_field st c.args.a ≡ c.in-Case.f = root_field_of_node st c.args.a c.view.result.now c.view.ensures.node c.view.ensures.means ∙ ap field_of_node c.in-Case.is in
    (h, t, split_at st c.in-Case.f c.args.a c.view.result.now c.requires c.view.ensures.node c.view.ensures.means (omega (arith, t)) h)
