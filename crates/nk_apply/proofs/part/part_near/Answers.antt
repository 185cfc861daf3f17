use Rattle.std.proofs.Common.{◌≡◌, ◌≢◌, sym, ap, subst, ◌∙◌, arith, get_or}
use Rattle.std.proofs.lemmas.Bool.Decides.{nat_tests}
use Rattle.nk_store.specs.Nodes.{field_of_node, Rises}
use Rattle.nk_store.specs.StoreState.{root_field}
use Rattle.nk_apply.specs.Cofactors.{IsPart, found_in}
use Rattle.nk_apply.proofs.Parts.{case_part, whole_part, view_case, whole_other, whole_leaf, root_field_of_node}
use Rattle.nk_apply.proofs.part.part_near.Goals as goal

pub found_near-requires : goal.found_near-requires
found_near-requires c =
    let st = c.args.st.now in
    let same : c.in-Case.g ≡ c.args.f = grind (arith, nat_tests, c.eq.ensures, c.if-eq.true) in
    let known = view_case st c.args.d c.args.f c.in-Case.g c.view.result.now c.in-Case.parts c.view.ensures.node c.view.ensures.means c.in-Case.is same in
    record {
      rise = subst (λ m. Rises m 0 c.as_slice.result.now) (sym c.max-max.ensures) (subst (Rises (get_or st.maxes c.args.f 0) 0) (sym c.as_slice.ensures) known.1.parts_ok.rise);
      within = omega (arith, c.max-max.ensures, c.requires.within);
    }

pub returns-then-eq : goal.returns-then-eq
returns-then-eq c =
    let st = c.args.st.now in
    let same : c.in-Case.g ≡ c.args.f = grind (arith, nat_tests, c.eq.ensures, c.if-eq.true) in
    let known = view_case st c.args.d c.args.f c.in-Case.g c.view.result.now c.in-Case.parts c.view.ensures.node c.view.ensures.means c.in-Case.is same in
    subst (IsPart st c.args.f c.args.d c.args.v) (sym (c.found_near.ensures.found ∙ ap (λ ps. found_in (0, 0) ps c.args.v) c.as_slice.ensures))
    (case_part st c.args.f c.args.d c.args.v c.in-Case.parts known.0 known.1 c.requires.within)

pub returns-else-eq : goal.returns-else-eq
returns-else-eq c =
    let st = c.args.st.now in
    let other : c.in-Case.g ≢ c.args.f = grind (arith, nat_tests, c.eq.ensures, c.if-eq.false) in
    let t : root_field st c.args.d ≡ c.in-Case.g = root_field_of_node st c.args.d c.view.result.now c.view.ensures.node c.view.ensures.means ∙ ap field_of_node c.in-Case.is in
    subst (λ m. IsPart st c.args.f c.args.d c.args.v (m, c.args.d)) (sym c.max-max.ensures)
    (whole_part st c.args.f c.args.d c.args.v (whole_other st c.args.d c.args.f c.in-Case.g c.view.result.now c.in-Case.parts c.view.ensures.node c.in-Case.is other) c.requires.id (omega (arith, t, other, c.requires.first)) c.requires.within)

pub returns-in-Leaf : goal.returns-in-Leaf
returns-in-Leaf c =
    let st = c.args.st.now in
    let t : root_field st c.args.d ≡ 18 = root_field_of_node st c.args.d c.view.result.now c.view.ensures.node c.view.ensures.means ∙ ap field_of_node c.in-Leaf.is in
    subst (λ m. IsPart st c.args.f c.args.d c.args.v (m, c.args.d)) (sym c.max-max.ensures)
    (whole_part st c.args.f c.args.d c.args.v (whole_leaf st c.args.d c.args.f c.view.result.now _ c.view.ensures.node c.in-Leaf.is) c.requires.id (omega (arith, t, c.requires.field)) c.requires.within)
