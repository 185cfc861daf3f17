use Rattle.std.proofs.Common.{◌≡◌, ◌≢◌, sym, subst, arith}
use Rattle.std.proofs.lemmas.Bool.Decides.{nat_tests}
use Rattle.std.proofs.lemmas.Result.{IfOk-weaker}
use Rattle.nk_store.specs.StoreState.{look}
use Rattle.nk_apply.specs.Cofactors.{cofactor}
use Rattle.nk_apply.specs.Unions.{HaveParts}
use Rattle.nk_apply.proofs.Parts.{view_case, whole_other, whole_leaf}
use Rattle.nk_apply.proofs.PartSums.{case_parts, whole_parts}
use Rattle.nk_apply.proofs.sums.parts_of.Goals as goal

pub returns-then-eq : goal.returns-then-eq
returns-then-eq c =
    let st = c.args.st.now in
    let same : c.in-Case.g ≡ c.args.f = grind (arith, nat_tests, c.eq.ensures, c.if-eq.true) in
    let known = view_case st c.args.d c.args.f c.in-Case.g c.view.result.now c.in-Case.parts c.view.ensures.node c.view.ensures.means c.in-Case.is same in
    IfOk-weaker c.copy.result _ _
    (λ v e. subst (HaveParts st c.args.f (λ v pk. look st (cofactor st c.args.f v c.args.d) pk)) (sym e) (case_parts st c.args.f c.args.d c.in-Case.parts known.0 known.1)) c.copy.ensures

pub returns-else-eq : goal.returns-else-eq
returns-else-eq c =
    let st = c.args.st.now in
    let other : c.in-Case.g ≢ c.args.f = grind (arith, nat_tests, c.eq.ensures, c.if-eq.false) in
    IfOk-weaker c.one_part.result _ _
    (λ ps h. whole_parts st c.args.f c.args.d ps (whole_other st c.args.d c.args.f c.in-Case.g c.view.result.now c.in-Case.parts c.view.ensures.node c.in-Case.is other) h) c.one_part.ensures

pub returns-in-Leaf : goal.returns-in-Leaf
returns-in-Leaf c =
    let st = c.args.st.now in
    IfOk-weaker c.one_part-in-Leaf.result _ _
    (λ ps h. whole_parts st c.args.f c.args.d ps (whole_leaf st c.args.d c.args.f c.view.result.now _ c.view.ensures.node c.in-Leaf.is) h) c.one_part-in-Leaf.ensures
