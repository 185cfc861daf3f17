use Rattle.std.proofs.Common.{◌≡◌, ◌<◌, ◌≤◌, sym, ap, subst, arith}
use Rattle.std.proofs.lemmas.Bool.Decides.{nat_tests}
use Rattle.nk_store.specs.Nodes.{field_of_node}
use Rattle.nk_apply.specs.Cofactors.{IsFirst}
use Rattle.nk_apply.proofs.Parts.{first_by, case_field}
use Rattle.nk_apply.proofs.pairs.first_field.Goals as goal
use Rattle.nk_apply.proofs.pairs.first_field.Goals.{then-lt, else-lt}

pub returns-in-Leaf-Case : goal.returns-in-Leaf-Case
returns-in-Leaf-Case c =
    let h : c.in-Leaf-Case.g < 18 = case_field c.args.st.now c.args.b c.in-Leaf-Case.g c.view-2.result.now _ c.view-2.ensures.means c.in-Leaf-Case.is-1 in
    let ta : field_of_node c.view.result.now ≡ 18 = ap field_of_node c.in-Leaf-Case.is-0 in
    let tb : field_of_node c.view-2.result.now ≡ c.in-Leaf-Case.g = ap field_of_node c.in-Leaf-Case.is-1 in
    first_by c.args.st.now c.args.a c.args.b c.in-Leaf-Case.g c.view.result.now c.view-2.result.now c.requires.left c.requires.right c.view.ensures.node c.view-2.ensures.node c.view.ensures.means c.view-2.ensures.means (omega (arith, ta, tb, h)) h

pub returns-in-Case-Leaf : goal.returns-in-Case-Leaf
returns-in-Case-Leaf c =
    let h : c.in-Case-Leaf.f < 18 = case_field c.args.st.now c.args.a c.in-Case-Leaf.f c.view.result.now _ c.view.ensures.means c.in-Case-Leaf.is-0 in
    let ta : field_of_node c.view.result.now ≡ c.in-Case-Leaf.f = ap field_of_node c.in-Case-Leaf.is-0 in
    let tb : field_of_node c.view-2.result.now ≡ 18 = ap field_of_node c.in-Case-Leaf.is-1 in
    first_by c.args.st.now c.args.a c.args.b c.in-Case-Leaf.f c.view.result.now c.view-2.result.now c.requires.left c.requires.right c.view.ensures.node c.view-2.ensures.node c.view.ensures.means c.view-2.ensures.means (omega (arith, ta, tb, h)) h

pub returns-after-lt : goal.returns-after-lt
returns-after-lt c =
    let h : c.in-Case-Case.f < 18 = case_field c.args.st.now c.args.a c.in-Case-Case.f c.view.result.now _ c.view.ensures.means c.in-Case-Case.is-0 in
    let k : c.in-Case-Case.g < 18 = case_field c.args.st.now c.args.b c.in-Case-Case.g c.view-2.result.now _ c.view-2.ensures.means c.in-Case-Case.is-1 in
    let ta : field_of_node c.view.result.now ≡ c.in-Case-Case.f = ap field_of_node c.in-Case-Case.is-0 in
    let tb : field_of_node c.view-2.result.now ≡ c.in-Case-Case.g = ap field_of_node c.in-Case-Case.is-1 in
    elim c.if-lt.branch [
      | then-lt w ↦
          let less : c.in-Case-Case.f < c.in-Case-Case.g = grind (arith, nat_tests, c.lt.ensures, w.if-lt.true) in
          subst (IsFirst c.args.st.now c.args.a c.args.b) (sym w.result-is)
          (first_by c.args.st.now c.args.a c.args.b c.in-Case-Case.f c.view.result.now c.view-2.result.now c.requires.left c.requires.right c.view.ensures.node c.view-2.ensures.node c.view.ensures.means c.view-2.ensures.means (omega (arith, ta, tb, less)) h)
      | else-lt w ↦
          let more : c.in-Case-Case.g ≤ c.in-Case-Case.f = grind (arith, nat_tests, c.lt.ensures, w.if-lt.false) in
          subst (IsFirst c.args.st.now c.args.a c.args.b) (sym w.result-is)
          (first_by c.args.st.now c.args.a c.args.b c.in-Case-Case.g c.view.result.now c.view-2.result.now c.requires.left c.requires.right c.view.ensures.node c.view-2.ensures.node c.view.ensures.means c.view-2.ensures.means (omega (arith, ta, tb, more)) k)
    ]
