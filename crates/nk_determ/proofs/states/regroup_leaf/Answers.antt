use Rattle.std.proofs.Common.{◌≡◌, ◌∙◌, true, nat_eq, sym, ap, subst, arith}
use Rattle.std.specs.List.{list_all}
use Rattle.std.proofs.lemmas.Result.{IfOk-weaker}
use Rattle.nk_store.specs.Leaves.{Strict, Every, Suits}
use Rattle.nk_store.specs.StoreState.{IsNodeOf, IsLeaf}
use Rattle.nk_determ.specs.States.{HasAll, regrouped}
use Rattle.nk_apply.proofs.MadeOf.{leaf_made}
use Rattle.nk_determ.proofs.Interned.{sets_same}
use Rattle.nk_determ.proofs.Finals.{final_leaf}
use Rattle.nk_determ.proofs.Regrouped.{regrouped_ordered, regrouped_suits}
use Rattle.nk_determ.proofs.states.regroup_leaf.Goals as goal

pub outs_to_sets-requires : goal.outs_to_sets-requires
outs_to_sets-requires c =
    let node : IsLeaf c.args.st.now c.args.d c.in-Leaf.outs = subst (IsNodeOf c.args.st.now c.args.d) c.in-Leaf.is c.view.ensures.means in
    subst Strict (sym c.as_slice-in-Leaf.ensures) node.sorted

pub leaf-requires : goal.leaf-requires
leaf-requires c =
    let node : IsLeaf c.args.st.now c.args.d c.in-Leaf.outs = subst (IsNodeOf c.args.st.now c.args.d) c.in-Leaf.is c.view.ensures.means in
    regrouped_suits c.args.st.now.maxes c.outs_to_sets.new.sets c.as_slice-in-Leaf.result.now c.in_ok-outs-in-Leaf.outs
    (c.in_ok-outs-in-Leaf.ensures.is c.outs_to_sets.new.sets (sets_same c.outs_to_sets.new.sets)) (subst (Every (Suits c.args.st.now.maxes)) (sym c.as_slice-in-Leaf.ensures) node.suits)

pub returns-clause-ok : goal.returns-clause-ok
returns-clause-ok c =
    let node : IsLeaf c.args.st.now c.args.d c.in-Leaf.outs = subst (IsNodeOf c.args.st.now c.args.d) c.in-Leaf.is c.view.ensures.means in
    IfOk-weaker c.leaf.result _ _ (λ r h. record {
      leaves = λ later g. leaf_made c.args.st.now c.leaf.new.self (λ os. regrouped later os) c.args.d r c.as_slice-in-Leaf.result.now c.in_ok-outs-in-Leaf.outs
          (λ pk. node.leaf pk ∙ sym c.as_slice-in-Leaf.ensures)
          (regrouped_ordered later c.as_slice-in-Leaf.result.now c.in_ok-outs-in-Leaf.outs (c.in_ok-outs-in-Leaf.ensures.is later g)) h.0 h.1 h.2;
      held = λ pk. subst (HasAll c.outs_to_sets.new.sets) (sym (node.leaf pk ∙ sym c.as_slice-in-Leaf.ensures)) c.in_ok-outs-in-Leaf.ensures.held;
    }) c.leaf.ensures.ok

pub returns-clause-later : goal.returns-clause-later
returns-clause-later c =
    let node : IsLeaf c.args.st.now c.args.d c.in-Leaf.outs = subst (IsNodeOf c.args.st.now c.args.d) c.in-Leaf.is c.view.ensures.means in
    IfOk-weaker c.leaf.result _ _ (λ r h. omega (arith, h, node.root_field_is)) c.leaf.ensures.later

pub returns-then-are_final-clause-ok : goal.returns-then-are_final-clause-ok
returns-then-are_final-clause-ok c =
    let node : IsLeaf c.args.st.now c.args.d c.in-Leaf.outs = subst (IsNodeOf c.args.st.now c.args.d) c.in-Leaf.is c.view.ensures.means in
    let all : list_all (λ o. nat_eq o.target 0) c.in-Leaf.outs ≡ true = ap (list_all (λ o. nat_eq o.target 0)) (sym c.as_slice.ensures) ∙ sym c.are_final.ensures ∙ c.if-are_final.true in
    final_leaf c.args.st.now c.args.ss.now c.args.d c.in-Leaf.outs c.requires.id node all
