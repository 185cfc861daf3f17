use Rattle.std.proofs.Common.{◌≡◌, ◌<◌, ◌∙◌, sym, subst, ap, get_or}
use Rattle.nk_store.specs.StoreState.{IsId, look, IsNodeOf, IsCase}
use Rattle.nk_store.specs.Nodes.{child_at}
use Rattle.nk_store.proofs.Stores.{case_child, case_below}
use Rattle.nk_store.proofs.node_table.NodeTable.look.Goals as goal

is_case : (c : goal.After-part_child-at) → IsCase c.args.self.now c.loop-outs.at c.in-Case.f c.in-Case.parts
is_case c = subst (IsNodeOf c.args.self.now c.loop-outs.at) c.in-Case.is c.view.ensures.means

next : (c : goal.After-part_child-at) →
    c.part_child-at.result ≡ child_at 0 c.in-Case.parts (get_or c.args.p.now c.in-Case.f 0)
next c = c.part_child-at.ensures ∙ ap (λ ps. child_at 0 ps c.get.result) c.as_slice-in-Case.ensures ∙ ap (λ v. child_at 0 c.in-Case.parts v) c.get.ensures

pub loop-outs-smaller : goal.loop-outs-smaller
loop-outs-smaller c = subst (λ k. k < c.loop-outs.at) (sym (next c)) (case_below _ _ _ _ _ (is_case c))

pub loop-outs-preserved : goal.loop-outs-preserved
loop-outs-preserved c = record {
  id = subst (IsId c.args.self.now) (sym (next c)) (case_child _ _ _ _ _ (is_case c)).id;
  leaf = ap (λ k. look c.args.self.now k c.args.p.now) (next c) ∙ sym ((is_case c).leaf c.args.p.now) ∙ c.loop-outs.invariant.leaf;
}
