use Rattle.std.proofs.Common.{◌∙◌, subst, sym, ap}
use Rattle.nk_store.specs.StoreState.{IsId, IsNodeOf}
use Rattle.nk_store.specs.Nodes.{child_at}
use Rattle.nk_store.proofs.Stores.{case_child}
use Rattle.nk_extract.proofs.rows.root.Goals as goal

pub returns-then-place-eq0-clause-id : goal.returns-then-place-eq0-clause-id
returns-then-place-eq0-clause-id c =
    subst (IsId c.args.st.now) (sym (c.part_child.ensures ∙ ap (λ ps. child_at 0 ps c.args.switch) c.as_slice.ensures))
    (case_child c.args.st.now c.args.d c.in-Case.f c.in-Case.parts c.args.switch (subst (IsNodeOf c.args.st.now c.args.d) c.in-Case.is c.view.ensures.means)).id
