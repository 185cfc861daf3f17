use Rattle.std.proofs.Common.{subst}
use Rattle.std.proofs.lemmas.Option.{IfSome_then}
use Rattle.std.proofs.lemmas.Result.{IfOk-weaker}
use Rattle.nk_store.specs.StoreState.{IsNodeOf}
use Rattle.nk_steps.proofs.SingleLeaves.{leaf_steps_of}
use Rattle.nk_steps.proofs.single.leaf_steps.Goals as goal

pub returns-clause-ok : goal.returns-clause-ok
returns-clause-ok c =
    let leaf = subst (IsNodeOf c.args.st.now c.args.d) c.in-Leaf.is c.view.ensures.means in
    IfOk-weaker c.outs_single.result _ _
    (λ o h. IfSome_then o h (λ r k. leaf_steps_of c.args.st.now c.args.d c.outs_single.new.ss c.in-Leaf.outs c.as_slice.result.now r leaf c.as_slice.ensures k)) c.outs_single.ensures.ok
