use Rattle.std.proofs.Common.{subst}
use Rattle.std.specs.Prelude.{IfSome}
use Rattle.nk_steps.specs.Single.{AreLeafSteps}
use Rattle.nk_steps.proofs.SingleParts.{leaf_single}
use Rattle.nk_steps.proofs.single.single_leaf.Goals as goal

pub returns-clause-ok : goal.returns-clause-ok
returns-clause-ok c =
    let steps : AreLeafSteps c.args.st.now c.args.d c.leaf_steps.new.ss c.in-Some.outs = subst (λ o. IfSome o (λ r. AreLeafSteps c.args.st.now c.args.d c.leaf_steps.new.ss r)) c.in-Some.is c.in_ok-outs.ensures.ok in
    leaf_single c.args.st.now c.leaf_in_order.new.self c.leaf_steps.new.ss c.args.d c.in_ok-r.r c.in-Some.outs steps c.in_ok-r.ensures.ok c.in_ok-r.ensures.later
