use Rattle.std.proofs.Common.{◌++◌, ◌∙◌, sym, subst}
use Rattle.std.proofs.lemmas.Result.{IfOk-weaker}
use Rattle.nk_apply.proofs.Sequences.{outs_leaf}
use Rattle.nk_steps.specs.ByAct.{AreActsOf}
use Rattle.nk_steps.proofs.by_act.add_acts_of.Goals as goal

pub returns-in-Leaf-clause-acts : goal.returns-in-Leaf-clause-acts
returns-in-Leaf-clause-acts c = IfOk-weaker c.add_acts.result _ _
    (λ b h t before are.
    subst (λ os. AreActsOf (before ++ os) c.add_acts.new.acts) (c.as_slice.ensures ∙ sym (outs_leaf c.args.st.now c.args.d c.view.result.now c.in-Leaf.outs c.view.ensures.node c.in-Leaf.is)) (h t before are))
    c.add_acts.ensures
