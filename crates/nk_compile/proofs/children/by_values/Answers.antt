use Rattle.std.proofs.lemmas.Result.{IfOk-weaker}
use Rattle.nk_sets.proofs.SetLemmas.{both_ok}
use Rattle.nk_compile.proofs.ChildLemmas.{is_beside}
use Rattle.nk_compile.proofs.children.by_values.Goals as goal

pub returns-clause-ok : goal.returns-clause-ok
returns-clause-ok c =
    IfOk-weaker c.case.result _ _
    (λ d h. is_beside c.args.st.now c.case.new.self c.args.f c.args.other d c.args.children.now c.in_ok-parts.parts c.case.ensures.grows c.in_ok-parts.ensures.child h.0 h.1)
    (both_ok c.case.result _ _ c.case.ensures.ok c.case.ensures.later)
