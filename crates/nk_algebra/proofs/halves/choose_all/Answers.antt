use Rattle.std.proofs.lemmas.Result.{IfOk-weaker}
use Rattle.nk_algebra.proofs.Halved.{chosen_all}
use Rattle.nk_algebra.proofs.halves.choose_all.Goals as goal

pub returns-clause-ok : goal.returns-clause-ok
returns-clause-ok c = IfOk-weaker c.choose_some.result _ _
    (λ d h. chosen_all c.args.st.now c.choose_some.new.st c.args.f c.args.parts.now c.len.result d c.requires c.len.ensures h) c.choose_some.ensures.ok
