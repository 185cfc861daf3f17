use Rattle.std.proofs.lemmas.Result.{IfOk-weaker}
use Rattle.nk_compile.proofs.SetLemmas.{set_twice}
use Rattle.nk_compile.proofs.sets.passing.Goals as goal

pub returns-clause-set : goal.returns-clause-set
returns-clause-set c =
    IfOk-weaker c.outside-2.result _ _
    (λ d two.
    set_twice c.args.st.now c.outside.new.st c.outside-2.new.st c.args.a c.in_ok-others.others d c.outside.ensures.grows c.outside-2.ensures.grows c.in_ok-others.ensures.set two)
    c.outside-2.ensures.set
