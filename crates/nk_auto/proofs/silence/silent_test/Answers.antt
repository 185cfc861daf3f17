use Rattle.std.proofs.lemmas.Result.{IfOk-weaker}
use Rattle.nk_auto.proofs.Silences.{test_silent}
use Rattle.nk_auto.proofs.silence.silent_test.Goals as goal

pub returns-clause-ok : goal.returns-clause-ok
returns-clause-ok c =
    IfOk-weaker c.test_where.result _ _
    (λ r h. test_silent c.test_where.new.st c.args.st.now.maxes r c.args.f c.args.n c.test_where.ensures.grows.maxes h)
    c.test_where.ensures.ok
