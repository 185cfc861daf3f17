use Rattle.std.proofs.lemmas.Result.{IfOk-weaker}
use Rattle.nk_auto.proofs.Silences.{set_silent}
use Rattle.nk_auto.proofs.silence.silent_set.Goals as goal

pub returns-clause-ok : goal.returns-clause-ok
returns-clause-ok c =
    IfOk-weaker c.set_where.result _ _
    (λ r h. set_silent c.set_where.new.st c.args.st.now.maxes r c.args.f c.args.n c.set_where.ensures.grows.maxes h)
    c.set_where.ensures.ok
