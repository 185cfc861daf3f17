use Rattle.std.proofs.lemmas.Result.{IfOk-weaker}
use Rattle.nk_auto.proofs.Silences.{range_silent}
use Rattle.nk_auto.proofs.silence.silent_range.Goals as goal

pub returns-clause-ok : goal.returns-clause-ok
returns-clause-ok c =
    IfOk-weaker c.range_where.result _ _
    (λ r h. range_silent c.range_where.new.st c.args.st.now.maxes r c.args.f c.args.lo c.args.hi c.range_where.ensures.grows.maxes h)
    c.range_where.ensures.ok
