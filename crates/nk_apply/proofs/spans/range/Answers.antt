use Rattle.std.proofs.lemmas.Result.{IfOk-weaker}
use Rattle.nk_apply.proofs.Predicates.{predicate_by, pass_cond}
use Rattle.nk_apply.proofs.spans.range.Goals as goal

pub returns-clause-predicate : goal.returns-clause-predicate
returns-clause-predicate c = IfOk-weaker c.in_interval.result _ _
    (λ d h. predicate_by c.in_interval.new.st d _ h (λ pk w. pass_cond _)) c.in_interval.ensures.ok
