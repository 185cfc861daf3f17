use Rattle.std.proofs.lemmas.Result.{IfOk-weaker}
use Rattle.nk_apply.proofs.Predicates.{predicate_by, pass_cond}
use Rattle.nk_apply.proofs.spans.test.Goals as goal

pub returns-clause-predicate : goal.returns-clause-predicate
returns-clause-predicate c = IfOk-weaker c.at_value.result _ _
    (λ d h. predicate_by c.at_value.new.st d _ h (λ pk w. pass_cond _)) c.at_value.ensures.ok
