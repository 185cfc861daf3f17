use Rattle.std.proofs.lemmas.Result.{IfOk-weaker}
use Rattle.nk_apply.proofs.Predicates.{predicate_by}
use Rattle.nk_apply.proofs.constants.empty.Goals as goal

pub returns-clause-predicate : goal.returns-clause-predicate
returns-clause-predicate c = IfOk-weaker c.empty.result _ _
    (λ d h. predicate_by c.empty.new.self d _ h (λ pk w. tt)) c.empty.ensures.ok
