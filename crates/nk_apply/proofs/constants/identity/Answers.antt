use Rattle.std.proofs.Common.{refl}
use Rattle.std.proofs.lemmas.Result.{IfOk-weaker}
use Rattle.nk_apply.proofs.Predicates.{predicate_by}
use Rattle.nk_apply.proofs.constants.identity.Goals as goal

pub returns-clause-predicate : goal.returns-clause-predicate
returns-clause-predicate c = IfOk-weaker c.identity.result _ _
    (λ d h. predicate_by c.identity.new.self d _ h (λ pk w. (refl, refl))) c.identity.ensures.ok
