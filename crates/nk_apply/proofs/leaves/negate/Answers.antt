use Rattle.std.proofs.lemmas.Result.{IfOk-weaker}
use Rattle.nk_apply.proofs.Predicates.{predicate_by, pass_absent}
use Rattle.nk_apply.proofs.leaves.negate.Goals as goal

pub returns-clause-predicate : goal.returns-clause-predicate
returns-clause-predicate c = IfOk-weaker c.negate_once.result _ _
    (λ r h. predicate_by c.negate_once.new.st r _ h (λ pk w. pass_absent _ _)) c.negate_once.ensures.ok
