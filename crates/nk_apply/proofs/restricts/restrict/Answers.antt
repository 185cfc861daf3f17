use Rattle.std.proofs.lemmas.Result.{IfOk-weaker}
use Rattle.nk_apply.proofs.Predicates.{predicate_by, ends_by, whole_set}
use Rattle.nk_apply.proofs.restricts.restrict.Goals as goal

pub returns-clause-predicate : goal.returns-clause-predicate
returns-clause-predicate c = IfOk-weaker c.restricted.result _ _
    (λ r h. λ p. predicate_by c.restricted.new.st r _ h (λ pk w. p _ (whole_set pk c.args.f c.args.n w))) c.restricted.ensures.ok

pub returns-clause-ends : goal.returns-clause-ends
returns-clause-ends c = IfOk-weaker c.restricted.result _ _
    (λ r h. λ p. ends_by c.restricted.new.st r _ h (λ pk w. p _ (whole_set pk c.args.f c.args.n w))) c.restricted.ensures.ok
