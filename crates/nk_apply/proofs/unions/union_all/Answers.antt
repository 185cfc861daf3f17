use Rattle.std.proofs.lemmas.Result.{IfOk-weaker}
use Rattle.nk_apply.proofs.Predicates.{predicate_by, pass_all}
use Rattle.nk_apply.proofs.unions.union_all.Goals as goal

pub returns-clause-predicate : goal.returns-clause-predicate
returns-clause-predicate c = IfOk-weaker c.unions_of.result _ _
    (λ r h. λ p. predicate_by c.unions_of.new.st r _ h (λ pk w. pass_all _ _ pk (λ k m. p k m pk w))) c.unions_of.ensures.ok
