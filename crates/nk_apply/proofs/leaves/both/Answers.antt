use Rattle.std.proofs.lemmas.Result.{IfOk-weaker}
use Rattle.nk_apply.proofs.Predicates.{predicate_by, ends_by, pass_guarded, ends_guarded}
use Rattle.nk_apply.proofs.leaves.both.Goals as goal

pub returns-clause-predicate : goal.returns-clause-predicate
returns-clause-predicate c = IfOk-weaker c.both_once.result _ _
    (λ r h. λ p. predicate_by c.both_once.new.st r _ h (λ pk w. pass_guarded _ _ (p pk w))) c.both_once.ensures.ok

pub returns-clause-ends : goal.returns-clause-ends
returns-clause-ends c = IfOk-weaker c.both_once.result _ _
    (λ r h. λ p. ends_by c.both_once.new.st r _ h (λ pk w. ends_guarded _ _ (p pk w))) c.both_once.ensures.ok
