use Rattle.std.proofs.lemmas.Result.{IfOk-weaker}
use Rattle.nk_apply.proofs.Predicates.{predicate_by, ends_by, pass_merged, ends_merged}
use Rattle.nk_apply.proofs.leaves.union.Goals as goal

pub returns-clause-predicate : goal.returns-clause-predicate
returns-clause-predicate c = IfOk-weaker c.union_once.result _ _
    (λ d h. λ p q. predicate_by c.union_once.new.st d _ h (λ pk w. pass_merged _ _ (p pk w) (q pk w))) c.union_once.ensures.ok

pub returns-clause-ends : goal.returns-clause-ends
returns-clause-ends c = IfOk-weaker c.union_once.result _ _
    (λ d h. λ p q. ends_by c.union_once.new.st d _ h (λ pk w. ends_merged _ _ (p pk w) (q pk w))) c.union_once.ensures.ok
