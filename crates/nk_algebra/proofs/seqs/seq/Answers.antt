use Rattle.std.proofs.lemmas.Result.{IfOk-weaker}
use Rattle.nk_apply.proofs.Predicates.{predicate_by, ends_by, pass_seq, ends_seq}
use Rattle.nk_algebra.proofs.seqs.seq.Goals as goal

pub returns-clause-predicate : goal.returns-clause-predicate
returns-clause-predicate c = IfOk-weaker c.seq_once.result _ _
    (λ d h. λ p q. predicate_by c.seq_once.new.st d _ h (λ pk w. pass_seq _ _ pk w (p pk w) q)) c.seq_once.ensures.ok

pub returns-clause-ends : goal.returns-clause-ends
returns-clause-ends c = IfOk-weaker c.seq_once.result _ _
    (λ d h. λ e. ends_by c.seq_once.new.st d _ h (λ pk w. ends_seq _ _ pk w e)) c.seq_once.ensures.ok
