use Rattle.std.proofs.Common.{IfOk, subst, sym}
use Rattle.nk_words.specs.declared.words.Command.{Command}
use Rattle.nk.specs.Answer.{IsOutcome}
use Rattle.nk_reply.specs.Reply.{outcome_of}
use Rattle.nk.proofs.top.perform.Goals as goal

pub returns-in-Job : goal.returns-in-Job
returns-in-Job c =
    subst (λ (k : Command). IfOk c.job_answer.result (λ s. IsOutcome k c.args.bytes.items (outcome_of s))) (sym c.in-Job.is) c.job_answer.ensures
