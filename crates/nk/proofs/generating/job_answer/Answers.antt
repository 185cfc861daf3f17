use Rattle.std.proofs.Common.{IfOk, List, ℕ, subst}
use Rattle.nk.specs.Generating.{IsJobOver}
use Rattle.nk_reply.specs.Reply.{outcome_of}
use Rattle.nk.proofs.generating.job_answer.Goals as goal

pub returns : goal.returns
returns c =
    subst (λ (t : List ℕ). IfOk c.job_over.result (λ s. IsJobOver t (outcome_of s)))
    c.in_ok-text.ensures c.job_over.ensures
