use Rattle.std.proofs.Common.{sym, ap, ◌∙◌}
use Rattle.nk_policy.specs.Policy.{marked_from}
use Rattle.nk_names.specs.Body.{policy_in}
use Rattle.nk_names.proofs.Bodies.{policy_in_name}
use Rattle.nk_names.proofs.Good.{marked_again}
use Rattle.nk_names.proofs.build.shared_of.Goals as goal

-- the other name's policy is numbered from 1 already
pub returns-in-Name : goal.returns-in-Name
returns-in-Name c =
    sym (marked_again (policy_in c.in-Name.policy.body.value) 1 1)
    ∙ ap (λ p. marked_from p 1) (sym (ap policy_in c.in-Name.is ∙ policy_in_name c.in-Name.policy) ∙ c.in_ok-body.ensures)
