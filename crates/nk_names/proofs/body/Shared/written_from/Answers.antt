use Rattle.std.proofs.Common.{sym, ap, ◌∙◌, arith}
use Rattle.std.proofs.lemmas.Result.{IfOk-weaker}
use Rattle.nk_policy.specs.Policy.{dups_of, marked_from}
use Rattle.nk_names.specs.Body.{policy_in}
use Rattle.nk_names.proofs.Good.{dups_marked, marked_again}
use Rattle.nk_names.proofs.body.Shared.written_from.Goals as goal

pub written_from-requires-clause-fit : goal.written_from-requires-clause-fit
written_from-requires-clause-fit c =
    omega (arith, c.requires.fit, ap (λ b. dups_of (policy_in b)) c.deref.ensures, dups_marked (policy_in c.args.self.now.body.value) 1)

pub returns : goal.returns
returns c =
    let p = policy_in c.args.self.now.body.value in
    IfOk-weaker c.written_from.result _ _
    (λ q e. e ∙ ap (λ b. marked_from (policy_in b) c.args.first) c.deref.ensures ∙ sym (marked_again p 1 c.args.first))
    c.written_from.ensures
