use Rattle.std.proofs.lemmas.Result.{IfOk-weaker}
use Rattle.nk_policy.specs.Tree.{tree_of}
use Rattle.nk_names.proofs.Good.{over_in_range}
use Rattle.nk_cert.specs.Values.{certificate_value, finding_of}
use Rattle.nk_query.proofs.Beside.{judged_by}
use Rattle.nk_query.proofs.judging.verdict_of.Goals as goal

pub check_policies-requires-clause-left_range : goal.check_policies-requires-clause-left_range
check_policies-requires-clause-left_range c = over_in_range c.args.fields.now (tree_of c.args.q.now) c.requires.fit.over

pub returns : goal.returns
returns c =
    IfOk-weaker c.check_policies.result _ _
    (λ v found x predicates is.
    judged_by c.args.fields.now x predicates (tree_of c.args.q.now) (tree_of c.dropping-nothing.result) is c.dropping-nothing.ensures c.requires.fit (certificate_value c.args.certificate.now) (finding_of v) found)
    c.check_policies.ensures
