use Rattle.std.proofs.Common.{ap, subst}
use Rattle.std.specs.Prelude.{MatchOption}
use Rattle.nk_policy.specs.Tree.{tree_of}
use Rattle.nk_cert.specs.Values.{certificate_value}
use Rattle.nk_cert.specs.Written.{IsNameUnknown, AreWrittenTogether}
use Rattle.nk_check.proofs.Shown.{is_checked}
use Rattle.nk_check.proofs.naming.check.Goals as goal

pub returns-in_ok-check_both-in-Some : goal.returns-in_ok-check_both-in-Some
returns-in_ok-check_both-in-Some c =
    let written =
    subst (λ o. MatchOption o (IsNameUnknown c.args.program.now c.args.left.now c.args.right.now) (λ r. AreWrittenTogether c.args.program.now c.args.left.now c.args.right.now (tree_of r.0) (tree_of r.1)))
    c.in-Some.is c.in_ok-both_written.ensures in
    is_checked c.args.program.now c.args.left.now c.args.right.now (tree_of c.in-Some.both.0) (tree_of c.in-Some.both.1) (certificate_value c.args.certificate.now)
    c.in_ok-check_both-in-Some.field-0 written c.program.inside.fields (ap (λ z. z.fields) c.program.view_is) c.in_ok-check_both-in-Some.ensures.found c.in_ok-check_both-in-Some.ensures.same
