use Rattle.std.proofs.Common.{subst}
use Rattle.nk_policy.specs.Tree.{tree_of}
use Rattle.nk_witness.specs.Finds.{found_of}
use Rattle.nk_cert.specs.Values.{certificate_value}
use Rattle.nk_cert.specs.Comparison.{whose, IsComparison}
use Rattle.nk_query.proofs.Beside.{holds_by, breaks_by}
use Rattle.nk_query.proofs.asking.answer_of.Goals as goal

pub returns-in-Related : goal.returns-in-Related
returns-in-Related c = λ x predicates is.
    holds_by c.args.fields.now x predicates (tree_of c.args.q.now) (tree_of c.dropping-nothing.result) is c.dropping-nothing.ensures (certificate_value c.in-Related.certificate)
    (subst (IsComparison c.args.fields.now (tree_of c.args.q.now) (tree_of c.dropping-nothing.result)) c.in-Related.is c.in_ok-certificate.ensures)

pub returns : goal.returns
returns c = λ x predicates is.
    breaks_by c.args.fields.now x predicates (tree_of c.args.q.now) (tree_of c.dropping-nothing.result) is c.dropping-nothing.ensures (whose c.in-Broken.found.side) (found_of c.in-Broken.found)
    (subst (IsComparison c.args.fields.now (tree_of c.args.q.now) (tree_of c.dropping-nothing.result)) c.in-Broken.is c.in_ok-certificate.ensures)
