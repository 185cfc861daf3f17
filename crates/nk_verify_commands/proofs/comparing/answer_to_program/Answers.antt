use Rattle.std.proofs.Common.{◌≡◌, subst}
use Rattle.nk_cert.specs.Values.{certificate_value}
use Rattle.nk_certtext.specs.Text.{cert_bytes}
use Rattle.nk_bisim.specs.Answers.{IsComparison}
use Rattle.nk_verify_commands.proofs.Certified.{is_same}
use Rattle.nk_verify_commands.proofs.comparing.answer_to_program.Goals as goal

pub returns-in-Related : goal.returns-in-Related
returns-in-Related c =
    let found = c.in-Ok.ensures.compared in
    let certificate = certificate_value c.in-Related.certificate in
    let text = c.in_ok-certificate_text-in-Related.field-0.items in
    let related = subst (λ r. IsComparison c.args.program.fields found.0 found.1 r) c.in-Related.is found.4 in
    is_same c.args.program c.args.left.now c.args.right.now found.0 found.1 c.requires.is (record { left_is = found.2; right_is = found.3 })
    c.certificates_of_policies_are_read.ensures.read certificate text related
    (subst (λ fields. text ≡ cert_bytes fields certificate) c.in-Ok.ensures.fields c.in_ok-certificate_text-in-Related.ensures)
