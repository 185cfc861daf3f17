use Rattle.std.proofs.Common.{◌+◌, subst}
use Rattle.nk_policy.specs.Policy.{marked_from, dups_of}
use Rattle.nk_cert.specs.Values.{certificate_value, finding_of}
use Rattle.nk_cert.specs.Verdicts.{IsFinding}
use Rattle.nk_verify_commands.proofs.Certified.{is_valid}
use Rattle.nk_verify_commands.proofs.checking.answer_to_certificate.Goals as goal

pub returns-in_ok-from_slice-in-Ok-Valid : goal.returns-in_ok-from_slice-in-Ok-Valid
returns-in_ok-from_slice-in-Ok-Valid c =
    let found = c.in-Ok-Valid.ensures in
    let cert = certificate_value c.args.certificate.now in
    let shows = subst (λ v. IsFinding c.args.program.fields found.0 (marked_from found.1 (1 + dups_of found.0)) cert (finding_of v)) c.in-Ok-Valid.field-0-is found.4 in
    is_valid c.args.program c.args.left.now c.args.right.now found.0 found.1 c.requires.is (record { left_is = found.2; right_is = found.3 })
    c.a_certificate_shows_equality.ensures.numbered cert c.in_ok-from_slice-in-Ok-Valid.field-0.items shows c.in_ok-from_slice-in-Ok-Valid.ensures.items
