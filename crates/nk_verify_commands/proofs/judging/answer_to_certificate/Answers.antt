use Rattle.std.proofs.Common.{refl, subst}
use Rattle.nk_cert.specs.Values.{certificate_value, finding_of}
use Rattle.nk_query.specs.Answers.{IsJudgedFor}
use Rattle.nk_verify_commands.proofs.judging.answer_to_certificate.Goals as goal

pub returns-in_ok-from_slice-in-Ok-Valid : goal.returns-in_ok-from_slice-in-Ok-Valid
returns-in_ok-from_slice-in-Ok-Valid c =
    let found = c.in-Ok-Valid.ensures in
    let cert = certificate_value c.args.certificate.now in
    let judged = subst (λ v. IsJudgedFor c.args.program.now.fields found.0 cert (finding_of v)) c.in-Ok-Valid.field-0-is found.2 in
    record {
      found = record {
        program = c.args.program.now;
        says = refl;
        question = found.0;
        named = found.1;
        is = judged.finds;
      };
      none = judged.shows refl;
      told = c.in_ok-from_slice-in-Ok-Valid.ensures.items;
    }
