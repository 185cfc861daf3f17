use Rattle.std.proofs.Common.{◌≡◌, refl, subst}
use Rattle.nk_names.specs.declared.Program.{Program}
use Rattle.nk_witness.specs.Finds.{found_of}
use Rattle.nk_cert.specs.Values.{certificate_value}
use Rattle.nk_query.specs.Answers.{IsQueryResult, asked_in}
use Rattle.nk_verify_commands.specs.Asking.{broken_lines}
use Rattle.nk_verify_commands.proofs.Certified.{is_held}
use Rattle.nk_verify_commands.proofs.asking.answer_to_program.Goals as goal

pub returns-in_ok-cert_text-in-Ok-Holds : goal.returns-in_ok-cert_text-in-Ok-Holds
returns-in_ok-cert_text-in-Ok-Holds c =
    let found = c.in-Ok-Holds.ensures in
    let holds = subst (λ a. IsQueryResult c.args.program.now.fields found.0 a) c.in-Ok-Holds.field-0-is found.2 in
    is_held c.certificates_of_policies_are_read.ensures.read c.args.program.now (asked_in c.args.query.now) found.0
    (certificate_value c.in-Ok-Holds.certificate) c.in_ok-cert_text-in-Ok-Holds.field-0.items found.1 holds.0 holds.1
    c.in_ok-cert_text-in-Ok-Holds.ensures

pub returns-in_ok-broken_message-in-Ok-Breaks : goal.returns-in_ok-broken_message-in-Ok-Breaks
returns-in_ok-broken_message-in-Ok-Breaks c =
    let found = c.in-Ok-Breaks.ensures in
    let least = subst (λ a. IsQueryResult c.args.program.now.fields found.0 a) c.in-Ok-Breaks.field-0-is found.2 in
    record {
      program = c.args.program.now;
      says = refl;
      question = found.0;
      named = found.1;
      found = found_of c.in-Ok-Breaks.found;
      least = least.0;
      told = subst (λ (p : Program). c.in_ok-broken_message-in-Ok-Breaks.field-0.items ≡ broken_lines p.fields (found_of c.in-Ok-Breaks.found))
          c.program.view_is c.in_ok-broken_message-in-Ok-Breaks.ensures;
    }
