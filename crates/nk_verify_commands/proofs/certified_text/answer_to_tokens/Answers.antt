use Rattle.nk_names.specs.ProgramOf.{program_by}
use Rattle.nk_cert.specs.Values.{certificate_value}
use Rattle.nk_reply.specs.Reply.{outcome_of}
use Rattle.nk_verify_commands.proofs.CertifiedTokens.{all_told}
use Rattle.nk_verify_commands.proofs.certified_text.answer_to_tokens.Goals as goal

pub returns-in-Ok : goal.returns-in-Ok
returns-in-Ok g c = λ tokens h.
    all_told tokens (program_by c.in-Ok.program) (certificate_value c.in-Ok.certificate) outcome_of (g.J.Judge.tells c.args.how.now) c.judge.result
    (c.in-Ok.ensures.read tokens h) c.judge.ensures
