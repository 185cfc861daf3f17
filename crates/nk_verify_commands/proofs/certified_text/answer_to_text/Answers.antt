use Rattle.std.proofs.Common.{refl}
use Rattle.nk_lex.specs.declared.token.LexError.TheVariants as lexical
use Rattle.nk_certtext.specs.Progress.{IsTaken}
use Rattle.nk_reply.specs.Reply.{outcome_of}
use Rattle.nk_input.proofs.Cuts.{cut_bad, cut_large}
use Rattle.nk_verify_commands.proofs.CertifiedTokens.{lexical_told}
use Rattle.nk_verify_commands.proofs.certified_text.answer_to_text.Goals as goal

pub returns-in-BadByte : goal.returns-in-BadByte
returns-in-BadByte g c = λ bytes h.
    let cut = cut_bad (λ ts. IsTaken ts c.args.reader) c.in-BadByte.line bytes (rw c.in-BadByte.is at h) in
    lexical_told outcome_of (g.J.Judge.tells c.args.how.now) bytes (lexical.BadByte c.in-BadByte.line) _ c.text_fault.result cut refl c.text_fault.ensures

pub returns-in-NumberTooLarge : goal.returns-in-NumberTooLarge
returns-in-NumberTooLarge g c = λ bytes h.
    let cut = cut_large (λ ts. IsTaken ts c.args.reader) c.in-NumberTooLarge.line bytes (rw c.in-NumberTooLarge.is at h) in
    lexical_told outcome_of (g.J.Judge.tells c.args.how.now) bytes (lexical.NumberTooLarge c.in-NumberTooLarge.line) _
    c.text_fault-in-NumberTooLarge.result cut refl c.text_fault-in-NumberTooLarge.ensures
