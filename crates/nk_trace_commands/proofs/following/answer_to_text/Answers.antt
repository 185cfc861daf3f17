use Rattle.std.proofs.Common.{IfOk, subst, sym}
use Rattle.nk_tabtext.specs.Progress.{IsTaken}
use Rattle.nk_trace_commands.specs.Following.{ToTables}
use Rattle.nk_reply.specs.Reply.{outcome_of}
use Rattle.nk_trace_commands.proofs.Texts.{too_large_read}
use Rattle.nk_trace_commands.proofs.following.answer_to_text.Goals as goal

-- a number of the text is too large
pub returns-in-NumberTooLarge : goal.returns-in-NumberTooLarge
returns-in-NumberTooLarge g c = λ bytes h.
    let is = too_large_read (λ ts. IsTaken ts c.args.reader) c.in-NumberTooLarge.line bytes (rw c.in-NumberTooLarge.is at h) in
    subst (λ r. IfOk c.text_fault-in-NumberTooLarge.result (λ s. ToTables (g.F.Follow.tells c.args.how.now) r c.args.word.now (outcome_of s))) (sym is) c.text_fault-in-NumberTooLarge.ensures
