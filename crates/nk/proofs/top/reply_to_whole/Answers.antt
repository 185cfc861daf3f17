use Rattle.std.proofs.Common.{refl, rules, subst}
use Rattle.nk.specs.Answer.{IsReplyTo}
use Rattle.nk.proofs.Meant.{unasked_meant, unread_meant}
use Rattle.nk.proofs.top.reply_to_whole.Goals as goal

-- the command doesn't read
pub returns-then-not-reads_input-clause-meant : goal.returns-then-not-reads_input-clause-meant
returns-then-not-reads_input-clause-meant g c =
    unasked_meant _ _ _ (search rules) refl refl (subst (λ bytes. IsReplyTo c.args.command.now bytes c.reply_to.result) c.new.ensures.items c.reply_to.ensures)

-- not all of the source was read
pub returns-in-Err-clause-meant : goal.returns-in-Err-clause-meant
returns-in-Err-clause-meant g c = unread_meant _ _ (search rules) _ (c.unread.ensures _ c.in-Err.ensures.cause)
