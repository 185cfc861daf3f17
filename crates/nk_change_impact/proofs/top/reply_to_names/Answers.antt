use Rattle.nk_reply.proofs.Meant.{unread_meant}
use Rattle.nk_change_impact.proofs.top.reply_to_names.Goals as goal

-- not all of the source was read
pub returns-in-Err : goal.returns-in-Err
returns-in-Err g c = unread_meant _ _ _ (c.unread.ensures _ c.in-Err.ensures.cause)
