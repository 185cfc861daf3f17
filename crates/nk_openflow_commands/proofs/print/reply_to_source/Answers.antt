use Rattle.nk_reply.proofs.Meant.{unread_meant, whole_meant}
use Rattle.nk_openflow_commands.proofs.print.reply_to_source.Goals as goal

-- all of the source was read
pub returns-in-Ok : goal.returns-in-Ok
returns-in-Ok g c =
    let read = c.in-Ok.ensures in
    whole_meant _ _ c.in-Ok.bytes.items _ read.all read.fits read.bytes read.end read.cause c.reply_to_bytes.ensures

-- not all of it was
pub returns-in-Err : goal.returns-in-Err
returns-in-Err g c = unread_meant _ _ _ (c.unread.ensures _ c.in-Err.ensures.cause)
