use Rattle.nk_reply.proofs.Meant.{unread_meant, whole_meant}
use Rattle.nk_verify_commands.proofs.certified_text.judge_text.Goals as goal

-- some bytes are cut so
pub reply_to_text-requires : goal.reply_to_text-requires
reply_to_text-requires g c =
    let read = c.in-Ok-read_pieces.ensures.lexed in
    record { cut = (read.bytes, read.lexed) }

-- all of the source was read
pub returns-in-Ok-read_pieces : goal.returns-in-Ok-read_pieces
returns-in-Ok-read_pieces g c =
    let read = c.in-Ok-read_pieces.ensures.lexed in
    whole_meant _ _ read.bytes _ read.left read.fits read.read read.end c.in-Ok-read_pieces.ensures.cause
    (c.reply_to_text.ensures read.bytes read.lexed)

-- not all of it was
pub returns-in-Err-read_pieces : goal.returns-in-Err-read_pieces
returns-in-Err-read_pieces g c = unread_meant _ _ _ (c.unread.ensures _ c.in-Err-read_pieces.ensures.cause)
