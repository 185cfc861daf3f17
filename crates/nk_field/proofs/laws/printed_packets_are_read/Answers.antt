use Rattle.nk_field.proofs.ReadBack.{printed_is_read}
use Rattle.nk_field.proofs.laws.printed_packets_are_read.Goals as goal

pub returns : goal.returns
returns c = printed_is_read
