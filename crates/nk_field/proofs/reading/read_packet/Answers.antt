use Rattle.nk_field.proofs.Gives.{answer_given}
use Rattle.nk_field.proofs.reading.read_packet.Goals as goal

pub returns-in-Ok-clause-packet : goal.returns-in-Ok-clause-packet
returns-in-Ok-clause-packet c = answer_given c.args.fields.now _ c.packet_in.result c.packet_in.ensures
