use Rattle.nk_openflow_commands.proofs.reply.send.Goals as goal

-- the usage
pub returns-in-Usage-clause-delivered : goal.returns-in-Usage-clause-delivered
returns-in-Usage-clause-delivered g c = rw c.in-Usage.is c.deliver_text.ensures.delivered
