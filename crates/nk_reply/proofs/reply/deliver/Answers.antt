use Rattle.nk_reply.proofs.reply.deliver.Goals as goal

-- the four messages
pub returns-in-Usage-clause-delivered : goal.returns-in-Usage-clause-delivered
returns-in-Usage-clause-delivered g c = rw c.in-Usage.is c.deliver_text-in-Usage.ensures.delivered

pub returns-in-ReadFault-clause-delivered : goal.returns-in-ReadFault-clause-delivered
returns-in-ReadFault-clause-delivered g c = rw c.in-ReadFault.is c.deliver_text-in-ReadFault.ensures.delivered

pub returns-in-NoMemory-clause-delivered : goal.returns-in-NoMemory-clause-delivered
returns-in-NoMemory-clause-delivered g c = rw c.in-NoMemory.is c.deliver_text-in-NoMemory.ensures.delivered

pub returns-in-TooLong-clause-delivered : goal.returns-in-TooLong-clause-delivered
returns-in-TooLong-clause-delivered g c = rw c.in-TooLong.is c.deliver_text-in-TooLong.ensures.delivered
