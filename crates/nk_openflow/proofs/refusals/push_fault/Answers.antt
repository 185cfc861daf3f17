use Rattle.nk_openflow.proofs.refusals.push_fault.Goals as goal

-- the port, and the last of the words
pub returns-in-Port : goal.returns-in-Port
returns-in-Port c = rw c.in-Port.is c.push_port.ensures

pub returns-in-GroupNumber : goal.returns-in-GroupNumber
returns-in-GroupNumber c = rw c.in-GroupNumber.is c.push_words-in-GroupNumber.ensures
