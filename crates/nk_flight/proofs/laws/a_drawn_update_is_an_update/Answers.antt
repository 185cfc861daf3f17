use Rattle.nk_flight.proofs.Drawing.{turns_are_updates, turns_enter}
use Rattle.nk_flight.proofs.Packets.{turns_inject}
use Rattle.nk_flight.proofs.laws.a_drawn_update_is_an_update.Goals as goal

pub returns-clause-events : goal.returns-clause-events
returns-clause-events c = λ g seed turns pk s. turns_are_updates g seed turns pk s

pub returns-clause-entering : goal.returns-clause-entering
returns-clause-entering c = λ t g seed turns pk s enters. turns_enter t g seed turns pk s enters

pub returns-clause-packets : goal.returns-clause-packets
returns-clause-packets c = λ g seed turns pk. turns_inject pk g seed turns
