use Rattle.std.proofs.Common.{◌∙◌, sym}
use Rattle.nk_goal.proofs.Placing.{packets_at_place, no_packets}
use Rattle.nk_goal.proofs.entries.Entries.packets_of_set.Goals as goal

pub returns-in-Some : goal.returns-in-Some
returns-in-Some c = sym (packets_at_place c.args.t c.self.inside.pairs.items c.args.self.now c.in-Some.place c.index.result.now c.self.view_is (sym c.place.ensures.place ∙ c.in-Some.is) c.index.ensures)

pub returns-in-None : goal.returns-in-None
returns-in-None c = sym (no_packets c.args.t c.args.self.now 0 (sym c.place.ensures.place ∙ c.in-None.is))
