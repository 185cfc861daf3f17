use Rattle.std.proofs.Common.{◌∙◌, sym, subst}
use Rattle.nk_determ.specs.Pairs.{Once}
use Rattle.nk_goal.proofs.Adding.{found_set, rest_some, rest_none}
use Rattle.nk_goal.proofs.Placing.{packets_at_place, no_packets}
use Rattle.nk_goal.proofs.entries.Entries.unvisited.Goals as goal

pub minus-requires-clause-right : goal.minus-requires-clause-right
minus-requires-clause-right c =
    let found = packets_at_place c.args.t c.self.inside.pairs.items c.args.self.now c.in-Some.place c.index.result.now c.self.view_is (sym c.place.ensures.place ∙ c.in-Some.is) c.index.ensures in
    (found_set c.args.st.now c.args.self.now c.args.t c.index.result.now.1 found c.requires.visited).id

pub returns-in_ok-rest-in-Some-clause-ok : goal.returns-in_ok-rest-in-Some-clause-ok
returns-in_ok-rest-in-Some-clause-ok c =
    let found = packets_at_place c.args.t c.self.inside.pairs.items c.args.self.now c.in-Some.place c.index.result.now c.self.view_is (sym c.place.ensures.place ∙ c.in-Some.is) c.index.ensures in
    rest_some c.args.st.now c.minus.new.st c.args.self.now c.args.t c.args.y c.index.result.now.1 c.in_ok-rest-in-Some.rest (subst Once c.self.view_is c.self.invariant.once) found c.in_ok-rest-in-Some.ensures.ok

pub returns-in-None-clause-ok : goal.returns-in-None-clause-ok
returns-in-None-clause-ok c = rest_none c.args.st.now c.args.self.now c.args.t c.args.y c.requires.packets (no_packets c.args.t c.args.self.now 0 (sym c.place.ensures.place ∙ c.in-None.is))
