use Rattle.std.proofs.Common.{sym, ◌∙◌}
use Rattle.nk_goal.proofs.Adding.{found_set}
use Rattle.nk_backward.proofs.Starting.{under_some, under_none}
use Rattle.nk_backward.proofs.starts.packets_under.Goals as goal

pub both-requires-clause-pred : goal.both-requires-clause-pred
both-requires-clause-pred c = (found_set c.args.st.now c.args.back.now c.args.s c.in-Some.y (sym c.packets_of_set.ensures ∙ c.in-Some.is) c.requires.back).id

pub returns-in_ok-r-in-Some-clause-ok : goal.returns-in_ok-r-in-Some-clause-ok
returns-in_ok-r-in-Some-clause-ok c =
    under_some c.args.st.now c.both.new.st c.args.back.now c.args.s c.args.x c.in-Some.y c.in_ok-r-in-Some.r c.requires.once (sym c.packets_of_set.ensures ∙ c.in-Some.is) c.requires.packets
    c.in_ok-r-in-Some.ensures.ok c.in_ok-r-in-Some.ensures.predicate

pub returns-in_ok-none-in-None-clause-ok : goal.returns-in_ok-none-in-None-clause-ok
returns-in_ok-none-in-None-clause-ok c =
    under_none c.args.st.now c.empty.new.st c.args.back.now c.args.s c.args.x c.in_ok-none-in-None.none (sym c.packets_of_set.ensures ∙ c.in-None.is) c.in_ok-none-in-None.ensures.ok c.in_ok-none-in-None.ensures.predicate
