use Rattle.std.proofs.Common.{◌∙◌, sym}
use Rattle.nk_reach.proofs.OneSided.{alones_put}
use Rattle.nk_reach.proofs.sides.alone_once.Goals as goal

pub returns-in-Some-clause-ok : goal.returns-in-Some-clause-ok
returns-in-Some-clause-ok c = (c.requires.seen c.args.ends c.in-Some.r (sym c.known.ensures ∙ c.in-Some.is)).leaves

pub returns-clause-seen : goal.returns-clause-seen
returns-clause-seen c =
    alones_put c.args.st.now c.map_leaves.new.st c.args.ends c.in_ok-r.r c.args.seen.now.entries c.insert.new.self.entries
    c.map_leaves.ensures.grows c.requires.ends c.requires.seen c.in_ok-r.ensures.ok (λ q. c.in_ok-insert.ensures.updates.0 q)
