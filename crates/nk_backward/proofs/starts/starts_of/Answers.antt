use Rattle.nk_store.proofs.Stores.{grows_on}
use Rattle.nk_backward.proofs.Tracing.{outs_suit_on}
use Rattle.nk_backward.proofs.Preceding.{known_on}
use Rattle.nk_backward.proofs.Starting.{lead_to_side_of}
use Rattle.nk_backward.proofs.starts.starts_of.Goals as goal

pub returns-clause-ok : goal.returns-clause-ok
returns-clause-ok g c =
    lead_to_side_of c.args.st.now c.violations.new.st c.close_back.new.st c.packets_under.new.st c.args.ss.now c.args.graph.now.transitions c.args.graph.now.entries
    (g.G.Goal.violations_of c.args.g.now c.args.st.now) c.args.side c.args.s c.args.x c.in_ok-goal.goal c.in_ok-back.back c.in_ok-r.r
    c.violations.ensures.grows c.close_back.ensures.grows c.requires.packets.id c.requires.suits_store c.in_ok-goal.ensures.ok c.in_ok-back.ensures.ok c.in_ok-r.ensures.ok

pub returns-clause-fits : goal.returns-clause-fits
returns-clause-fits g c =
    g.met.G.Goal.fits_on c.violations.new.g c.violations.new.st c.packets_under.new.st c.in_ok-goal.ensures.fits (grows_on _ _ _ c.close_back.ensures.grows c.packets_under.ensures.grows)

pub close_back-requires-clause-pre : goal.close_back-requires-clause-pre
close_back-requires-clause-pre g c = known_on c.args.st.now c.violations.new.st c.args.graph.now.transitions c.args.pre.now c.violations.ensures.grows c.requires.suits_store c.requires.pre

pub returns-clause-pre : goal.returns-clause-pre
returns-clause-pre g c =
    known_on c.close_back.new.st c.packets_under.new.st c.args.graph.now.transitions c.close_back.new.pre c.packets_under.ensures.grows
    (outs_suit_on c.args.st.now c.close_back.new.st c.args.graph.now.transitions (grows_on _ _ _ c.violations.ensures.grows c.close_back.ensures.grows) c.requires.suits_store) c.in_ok-back.ensures.pre
