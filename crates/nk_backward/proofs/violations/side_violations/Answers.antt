use Rattle.std.proofs.Common.{List, ℕ, [], get_or}
use Rattle.nk_store.proofs.Stores.{grows_on}
use Rattle.nk_backward.proofs.Restricting.{side_leaves}
use Rattle.nk_backward.proofs.violations.side_violations.Goals as goal

pub at_packets-requires-2-clause-diagram : goal.at_packets-requires-2-clause-diagram
at_packets-requires-2-clause-diagram g c =
    (grows_on _ _ _ c.bad.ensures.grows (grows_on _ _ _ c.at_packets.ensures.grows c.only_side.ensures.grows)).ids c.args.x c.requires.packets

pub returns-clause-ok : goal.returns-clause-ok
returns-clause-ok g c =
    side_leaves c.args.st.now c.bad.new.st c.at_packets.new.st c.only_side.new.st c.at_packets-2.new.st c.args.side (λ (pk : List ℕ). g.G.Goal.violations_of c.args.g.now c.args.st.now (get_or c.args.ss.now c.args.s []) pk)
    c.args.x c.in_ok-all.all c.in_ok-there.there c.in_ok-own.own c.in_ok-r.r c.requires.packets c.bad.ensures.grows c.at_packets.ensures.grows c.only_side.ensures.grows
    c.in_ok-all.ensures.ok c.in_ok-there.ensures.ok c.in_ok-own.ensures.ok c.in_ok-r.ensures.ok

pub returns-clause-fits : goal.returns-clause-fits
returns-clause-fits g c =
    g.met.G.Goal.fits_on c.bad.new.self c.bad.new.st c.at_packets-2.new.st c.in_ok-all.ensures.fits (grows_on _ _ _ c.at_packets.ensures.grows (grows_on _ _ _ c.only_side.ensures.grows c.at_packets-2.ensures.grows))
