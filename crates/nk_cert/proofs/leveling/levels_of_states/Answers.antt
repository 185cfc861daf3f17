use Rattle.std.proofs.Common.{◌∙◌, ap, subst}
use Rattle.nk_store.proofs.Stores.{grows_on}
use Rattle.nk_sets.specs.PacketSets.{has_some_out}
use Rattle.nk_determ.specs.Sets.{IsSetOf}
use Rattle.nk_reach.specs.Sides.{property_grows}
use Rattle.nk_goal.proofs.Growing.{states_grow, sets_same}
use Rattle.nk_cert.proofs.Sided.{side_levels}
use Rattle.nk_cert.proofs.leveling.levels_of_states.Goals as goal

pub levels-requires-clause-fits : goal.levels-requires-clause-fits
levels-requires-clause-fits c = property_grows c.new.new.st c.identity.new.st c.in_ok-goal.goal.ends c.in_ok-goal.goal.seen.entries c.in_ok-goal.ensures.fits c.identity.ensures.grows

pub levels-requires-clause-states : goal.levels-requires-clause-states
levels-requires-clause-states c =
    states_grow c.args.st.now c.identity.new.st c.args.states.now (grows_on _ _ _ c.new.ensures.grows c.identity.ensures.grows) c.requires.states

pub returns-clause-ok : goal.returns-clause-ok
returns-clause-ok c =
    let is = subst (λ l. IsSetOf c.intern.new.self c.in_ok-s.s l) c.in_ok-start_alone.ensures c.in_ok-s.ensures.ok in
    side_levels c.args.st.now c.new.new.st c.identity.new.st c.levels.new.st c.args.states.now c.args.left c.args.right c.args.bound
    c.in_ok-s.s c.in_ok-from.from c.levels.new.ss c.in_ok-goal.goal.ends c.levels.new.g.ends c.in_ok-lv.lv.levels c.in_ok-lv.lv.broken
    c.new.ensures.grows c.identity.ensures.grows c.levels.ensures.grows c.laws.ensures.tidy
    (sets_same c.intern.new.self c.levels.new.ss c.in_ok-s.s c.levels.ensures.sets is.within ∙ is.members)
    c.in_ok-from.ensures.ok.id (λ pk r. ap has_some_out (c.in_ok-from.ensures.ok.leaf pk r.0))
    c.in_ok-goal.ensures.ids c.in_ok-goal.ensures.marked.count c.in_ok-goal.ensures.alone
    c.in_ok-lv.ensures.fits.ids c.in_ok-lv.ensures.labels c.in_ok-lv.ensures.same c.in_ok-lv.ensures.ok

pub returns-in_err-s-clause-grows : goal.returns-in_err-s-clause-grows
returns-in_err-s-clause-grows c = grows_on _ _ _ c.new.ensures.grows c.identity.ensures.grows

pub returns-in_err-lv-clause-grows : goal.returns-in_err-lv-clause-grows
returns-in_err-lv-clause-grows c = grows_on _ _ _ (grows_on _ _ _ c.new.ensures.grows c.identity.ensures.grows) c.levels.ensures.grows

pub returns-clause-grows : goal.returns-clause-grows
returns-clause-grows c = grows_on _ _ _ (grows_on _ _ _ c.new.ensures.grows c.identity.ensures.grows) c.levels.ensures.grows
