use Rattle.std.proofs.Common.{◌∙◌, [], get_or, refl}
use Rattle.nk_store.proofs.Stores.{grows_on}
use Rattle.nk_goal.proofs.Growing.{sets_same}
use Rattle.nk_merge.specs.Alike.{labels_after}
use Rattle.nk_merge.proofs.Growing.{disjoint_on, twice_with}
use Rattle.nk_merge.proofs.Levelling.{rows_stand, both_have_places, two_levels}
use Rattle.nk_merge.proofs.distinguishing.levels_of_two.Goals as goal

pub levels-requires-clause-fits : goal.levels-requires-clause-fits
levels-requires-clause-fits c = (disjoint_on c.args.st.now c.every_packet.new.st c.args.states.now c.args.disjoint.now c.every_packet.ensures.grows c.requires.disjoint).fits

pub levels-requires-clause-states : goal.levels-requires-clause-states
levels-requires-clause-states c =
    rows_stand c.every_packet.new.st c.args.states.now c.args.disjoint.now c.as_slice.result.now c.as_slice.ensures
    (disjoint_on c.args.st.now c.every_packet.new.st c.args.states.now c.args.disjoint.now c.every_packet.ensures.grows c.requires.disjoint) c.laws.ensures.tidy

pub levels-requires-clause-places : goal.levels-requires-clause-places
levels-requires-clause-places c =
    both_have_places c.every_packet.new.st c.args.states.now c.args.disjoint.now (get_or c.args.ss.now c.args.s []) (get_or c.args.ss.now c.args.t []) c.as_slice.result.now
    (get_or c.joined.new.ss c.in_ok-set.set []) c.as_slice.ensures
    (disjoint_on c.args.st.now c.every_packet.new.st c.args.states.now c.args.disjoint.now c.every_packet.ensures.grows c.requires.disjoint) c.laws.ensures.tidy
    c.requires.first_places c.requires.second_places c.in_ok-set.ensures.is.members

pub returns-clause-disjoint : goal.returns-clause-disjoint
returns-clause-disjoint c =
    twice_with c.levels.new.st c.args.states.now c.args.disjoint.now (record { rows = c.args.disjoint.now.rows; goal = c.levels.new.g })
    (disjoint_on c.args.st.now c.levels.new.st c.args.states.now c.args.disjoint.now (grows_on _ _ _ c.every_packet.ensures.grows c.levels.ensures.grows) c.requires.disjoint)
    refl c.in_ok-lv.ensures.fits c.in_ok-lv.ensures.labels c.in_ok-lv.ensures.same

pub returns-clause-ok : goal.returns-clause-ok
returns-clause-ok c =
    two_levels c.every_packet.new.st c.levels.new.st c.levels.new.ss c.args.states.now (labels_after (get_or c.args.ss.now c.args.s [])) (labels_after (get_or c.args.ss.now c.args.t []))
    c.args.disjoint.now (record { rows = c.args.disjoint.now.rows; goal = c.levels.new.g }) c.as_slice.result.now c.in_ok-set.set c.in_ok-from.from c.in_ok-lv.lv.levels c.in_ok-lv.lv.broken
    c.levels.ensures.grows c.laws.ensures.tidy c.laws-2.ensures.tidy
    (disjoint_on c.args.st.now c.every_packet.new.st c.args.states.now c.args.disjoint.now c.every_packet.ensures.grows c.requires.disjoint)
    c.as_slice.ensures refl c.in_ok-lv.ensures.same
    (sets_same c.joined.new.ss c.levels.new.ss c.in_ok-set.set c.levels.ensures.sets c.in_ok-set.ensures.is.within ∙ c.in_ok-set.ensures.is.members)
    c.in_ok-from.ensures.set.id c.in_ok-from.ensures.each c.in_ok-lv.ensures.ok
