use Rattle.std.proofs.Common.{◌≡◌, false, [], get_or, refl, arith}
use Rattle.nk_witness.specs.Finds.{found_of}
use Rattle.nk_sets.proofs.Kept.{packet_back}
use Rattle.nk_merge.proofs.Growing.{disjoint_on, twice_with}
use Rattle.nk_merge.proofs.Levelling.{rows_stand, same_before, least_before}
use Rattle.nk_merge.proofs.distinguishing.distinguish.Goals as goal

pub returns-then-not-broken-clause-ok : goal.returns-then-not-broken-clause-ok
returns-then-not-broken-clause-ok c =
    let off : c.in_ok-both.both.broken ≡ false = (let t = c.if-not-broken.true in grind (arith, c.broken.ensures)) in
    same_before c.args.st.now c.levels_of_two.new.st c.levels_of_two.new.ss c.args.states.now (get_or c.args.ss.now c.args.s []) (get_or c.args.ss.now c.args.t [])
    c.args.disjoint.now c.levels_of_two.new.disjoint c.in_ok-both.both.levels c.in_ok-both.both.broken c.levels_of_two.ensures.grows c.requires.disjoint c.in_ok-both.ensures.disjoint
    c.requires.first_places c.requires.second_places c.in_ok-both.ensures.ok off

pub least_history-requires-clause-states : goal.least_history-requires-clause-states
least_history-requires-clause-states c =
    rows_stand c.levels_of_two.new.st c.args.states.now c.levels_of_two.new.disjoint c.as_slice.result.now c.as_slice.ensures c.in_ok-both.ensures.disjoint c.in_ok-both.ensures.ok.tidy

pub returns-clause-disjoint : goal.returns-clause-disjoint
returns-clause-disjoint c =
    twice_with c.least_history.new.st c.args.states.now c.levels_of_two.new.disjoint (record { rows = c.levels_of_two.new.disjoint.rows; goal = c.least_history.new.g })
    (disjoint_on c.levels_of_two.new.st c.least_history.new.st c.args.states.now c.levels_of_two.new.disjoint c.least_history.ensures.grows c.in_ok-both.ensures.disjoint)
    refl c.in_ok-found.ensures.fits c.in_ok-found.ensures.labels c.in_ok-found.ensures.same

pub returns-clause-ok : goal.returns-clause-ok
returns-clause-ok c = (
  least_before c.args.st.now c.levels_of_two.new.st c.levels_of_two.new.ss c.args.states.now (get_or c.args.ss.now c.args.s []) (get_or c.args.ss.now c.args.t [])
      c.args.disjoint.now c.levels_of_two.new.disjoint c.in_ok-both.both.levels c.in_ok-both.both.broken c.levels_of_two.ensures.grows c.requires.disjoint c.in_ok-both.ensures.disjoint
      c.requires.first_places c.requires.second_places c.in_ok-both.ensures.ok c.as_slice.result.now c.as_slice.ensures
      c.in_ok-found.found.side (found_of c.in_ok-found.found) c.in_ok-found.ensures.breaks c.in_ok-found.ensures.least,
  packet_back c.args.st.now c.levels_of_two.new.st c.in_ok-found.found.history.last c.levels_of_two.ensures.grows c.in_ok-found.ensures.range,
)
