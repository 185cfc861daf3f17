use Rattle.std.proofs.Common.{◌≡◌, false, length, sym, subst, arith}
use Rattle.nk_determ.specs.Pairs.{AreStates}
use Rattle.nk_goal.proofs.Growing.{packets_of, states_grow}
use Rattle.nk_runs.proofs.Stands.{are_states}
use Rattle.nk_witness.specs.Finds.{found_of, target_of}
use Rattle.nk_cert.specs.Together.{either_of}
use Rattle.nk_determ.proofs.Naming.{pairs_are_entries}
use Rattle.nk_cert.proofs.Comparing.{levels_here, related_is, difference_is, levels_at, break_at, least_at}
use Rattle.nk_cert.proofs.comparison.compare_by_levels.Goals as goal

pub levels_of_both-requires-clause-states : goal.levels_of_both-requires-clause-states
levels_of_both-requires-clause-states c =
    are_states c.args.st.now c.args.both.now.states (either_of c.requires.automaton.1 c.requires.automaton.2) c.requires.automaton.3.states_are

pub certificate_of-requires-clause-entries : goal.certificate_of-requires-clause-entries
certificate_of-requires-clause-entries c =
    pairs_are_entries c.levels_of_both.new.st c.levels_of_both.new.ss (length c.args.both.now.states) c.in_ok-lv.lv.levels.levels c.in_ok-lv.ensures.ok.levels.pairs

pub certificate_of-requires-clause-packets : goal.certificate_of-requires-clause-packets
certificate_of-requires-clause-packets c = λ i lt.
    packets_of c.levels_of_both.new.st c.levels_of_both.new.ss (length c.args.both.now.states) _ (c.in_ok-lv.ensures.ok.levels.pairs i lt).each

pub returns-then-not-broken : goal.returns-then-not-broken
returns-then-not-broken c = λ fields p q a is rp rq.
    let off : c.in_ok-lv.lv.levels.broken ≡ false = (let t = c.if-not-broken.true in grind (arith, c.broken.ensures)) in
    related_is fields c.args.st.now c.args.both.now.states c.args.both.now.left c.args.both.now.right c.args.bound p q a is
    c.levels_of_both.new.st c.levels_of_both.new.ss c.in_ok-lv.lv.goal.ends c.in_ok-lv.lv.levels.levels c.in_ok-lv.lv.levels.broken c.in_ok-lv.ensures.ok off
    c.differ.ensures.differ rp rq c.certificate_of.new.st c.certificate_of.ensures.grows _ c.in_ok-certificate.ensures.ok

pub least_history-requires-clause-states : goal.least_history-requires-clause-states
least_history-requires-clause-states c =
    let begun = are_states c.args.st.now c.args.both.now.states (either_of c.requires.automaton.1 c.requires.automaton.2) c.requires.automaton.3.states_are in
    subst (λ r. AreStates c.levels_of_both.new.st r) (sym c.as_slice.ensures)
    (states_grow c.args.st.now c.levels_of_both.new.st c.args.both.now.states c.levels_of_both.ensures.grows begun)

pub least_history-requires-clause-levels : goal.least_history-requires-clause-levels
least_history-requires-clause-levels c =
    let begun = are_states c.args.st.now c.args.both.now.states (either_of c.requires.automaton.1 c.requires.automaton.2) c.requires.automaton.3.states_are in
    levels_at c.levels_of_both.new.st c.levels_of_both.new.ss c.in_ok-lv.lv.goal.ends c.in_ok-lv.lv.levels.levels c.as_slice.result.now c.args.both.now.states c.as_slice.ensures c.in_ok-lv.lv.levels.broken
    (levels_here c.args.st.now c.args.both.now.states c.args.both.now.left c.args.both.now.right c.args.bound c.levels_of_both.new.st c.levels_of_both.new.ss c.in_ok-lv.lv.goal.ends
    c.in_ok-lv.lv.levels.levels c.in_ok-lv.lv.levels.broken begun c.in_ok-lv.ensures.ok)

pub returns : goal.returns
returns c = λ fields p q a is rp rq.
    let new = c.levels_of_both.new.st in
    let ss = c.levels_of_both.new.ss in
    let ends = c.in_ok-lv.lv.goal.ends in
    let ls = c.in_ok-lv.lv.levels.levels in
    difference_is fields c.args.st.now c.args.both.now.states c.args.both.now.left c.args.both.now.right c.args.bound p q a is new ss ends ls c.in_ok-lv.lv.levels.broken c.in_ok-lv.ensures.ok
    c.laws.ensures.tidy c.in_ok-found.found.side (found_of c.in_ok-found.found)
    (break_at new ss ends ls c.as_slice.result.now c.args.both.now.states c.as_slice.ensures (target_of c.in_ok-found.found.side) (found_of c.in_ok-found.found) c.in_ok-found.ensures.breaks)
    (least_at new ss ends ls c.as_slice.result.now c.args.both.now.states c.as_slice.ensures (found_of c.in_ok-found.found) c.in_ok-found.ensures.least)
