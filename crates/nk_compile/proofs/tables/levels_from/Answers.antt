use Rattle.std.proofs.Common.{sym, subst}
use Rattle.nk_store.proofs.Stores.{grows_on}
use Rattle.nk_sets.proofs.SetLemmas.{predicate_grows, set_grows as grown_set}
use Rattle.nk_determ.specs.Sets.{IsSetOf as IsLabels}
use Rattle.nk_goal.proofs.Growing.{states_grow}
use Rattle.nk_group.proofs.Stating.{ids_kept}
use Rattle.nk_witness.specs.Finds.{found_of}
use Rattle.nk_compile.proofs.SetLemmas.{set_grows}
use Rattle.nk_compile.specs.Levelled.{IsOffFault}
use Rattle.nk_compile.specs.WrongEnds.{wrong_leaf, HaveEndsOf}
use Rattle.nk_compile.proofs.WrongEnding.{levels_are, levels_later, least_is}
use Rattle.nk_compile.proofs.tables.levels_from.Goals as goal

pub wrong_ends-requires-clause-states : goal.wrong_ends-requires-clause-states
wrong_ends-requires-clause-states c = ids_kept c.args.st.now c.starts.new.st c.args.states.now (grows_on _ _ _ c.off_edges.ensures.grows c.starts.ensures.grows) c.requires.states.ids

pub wrong_ends-requires-clause-set : goal.wrong_ends-requires-clause-set
wrong_ends-requires-clause-set c = grown_set _ _ _ c.starts.ensures.grows (record { id = c.in_ok-off.ensures.set.id; predicate = c.in_ok-off.ensures.predicate })

pub levels-requires-clause-states : goal.levels-requires-clause-states
levels-requires-clause-states c =
    states_grow c.args.st.now c.wrong_ends.new.st c.args.states.now
    (grows_on _ _ _ c.off_edges.ensures.grows (grows_on _ _ _ c.starts.ensures.grows c.wrong_ends.ensures.grows)) c.requires.states

pub returns-clause-ok : goal.returns-clause-ok
returns-clause-ok c =
    levels_are c.args.topo.now c.args.tag c.args.st.now c.wrong_ends.new.st c.levels.new.st c.args.states.now c.in_ok-goal.goal.states c.in_ok-off.off c.in_ok-goal.goal.set c.in_ok-from.from c.in_ok-s.s
    c.intern.new.self c.levels.new.ss c.in_ok-lv.lv.levels c.in_ok-lv.lv.broken
    (grows_on _ _ _ c.off_edges.ensures.grows (grows_on _ _ _ c.starts.ensures.grows c.wrong_ends.ensures.grows)) c.levels.ensures.grows c.laws.ensures.tidy
    c.in_ok-goal.ensures.set c.in_ok-goal.ensures.states
    (subst (λ l. IsLabels c.intern.new.self c.in_ok-s.s l) c.in_ok-start_alone.ensures c.in_ok-s.ensures.ok) c.levels.ensures.sets
    (set_grows _ _ _ _ (grows_on _ _ _ c.starts.ensures.grows c.wrong_ends.ensures.grows) c.in_ok-off.ensures.set)
    (predicate_grows _ _ _ (grows_on _ _ _ c.starts.ensures.grows c.wrong_ends.ensures.grows) c.in_ok-off.ensures.set.id c.in_ok-off.ensures.predicate)
    (set_grows _ _ _ _ c.wrong_ends.ensures.grows c.in_ok-from.ensures.set)
    c.in_ok-lv.ensures.ok

pub least_history-requires-clause-states : goal.least_history-requires-clause-states
least_history-requires-clause-states c =
    states_grow c.args.st.now c.levels.new.st c.args.states.now
    (grows_on _ _ _ c.off_edges.ensures.grows (grows_on _ _ _ c.starts.ensures.grows (grows_on _ _ _ c.wrong_ends.ensures.grows c.levels.ensures.grows))) c.requires.states

pub least_history-requires-clause-levels : goal.least_history-requires-clause-levels
least_history-requires-clause-levels c =
    (levels_later c.wrong_ends.new.st c.levels.new.st c.levels.new.ss c.args.states.now c.in_ok-goal.goal.states c.in_ok-goal.goal.ends c.in_ok-s.s c.in_ok-from.from c.in_ok-goal.goal.set
    (λ places x. wrong_leaf c.levels.new.st c.levels.new.g.set c.levels.new.g.states places x) c.in_ok-lv.lv.levels c.in_ok-lv.lv.broken
    c.in_ok-lv.ensures.ok c.levels.ensures.grows
    (states_grow c.args.st.now c.wrong_ends.new.st c.args.states.now
    (grows_on _ _ _ c.off_edges.ensures.grows (grows_on _ _ _ c.starts.ensures.grows c.wrong_ends.ensures.grows)) c.requires.states)
    (c.wrong_ends.ensures.grows.ids _ c.in_ok-from.ensures.set.id) c.in_ok-goal.ensures.states
    (subst (λ q. HaveEndsOf c.wrong_ends.new.st q c.args.states.now c.in_ok-goal.goal.ends) (sym c.in_ok-goal.ensures.set) c.in_ok-goal.ensures.ends)
    (λ places x. c.in_ok-lv.ensures.same c.levels.new.st places x)).2

pub returns-then-broken-clause-err : goal.returns-then-broken-clause-err
returns-then-broken-clause-err c =
    let grown = grows_on c.args.st.now c.wrong_ends.new.st c.levels.new.st (grows_on _ _ _ c.off_edges.ensures.grows (grows_on _ _ _ c.starts.ensures.grows c.wrong_ends.ensures.grows)) c.levels.ensures.grows in
    let later = grows_on c.off_edges.new.st c.wrong_ends.new.st c.levels.new.st (grows_on _ _ _ c.starts.ensures.grows c.wrong_ends.ensures.grows) c.levels.ensures.grows in
    subst (λ e. IsOffFault c.args.topo.now c.args.tag c.args.st.now c.args.states.now e) (sym c.off_edge.ensures)
    (least_is c.args.topo.now c.args.tag c.args.st.now c.wrong_ends.new.st c.levels.new.st c.args.states.now c.in_ok-goal.goal.states c.in_ok-off.off c.in_ok-goal.goal.set c.in_ok-from.from c.in_ok-s.s
    c.intern.new.self c.levels.new.ss (λ places x. wrong_leaf c.wrong_ends.new.st c.in_ok-goal.goal.set c.in_ok-goal.goal.states places x) (λ places x. wrong_leaf c.levels.new.st c.levels.new.g.set c.levels.new.g.states places x) c.in_ok-lv.lv.levels c.in_ok-lv.lv.broken (found_of c.in_ok-found.found)
    grown c.laws-then-broken.ensures.tidy c.in_ok-goal.ensures.set c.in_ok-goal.ensures.states
    (subst (λ l. IsLabels c.intern.new.self c.in_ok-s.s l) c.in_ok-start_alone.ensures c.in_ok-s.ensures.ok) c.levels.ensures.sets
    (set_grows _ _ _ _ later c.in_ok-off.ensures.set)
    (predicate_grows _ _ _ later c.in_ok-off.ensures.set.id c.in_ok-off.ensures.predicate)
    (set_grows _ _ _ _ (grows_on _ _ _ c.wrong_ends.ensures.grows c.levels.ensures.grows) c.in_ok-from.ensures.set)
    (λ places x. c.in_ok-lv.ensures.same c.levels.new.st places x) c.in_ok-lv.ensures.ok
    c.in_ok-found.ensures.least)

pub returns-then-broken-clause-grows : goal.returns-then-broken-clause-grows
returns-then-broken-clause-grows c =
    grows_on _ _ _ c.off_edges.ensures.grows
    (grows_on _ _ _ c.starts.ensures.grows (grows_on _ _ _ c.wrong_ends.ensures.grows (grows_on _ _ _ c.levels.ensures.grows c.least_history.ensures.grows)))

pub returns-in_err-found-clause-grows : goal.returns-in_err-found-clause-grows
returns-in_err-found-clause-grows c =
    grows_on _ _ _ c.off_edges.ensures.grows
    (grows_on _ _ _ c.starts.ensures.grows
    (grows_on _ _ _ c.wrong_ends.ensures.grows (grows_on _ _ _ c.levels.ensures.grows c.least_history.ensures.grows)))
