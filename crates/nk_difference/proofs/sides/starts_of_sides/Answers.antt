use Rattle.std.proofs.Common.{◌≡◌, ◌<◌, ◌≤◌, ℕ, [], ◌∷◌, List, length, sym, ◌∙◌, ap, subst, arith}
use Rattle.nk_store.proofs.Stores.{grows_on}
use Rattle.nk_sets.specs.PacketSets.{has_some_out}
use Rattle.nk_determ.specs.Sets.{IsSetOf}
use Rattle.nk_goal.proofs.Growing.{states_grow, sets_same}
use Rattle.nk_reach.specs.Sides.{property_grows}
use Rattle.nk_difference.proofs.Exploring.{levels_here, starts_of_sides_are}
use Rattle.nk_difference.proofs.sides.starts_of_sides.Goals as goal

pub explored-requires-clause-states : goal.explored-requires-clause-states
explored-requires-clause-states c =
    states_grow c.args.st.now c.identity.new.st c.args.states.now (grows_on _ _ _ c.new.ensures.grows c.identity.ensures.grows) c.requires.states

pub counterexample_starts-requires-clause-fits : goal.counterexample_starts-requires-clause-fits
counterexample_starts-requires-clause-fits c =
    property_grows c.new.new.st c.explored.new.st c.in_ok-goal.goal.ends c.in_ok-goal.goal.seen.entries c.in_ok-goal.ensures.fits (grows_on _ _ _ c.identity.ensures.grows c.explored.ensures.grows)

pub counterexample_starts-requires-clause-states : goal.counterexample_starts-requires-clause-states
counterexample_starts-requires-clause-states c =
    states_grow c.args.st.now c.explored.new.st c.args.states.now (grows_on _ _ _ c.new.ensures.grows (grows_on _ _ _ c.identity.ensures.grows c.explored.ensures.grows)) c.requires.states

pub counterexample_starts-requires-clause-levels : goal.counterexample_starts-requires-clause-levels
counterexample_starts-requires-clause-levels c =
    levels_here c.identity.new.st c.explored.new.st c.explored.new.ss c.args.states.now c.in_ok-s.s c.in_ok-from.from c.in_ok-l.l.levels c.explored.ensures.grows
    (states_grow c.args.st.now c.identity.new.st c.args.states.now (grows_on _ _ _ c.new.ensures.grows c.identity.ensures.grows) c.requires.states) c.in_ok-from.ensures.ok.id c.in_ok-l.ensures.ok

pub returns-clause-ok : goal.returns-clause-ok
returns-clause-ok c =
    let is = subst (λ l. IsSetOf c.intern.new.self c.in_ok-s.s l) c.in_ok-start_alone.ensures c.in_ok-s.ensures.ok in
    starts_of_sides_are c.args.st.now c.new.new.st c.identity.new.st c.explored.new.st c.counterexample_starts.new.st c.args.states.now c.args.left c.args.right c.args.bound c.in_ok-s.s c.in_ok-from.from c.explored.new.ss c.in_ok-goal.goal.ends c.in_ok-l.l.levels
    c.in_ok-starts.starts.left c.in_ok-starts.starts.right c.new.ensures.grows c.identity.ensures.grows c.explored.ensures.grows c.counterexample_starts.ensures.grows c.laws.ensures.tidy
    (sets_same c.intern.new.self c.explored.new.ss c.in_ok-s.s c.explored.ensures.sets is.within ∙ is.members) c.in_ok-from.ensures.ok.id (λ pk r. ap has_some_out (c.in_ok-from.ensures.ok.leaf pk r.0)) c.in_ok-l.ensures.ok
    c.in_ok-goal.ensures.ids c.in_ok-goal.ensures.marked.count c.in_ok-goal.ensures.alone c.in_ok-starts.ensures.left c.in_ok-starts.ensures.right

pub returns-in_err-s-clause-grows : goal.returns-in_err-s-clause-grows
returns-in_err-s-clause-grows c = grows_on _ _ _ c.new.ensures.grows c.identity.ensures.grows

pub returns-in_err-l-clause-grows : goal.returns-in_err-l-clause-grows
returns-in_err-l-clause-grows c = grows_on _ _ _ (grows_on _ _ _ c.new.ensures.grows c.identity.ensures.grows) c.explored.ensures.grows

pub returns-in_err-starts-clause-grows : goal.returns-in_err-starts-clause-grows
returns-in_err-starts-clause-grows c =
    grows_on _ _ _ (grows_on _ _ _ (grows_on _ _ _ c.new.ensures.grows c.identity.ensures.grows) c.explored.ensures.grows) c.counterexample_starts.ensures.grows

pub returns-clause-grows : goal.returns-clause-grows
returns-clause-grows c =
    grows_on _ _ _ (grows_on _ _ _ (grows_on _ _ _ c.new.ensures.grows c.identity.ensures.grows) c.explored.ensures.grows) c.counterexample_starts.ensures.grows
