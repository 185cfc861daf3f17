use Rattle.std.proofs.Common.{◌≡◌, ◌<◌, ℕ, List, length, sym, subst}
use Rattle.std.proofs.lemmas.Result.{IfOk-weaker}
use Rattle.nk_determ.specs.Pairs.{AreStates}
use Rattle.nk_runs.proofs.Stands.{are_states}
use Rattle.nk_cert.specs.Together.{either_of}
use Rattle.nk_difference.specs.Sides.{AreStartsOfSides}
use Rattle.nk_difference.proofs.BothSides.{difference_is}
use Rattle.nk_difference.proofs.sides.difference_in.Goals as goal

pub starts_of_sides-requires-clause-states : goal.starts_of_sides-requires-clause-states
starts_of_sides-requires-clause-states c =
    subst (AreStates c.args.st.now) (sym c.as_slice.ensures)
    (are_states c.args.st.now c.args.both.now.states (either_of c.requires.automaton.1 c.requires.automaton.2) c.requires.automaton.3.states_are)

pub returns : goal.returns
returns c =
    IfOk-weaker c.difference_of.result _ _
    (λ d found fields p q a is rp rq.
    difference_is fields c.args.st.now c.starts_of_sides.new.st c.args.both.now.states c.args.both.now.left c.args.both.now.right c.args.bound c.in_ok-starts.starts.left c.in_ok-starts.starts.right p q a is
    (subst (λ (r : List ℕ). AreStartsOfSides c.args.st.now r c.args.both.now.left c.args.both.now.right c.args.bound c.starts_of_sides.new.st c.in_ok-starts.starts.left c.in_ok-starts.starts.right) c.as_slice.ensures c.in_ok-starts.ensures.ok)
    d found)
    c.difference_of.ensures
