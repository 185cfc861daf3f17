use Rattle.nk_diagram_tests.proofs.Pairs.{two_ids, two_places}
use Rattle.nk_diagram_tests.proofs.determ.state_of_two.Goals as goal

pub state-requires-clause-states : goal.state-requires-clause-states
state-requires-clause-states c = two_ids c.args.st.now c.args.a c.args.b c.requires.first c.requires.second

pub state-requires-clause-places : goal.state-requires-clause-places
state-requires-clause-places c = two_places _ c.requires.set.members
