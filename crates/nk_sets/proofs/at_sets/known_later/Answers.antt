use Rattle.nk_apply.specs.Leaves.{guarded}
use Rattle.nk_apply.proofs.Laters as laters
use Rattle.nk_sets.proofs.at_sets.known_later.Goals as goal

pub returns-clause-later : goal.returns-clause-later
returns-clause-later c = laters.known_later guarded c.args.st.now c.args.s c.args.d c.known.result
    c.laws.ensures.reduced c.laws.ensures.still c.laws.ensures.nodes c.requires.set c.requires.diagram c.known.ensures
