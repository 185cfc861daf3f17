use Rattle.nk_apply.proofs.Laters.{known_later}
use Rattle.nk_apply.proofs.pairs.known_root_field.Goals as goal

pub returns-clause-later : goal.returns-clause-later
returns-clause-later g c = known_later (g.J.Join.joined c.args.j.now) c.args.st.now c.args.a c.args.b c.known.result
    c.laws.ensures.reduced c.laws.ensures.still c.laws.ensures.nodes c.requires.left c.requires.right c.known.ensures
