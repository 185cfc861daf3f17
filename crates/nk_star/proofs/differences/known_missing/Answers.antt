use Rattle.nk_star.proofs.Lacks.{missing_left, missing_right}
use Rattle.nk_star.proofs.differences.known_missing.Goals as goal

pub returns-then-drops : goal.returns-then-drops
returns-then-drops c = missing_left c.args.st.now c.args.a c.args.b c.requires.left (c.drops.ensures.yes c.if-drops.true)

pub returns-then-drops-2 : goal.returns-then-drops-2
returns-then-drops-2 c = missing_right c.args.st.now c.args.a c.args.b c.requires.left (c.drops-2.ensures.yes c.if-drops-2.true)
