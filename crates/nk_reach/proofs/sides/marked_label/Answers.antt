use Rattle.nk_reach.proofs.OneSided.{marks_on}
use Rattle.nk_reach.proofs.sides.marked_label.Goals as goal

pub returns-then-l-bound-clause-of_right : goal.returns-then-l-bound-clause-of_right
returns-then-l-bound-clause-of_right c = marks_on c.args.st.now c.marked_once.new.st 2 c.args.marks.now.right.entries c.marked_once.ensures.grows c.requires.of_right

pub returns-clause-of_left : goal.returns-clause-of_left
returns-clause-of_left c = marks_on c.args.st.now c.marked_once-2.new.st 1 c.args.marks.now.left.entries c.marked_once-2.ensures.grows c.requires.of_left
