use Rattle.nk_reach.proofs.OneSided.{marks_on}
use Rattle.nk_reach.proofs.sides.marked_state.Goals as goal

pub returns-then-l-eq0-clause-of_left : goal.returns-then-l-eq0-clause-of_left
returns-then-l-eq0-clause-of_left c = marks_on c.args.st.now c.marked_starts.new.st 1 c.args.marks.now.left.entries c.marked_starts.ensures.grows c.requires.of_left

pub returns-then-l-eq0-clause-of_right : goal.returns-then-l-eq0-clause-of_right
returns-then-l-eq0-clause-of_right c = marks_on c.args.st.now c.marked_starts.new.st 2 c.args.marks.now.right.entries c.marked_starts.ensures.grows c.requires.of_right
