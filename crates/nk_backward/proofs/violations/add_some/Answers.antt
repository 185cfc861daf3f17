use Rattle.nk_backward.proofs.Gaining.{added_none}
use Rattle.nk_backward.proofs.violations.add_some.Goals as goal

pub returns-then-is_empty-clause-ok : goal.returns-then-is_empty-clause-ok
returns-then-is_empty-clause-ok c = added_none c.args.st.now c.args.back.now c.args.s c.args.y c.requires.back c.requires.once (c.is_empty.ensures.yes c.if-is_empty.true)
