use Rattle.std.proofs.Common.{◌∙◌}
use Rattle.nk_sets.proofs.forgets.forget_here.Goals as goal

pub forget_children-requires-clause-children : goal.forget_children-requires-clause-children
forget_children-requires-clause-children c =
    (c.args.parts.now, c.requires.case, c.deref.ensures.value ∙ c.in_ok-all.ensures)
