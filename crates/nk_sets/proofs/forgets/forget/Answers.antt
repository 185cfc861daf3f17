use Rattle.nk_sets.proofs.Forgetting.{stays}
use Rattle.nk_sets.proofs.forgets.forget.Goals as goal

pub returns-then-is_past-clause-ok : goal.returns-then-is_past-clause-ok
returns-then-is_past-clause-ok c =
    stays c.args.st.now c.args.f c.args.s c.requires c.is_past.ensures.still (c.is_past.ensures.past c.if-is_past.true)
