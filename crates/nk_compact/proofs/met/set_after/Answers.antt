use Rattle.nk_compact.proofs.MetSets.{after_increasing}
use Rattle.nk_compact.proofs.met.set_after.Goals as goal

pub intern-requires : goal.intern-requires
intern-requires c = after_increasing c.members.result.now c.in_ok-labels.labels c.members.ensures.ascend c.in_ok-labels.ensures
