use Rattle.std.proofs.Common.{length}
use Rattle.nk_merge.proofs.Raising.{places_below}
use Rattle.nk_merge.proofs.together.states_after.Goals as goal

pub state_after-requires : goal.state_after-requires
state_after-requires c = places_below (length c.args.states.now) c.args.labels.now c.requires c.loop-l.l-index c.loop-l-test.true
