use Rattle.std.proofs.Common.{subst}
use Rattle.nk_determ.specs.Sets.{HasEachSetOnce}
use Rattle.nk_determ.proofs.Interned.{distinct_differ}
use Rattle.nk_determ.proofs.sets.Sets.differ.Goals as goal

pub returns-clause-differ : goal.returns-clause-differ
returns-clause-differ c = subst HasEachSetOnce c.self.view_is (distinct_differ c.self.inside.sets c.len-count.ensures.unique)
