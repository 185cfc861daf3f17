use Rattle.nk_prefix.proofs.Powers.{max_below, fewest}
use Rattle.nk_prefix.proofs.Covers.{exact, agree_is}
use Rattle.nk_prefix.proofs.laws.prefixes_are_intervals.Goals as goal

pub returns-clause-below : goal.returns-clause-below
returns-clause-below c = max_below

pub returns-clause-fewest : goal.returns-clause-fewest
returns-clause-fewest c = fewest

pub returns-clause-exact : goal.returns-clause-exact
returns-clause-exact c = exact

pub returns-clause-aligned : goal.returns-clause-aligned
returns-clause-aligned c = agree_is
