use Rattle.nk_prefix.proofs.Fitting.{largest_fits, largest_above}
use Rattle.nk_prefix.proofs.laws.blocks_are_largest.Goals as goal

pub returns-clause-fit : goal.returns-clause-fit
returns-clause-fit c = largest_fits

pub returns-clause-most : goal.returns-clause-most
returns-clause-most c = largest_above
