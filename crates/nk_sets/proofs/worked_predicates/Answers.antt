use Rattle.std.proofs.Common.{refl}
use Rattle.nk_sets.proofs.worked_predicates.Goals as goal

pub returns : goal.returns
returns c = record { one = refl; not_one = refl; zero = refl; second_one = refl; one_or_zero = refl; low = refl; high = refl; inner = refl; two_zero_or_more = refl }
