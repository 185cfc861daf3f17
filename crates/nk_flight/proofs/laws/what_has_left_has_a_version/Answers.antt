use Rattle.nk_flight.proofs.Leaving.{have_versions}
use Rattle.nk_flight.proofs.laws.what_has_left_has_a_version.Goals as goal

pub returns : goal.returns
returns c = λ g es. have_versions g es
