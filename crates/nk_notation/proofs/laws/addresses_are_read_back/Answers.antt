use Rattle.nk_notation.proofs.Addresses.{read_back}
use Rattle.nk_notation.proofs.laws.addresses_are_read_back.Goals as goal

pub returns : goal.returns
returns c = read_back
