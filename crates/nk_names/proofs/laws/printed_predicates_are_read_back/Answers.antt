use Rattle.nk_names.proofs.PredicatesBack.{predicates_back}
use Rattle.nk_names.proofs.laws.printed_predicates_are_read_back.Goals as goal

pub returns : goal.returns
returns c = predicates_back
