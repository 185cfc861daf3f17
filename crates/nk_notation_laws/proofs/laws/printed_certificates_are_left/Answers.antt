use Rattle.nk_notation_laws.proofs.PrintedPolicies.{printed_certificates_left}
use Rattle.nk_notation_laws.proofs.laws.printed_certificates_are_left.Goals as goal

pub returns : goal.returns
returns c = printed_certificates_left
