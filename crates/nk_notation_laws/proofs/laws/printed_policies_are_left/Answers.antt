use Rattle.nk_notation_laws.proofs.PrintedPolicies.{printed_policies_left}
use Rattle.nk_notation_laws.proofs.laws.printed_policies_are_left.Goals as goal

pub returns : goal.returns
returns c = printed_policies_left
