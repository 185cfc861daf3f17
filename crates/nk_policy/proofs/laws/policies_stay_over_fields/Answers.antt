use Rattle.nk_field.specs.Packet.{IsValue}
use Rattle.nk_policy.specs.Ranges.{IsValueOf}
use Rattle.nk_policy.proofs.Uses.{assigns_from_uses, marked_uses, written_uses, rest_uses}
use Rattle.nk_policy.proofs.laws.policies_stay_over_fields.Goals as goal

pub returns-clause-in_range : goal.returns-clause-in_range
returns-clause-in_range c = λ fields p u. assigns_from_uses (IsValue fields) (IsValueOf fields) (λ f n v. v.1) p u

pub returns-clause-numbered : goal.returns-clause-numbered
returns-clause-numbered c = λ fields p n. marked_uses (IsValue fields) p n

pub returns-clause-written_out : goal.returns-clause-written_out
returns-clause-written_out c = λ fields p. written_uses (IsValue fields) p

pub returns-clause-rest : goal.returns-clause-rest
returns-clause-rest c = λ fields p l u. rest_uses (IsValue fields) p l u
