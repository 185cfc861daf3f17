-- What tables can be made of, named or not: a policy over the fields that assigns values in range, whose dups are numbered
-- from 1 in text order by numbers below 2 ^ 32, and each complement is of a predicate. Its depth and its size have no limit
-- of their own.
use Rattle.std.specs.Prelude.{◌+◌, ◌≤◌}
use Rattle.nk_field.specs.Packet.{FieldTable}
use Rattle.nk_policy.specs.Policy.{Policy, dups_of}
use Rattle.nk_policy.specs.Ranges.{IsInRange, IsOverFields}
use Rattle.nk_names.specs.Complements.{NegatesPredicates}
use Rattle.nk_names.specs.ProgramValue.{IsNumberedFromOne}

pub record IsWellFormed (fields : FieldTable) (p : Policy) : Type 0 where
  pub numbered : IsNumberedFromOne p
  pub few_dups : 1 + dups_of p ≤ 4294967296
  pub over : IsOverFields fields p
  pub in_range : IsInRange p fields
  pub complements : NegatesPredicates p
