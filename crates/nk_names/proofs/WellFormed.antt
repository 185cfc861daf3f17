-- A program's policy is well formed.
use Rattle.std.proofs.Common.{arith}
use Rattle.nk_field.specs.Packet.{FieldTable}
use Rattle.nk_policy.specs.Policy.{Policy}
use Rattle.nk_names.specs.ProgramValue.{IsLet}
use Rattle.nk_names.specs.WellFormed.{IsWellFormed}
use Rattle.nk_names.proofs.Good.{few_dups}

pub let_well_formed : (fields : FieldTable) (p : Policy) → IsLet fields p → IsWellFormed fields p
let_well_formed fields p k = record {
  numbered = k.numbered;
  few_dups = (let a = few_dups p in let b = k.small in omega (arith, a, b));
  over = k.over;
  in_range = k.in_range;
  complements = k.complements;
}
