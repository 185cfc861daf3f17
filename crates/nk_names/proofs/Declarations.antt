-- What the checks of a declaration leave known.
use Rattle.std.proofs.Common.{◌≡◌, ℕ, ◌≤◌, Bool, true, false, None, refl, arith}
use Rattle.std.specs.Prelude.{nat_lt}
use Rattle.nk_field.specs.Packet.{FieldTable}
use Rattle.nk_policy.specs.Policy.{depth_of, size_of}
use Rattle.nk_lex.specs.declared.ident.Ident.{Ident}
use Rattle.nk_lex.specs.declared.ident.Number.{Number}
use Rattle.nk_declare.proofs.Checks.{none_both}
use Rattle.nk_grammar.specs.Tree.{Tree}
use Rattle.nk_declare.specs.declared.fault.DeclareFault.TheVariants as fault
use Rattle.nk_names.specs.declared.fault.FaultKind.{FaultKind}
use Rattle.nk_names.specs.declared.fault.FaultKind.TheVariants as kind
use Rattle.nk_names.specs.Meant.{Lets, text_fault_if, value_above, policy_for, unknown_in, misplaced_in}
use Rattle.nk_names.specs.ProgramOf.{named_fault}

-- a fault that isn't there is no fault
pub not_wrong : (b : Bool) (k : FaultKind) (line : ℕ) → text_fault_if b k line ≡ None → b ≡ false
not_wrong true k line h = absurd cc
not_wrong false k line h = refl

-- what isn't more than a bound is at most it
pub at_most : (m n : ℕ) → nat_lt m n ≡ false → n ≤ m
at_most m n h = grind (arith, h)

-- a number that isn't above a bound is at most it
pub in_bound : (most : ℕ) (n : Number) → value_above most n ≡ None → n.value ≤ most
in_bound most n h = at_most most n.value (not_wrong (nat_lt most n.value) (kind.Common fault.ValueOutOfRange) n.line h)

-- what is known of a policy that has no fault
pub record IsFaultless (fields : FieldTable) (lets : Lets) (w : Ident) (t : Tree) : Type 0 where
  pub known : unknown_in fields lets t ≡ None
  pub placed : misplaced_in fields lets t ≡ None
  pub shallow : depth_of (policy_for fields lets t) ≤ 256
  pub small : size_of (policy_for fields lets t) ≤ 1048576

pub faultless : (fields : FieldTable) (lets taken : Lets) (w : Ident) (t : Tree) (line : ℕ)
    → named_fault fields lets taken w t line ≡ None → IsFaultless fields lets w t
faultless fields lets taken w t line h =
    let r1 = none_both _ _ h in
    let r2 = none_both _ _ r1.1 in
    let r3 = none_both _ _ r2.1 in
    let r4 = none_both _ _ r3.1 in
    record {
      known = r2.0;
      placed = r3.0;
      shallow = at_most 256 (depth_of (policy_for fields lets t)) (not_wrong _ kind.TooDeep line r4.0);
      small = at_most 1048576 (size_of (policy_for fields lets t)) (not_wrong _ kind.TooLarge line r4.1);
    }
