-- What a policy as it is written stands for, once each name in it is written out as the policy above that has it; and
-- what may be wrong with it.
use Rattle.std.specs.Prelude.{ℕ, Bool, not, nat_lt, Option, Some, None, is_none, if◌then◌else◌, unwrap_or, min, List, [], ◌∷◌}
use Rattle.std.specs.Str.{bytes_eq}
use Rattle.nk_field.specs.Packet.{FieldTable, field_named}
use Rattle.nk_policy.specs.Policy.{Policy, Policies, is_predicate}
use Rattle.nk_policy.specs.Policy as policy
use Rattle.nk_lex.specs.declared.ident.Ident.{Ident}
use Rattle.nk_lex.specs.declared.ident.Number.{Number}
use Rattle.nk_lex.specs.Faults.{first_of}
pub use Rattle.nk_declare.specs.Declarations.{place_of_field, most_in}
use Rattle.nk_grammar.specs.Tree.{Tree, Trees, name_of, test, range, assign, sum_of, seq_of, not_of, star_of, dup, link, no_part, part}
use Rattle.nk_declare.specs.declared.fault.DeclareFault.TheVariants as fault
use Rattle.nk_names.specs.declared.fault.FaultKind.{FaultKind}
use Rattle.nk_names.specs.declared.fault.FaultKind.TheVariants as kind
use Rattle.nk_names.specs.declared.fault.NamesError.{NamesError}
use Rattle.nk_names.specs.declared.fault.NamesError.TheVariants.{Fault}

-- policies by name, in the order of the text
abbrev pub Lets : Type 0
Lets = List (List ℕ × Policy)

-- the policy of a name
abbrev pub policy_among : Lets → List ℕ → Option Policy
policy_among [] name = None
policy_among (l ∷ ls) name = if bytes_eq l.0 name then Some l.1 else policy_among ls name

-- a fault, or none
abbrev pub MaybeTextFault : Type 0
MaybeTextFault = Option NamesError

-- the fault of this kind, where a test passes
abbrev pub text_fault_if : Bool → FaultKind → ℕ → MaybeTextFault
text_fault_if wrong k line = if wrong then Some (Fault k line) else None

-- a number above a bound
abbrev pub value_above : ℕ → Number → MaybeTextFault
value_above most n = text_fault_if (nat_lt most n.value) (kind.Common fault.ValueOutOfRange) n.line

-- the four numbers of a link, which are a switch and a port, twice
abbrev pub literal_ends : Number → Number → Number → Number → MaybeTextFault
literal_ends a m b n = first_of (first_of (first_of (value_above 65535 a) (value_above 65535 m)) (value_above 65535 b)) (value_above 65535 n)

-- Each name is written out as its policy. A name of no policy or of no field and a number out of range are at fault; here
-- they count as `drop`, as the first field and as the largest number. The dups are numbered later.
abbrev mutual
  pub policy_for : FieldTable → Lets → Tree → Policy
  policy_for fields lets (name_of w) = unwrap_or (policy_among lets w.text) (policy.sum_of policy.no_part)
  policy_for fields lets (test w n) = policy.test (place_of_field fields w) n.value
  policy_for fields lets (range w low high) = policy.range (place_of_field fields w) low.value high.value
  policy_for fields lets (assign w n) = policy.assign (place_of_field fields w) n.value
  policy_for fields lets (sum_of ts) = policy.sum_of (policies_for fields lets ts)
  policy_for fields lets (seq_of ts) = policy.seq_of (policies_for fields lets ts)
  policy_for fields lets (not_of t line) = policy.not_of (policy_for fields lets t)
  policy_for fields lets (star_of t) = policy.star_of (policy_for fields lets t)
  policy_for fields lets dup = policy.dup 0
  policy_for fields lets (link a m b n) = policy.link (min a.value 65535) (min m.value 65535) (min b.value 65535) (min n.value 65535) 0

  pub policies_for : FieldTable → Lets → Trees → Policies
  policies_for fields lets no_part = policy.no_part
  policies_for fields lets (part t ts) = policy.part (policy_for fields lets t) (policies_for fields lets ts)

-- a field and its value
abbrev pub no_value : FieldTable → Ident → Number → MaybeTextFault
no_value fields w n =
    first_of (text_fault_if (is_none (field_named fields w.text)) kind.UnknownField w.line) (value_above (most_in fields w) n)

-- a field and the two ends of a range of its values; the first may be above the second
abbrev pub no_range : FieldTable → Ident → (low high : Number) → MaybeTextFault
no_range fields w low high = first_of (no_value fields w low) (value_above (most_in fields w) high)

-- the first name of no policy, name of no field or number out of range, from left to right
abbrev mutual
  pub unknown_in : FieldTable → Lets → Tree → MaybeTextFault
  unknown_in fields lets (name_of w) = text_fault_if (is_none (policy_among lets w.text)) kind.UnknownName w.line
  unknown_in fields lets (test w n) = no_value fields w n
  unknown_in fields lets (range w low high) = no_range fields w low high
  unknown_in fields lets (assign w n) = no_value fields w n
  unknown_in fields lets (sum_of ts) = unknown_among fields lets ts
  unknown_in fields lets (seq_of ts) = unknown_among fields lets ts
  unknown_in fields lets (not_of t line) = unknown_in fields lets t
  unknown_in fields lets (star_of t) = unknown_in fields lets t
  unknown_in fields lets dup = None
  unknown_in fields lets (link a m b n) = literal_ends a m b n

  pub unknown_among : FieldTable → Lets → Trees → MaybeTextFault
  unknown_among fields lets no_part = None
  unknown_among fields lets (part t ts) = first_of (unknown_in fields lets t) (unknown_among fields lets ts)

-- the first `~` over what is no predicate
abbrev mutual
  pub misplaced_in : FieldTable → Lets → Tree → MaybeTextFault
  misplaced_in fields lets (name_of w) = None
  misplaced_in fields lets (test w n) = None
  misplaced_in fields lets (range w low high) = None
  misplaced_in fields lets (assign w n) = None
  misplaced_in fields lets (sum_of ts) = misplaced_among fields lets ts
  misplaced_in fields lets (seq_of ts) = misplaced_among fields lets ts
  misplaced_in fields lets (not_of t line) =
      first_of (text_fault_if (not (is_predicate (policy_for fields lets t))) kind.NotAPredicate line) (misplaced_in fields lets t)
  misplaced_in fields lets (star_of t) = misplaced_in fields lets t
  misplaced_in fields lets dup = None
  misplaced_in fields lets (link a m b n) = None

  pub misplaced_among : FieldTable → Lets → Trees → MaybeTextFault
  misplaced_among fields lets no_part = None
  misplaced_among fields lets (part t ts) = first_of (misplaced_in fields lets t) (misplaced_among fields lets ts)
