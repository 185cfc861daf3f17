-- The link literals of a policy: a packet is recorded at the source port, moved to the target port, and recorded there.
use Rattle.std.specs.Prelude.{◌≡◌, ℕ, ◌⊎◌, slice_index, slice_set}
use Rattle.nk_field.specs.declared.packet.Packet.{Packet}
use Rattle.nk_policy.specs.Policy.{Policy, Policies, test, range, assign, sum_of, seq_of, not_of, star_of, dup, link, no_part, part}

-- a link literal: its source, its target and the number of its first dup
pub record Literal : Type 0 where
  pub from_switch : ℕ
  pub from_port : ℕ
  pub to_switch : ℕ
  pub to_port : ℕ
  pub mark : ℕ

-- the literal stands in the policy, outside complements
abbrev mutual
  pub HoldsLiteral : Policy → Literal → Type 0
  HoldsLiteral (test f n) k = ⊥
  HoldsLiteral (range f lo hi) k = ⊥
  HoldsLiteral (assign f n) k = ⊥
  HoldsLiteral (sum_of ps) k = SomeHoldsLiteral ps k
  HoldsLiteral (seq_of ps) k = SomeHoldsLiteral ps k
  HoldsLiteral (not_of p) k = ⊥
  HoldsLiteral (star_of p) k = HoldsLiteral p k
  HoldsLiteral (dup l) k = ⊥
  HoldsLiteral (link a m b n l) k = k ≡ record { from_switch = a; from_port = m; to_switch = b; to_port = n; mark = l }

  -- it stands in one of the parts
  pub SomeHoldsLiteral : Policies → Literal → Type 0
  SomeHoldsLiteral no_part k = ⊥
  SomeHoldsLiteral (part p ps) k = HoldsLiteral p k ⊎ SomeHoldsLiteral ps k

-- the packet is at the literal's source port
abbrev pub IsAtSource : Literal → Packet → Type 0
IsAtSource k x = (slice_index x 0 ≡ k.from_switch) × (slice_index x 1 ≡ k.from_port)

-- the packet at the literal's target port
abbrev pub moved_by : Literal → Packet → Packet
moved_by k x = slice_set (slice_set x 0 k.to_switch) 1 k.to_port
