-- What is asked of a fabric, as policies to compare.
use Rattle.std.specs.Prelude.{ℕ, ◌+◌, Option, None, Some, List, [], ◌∷◌, slice_index}
use Rattle.nk_field.specs.declared.packet.Packet.{Packet}
use Rattle.nk_field.specs.Packet.{FieldTable}
use Rattle.nk_policy.specs.Policy.{Policy, Policies, test, assign, sum_of, seq_of, not_of, no_part, part}
use Rattle.nk_names.specs.ProgramValue.{VirtualLink}
use Rattle.nk_virtual.specs.Endings.{without_records}
use Rattle.nk_virtual.specs.Fabrics.{moved_along}

-- the test for tag 0, where there is a tag
abbrev pub tag_tests : Option ℕ → Policies
tag_tests None = no_part
tag_tests (Some tag) = part (test tag 0) no_part

-- keeps the packets without a tag at the start of the virtual link
abbrev pub at_entry : Option ℕ → VirtualLink → Policy
at_entry tag k = seq_of (part (test 0 k.ends.from_switch) (part (test 1 k.ends.from_port) (tag_tests tag)))

-- from these packets alone
abbrev pub from_entry : Option ℕ → VirtualLink → Policy → Policy
from_entry tag k p = seq_of (part (at_entry tag k) (part p no_part))

-- moves each packet to where the virtual link ends
abbrev pub move : VirtualLink → Policy
move k = seq_of (part (assign 0 k.ends.to_switch) (part (assign 1 k.ends.to_port) no_part))

-- ends where the fabric does, and where the move does
abbrev pub ends_or_move : VirtualLink → Policy
ends_or_move k = sum_of (part (without_records k.fabric) (part (move k) no_part))

-- tests for the values of a packet, from a field on
abbrev pub tests_from : ℕ → List ℕ → Packet → Policies
tests_from f [] x = no_part
tests_from f (m ∷ maxima) x = part (test f (slice_index x f)) (tests_from (f + 1) maxima x)

-- keeps one packet alone of those in range
abbrev pub only : FieldTable → Packet → Policy
only fields x = seq_of (tests_from 0 fields.maxima x)

-- the fabric's histories from one packet that end elsewhere than at the moved packet
abbrev pub elsewhere : FieldTable → VirtualLink → Packet → Policy
elsewhere fields k x = seq_of (part (only fields x) (part k.fabric (part (not_of (only fields (moved_along k x))) no_part)))
