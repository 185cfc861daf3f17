-- Packets as they are hashed and compared.
use Rattle.std.proofs.Common.{◌≡◌, ℕ, List, nat_eq, IsTrue, slice_index}
use Rattle.std.specs.Prelude.{map}
use Rattle.std.specs.List.{range_with_len}
use Rattle.std.specs.Hash.{HashWrites, le_bytes}
use Rattle.std.specs.Bool.{Decides}
use Rattle.std.specs.Cmp.Lexicographic.{pointwise, pointwise_decides}
use Rattle.std.proofs.lemmas.Bool.Decides.{Decides-eqb}

-- the bytes of a field's value
abbrev pub value_fed : List ℕ → ℕ → List ℕ
value_fed p f = le_bytes 8 (slice_index p f)

-- what a hasher is given of a packet: the value of each field in turn
abbrev pub values_fed : List ℕ → HashWrites
values_fed p = map (value_fed p) (range_with_len 0 18)

-- `==` tells whether two packets are one
packets_decide : (p q : List ℕ) → Decides (pointwise nat_eq p q) (p ≡ q)
packets_decide p q = pointwise_decides Decides-eqb p q

-- packets that are equal are one
pub packet_same : (p q : List ℕ) → IsTrue (pointwise nat_eq p q) → p ≡ q
packet_same p q h = (packets_decide p q).0 h
