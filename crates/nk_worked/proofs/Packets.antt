-- Packets of two switches: what is in range, and packets with a switch and a port in front.
use Rattle.std.proofs.Common.{◌≡◌, ℕ, zero, suc, ◌≤◌, List, [], ◌∷◌, length, refl, arith}
use Rattle.std.specs.Prelude.{slice_index}
use Rattle.nk_field.specs.Packet.{IsPacket}
use Rattle.nk_table.specs.Worked.{packet}
use Rattle.nk_worked.specs.TwoSwitches.{dst_and_tag}

-- each value is at most the one at its place, and 0 past the last
abbrev pub EachAtMost : List ℕ → List ℕ → Type 0
EachAtMost [] ms = Unit {0}
EachAtMost (x ∷ xs) [] = (x ≡ 0) × EachAtMost xs []
EachAtMost (x ∷ xs) (m ∷ ms) = (x ≤ m) × EachAtMost xs ms

pub at_most : (xs ms : List ℕ) → EachAtMost xs ms → (f : ℕ) → slice_index xs f ≤ slice_index ms f
at_most [] ms h f = omega arith
at_most (x ∷ xs) [] h zero = omega (arith, h.0)
at_most (x ∷ xs) [] h (suc f) = at_most xs [] h.1 f
at_most (x ∷ xs) (m ∷ ms) h zero = h.0
at_most (x ∷ xs) (m ∷ ms) h (suc f) = at_most xs ms h.1 f

-- a packet of these two places and dst 3 is in range
pub in_range : (sw pt : ℕ) → sw ≤ 65535 → pt ≤ 65535 → (f : ℕ) → slice_index (packet sw pt 3 0) f ≤ slice_index dst_and_tag.maxima f
in_range sw pt s p =
    at_most (packet sw pt 3 0) dst_and_tag.maxima
    (s, (p, (omega arith, (omega arith, (refl, (refl, (refl, (refl, (refl, (refl, (refl, (refl, (refl, (refl, (refl, (refl, (refl, (refl, tt))))))))))))))))))

pub is_packet : (sw pt : ℕ) → sw ≤ 65535 → pt ≤ 65535 → IsPacket dst_and_tag (packet sw pt 3 0)
is_packet sw pt s p = record { places = refl; within = in_range sw pt s p }

-- what holds of each packet with a switch and a port in front holds of each packet
pub from_front : (P : List ℕ → Type 0) → ((sw pt : ℕ) (r : List ℕ) → P (sw ∷ pt ∷ r)) → (pk : List ℕ) → length pk ≡ 18 → P pk
from_front P h [] e = absurd (omega (arith, e))
from_front P h (sw ∷ []) e = absurd (omega (arith, e))
from_front P h (sw ∷ pt ∷ r) e = h sw pt r
