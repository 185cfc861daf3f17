-- Policies at the packets that neither of two predicates keeps.
use Rattle.std.proofs.Common.{◌≡◌, inl, inr, List, [], ◌++◌, sym, subst}
use Rattle.std.specs.Prelude.{◌↔◌}
use Rattle.nk_field.specs.declared.packet.Packet.{Packet}
use Rattle.nk_policy.specs.Policy.{Policy, sum_of, part, no_part}
use Rattle.nk_policy.specs.Meaning.{Gives}
use Rattle.nk_difference.specs.Guarded.{outside}

-- neither predicate keeps the packet
abbrev pub IsOutside : Policy → Policy → Packet → Type 0
IsOutside a b pk = ¬ (Gives (sum_of (part a (part b no_part))) pk [] pk)

-- what one policy gives there another gives there too
pub outside_gives : (a b r s : Policy) (pk : Packet) → (IsOutside a b pk → (v : List Packet) (y : Packet) → Gives r pk v y → Gives s pk v y) → (w : List Packet) (y : Packet) → Gives (outside a b r) pk w y → Gives (outside a b s) pk w y
outside_gives a b r s pk f w y h =
    let rest = h.5 in
    let is : h.2 ≡ pk = h.4.0.1 in
    let g : Gives r pk rest.0 rest.2 = subst (λ (x : Packet). Gives r x rest.0 rest.2) is rest.4 in
    let m : Gives s pk rest.0 rest.2 = f h.4.1 rest.0 rest.2 g in
    let k : Gives s h.2 rest.0 rest.2 = subst (λ (x : Packet). Gives s x rest.0 rest.2) (sym is) m in
    (h.0, h.1, h.2, h.3, h.4, (rest.0, rest.1, rest.2, rest.3, k, rest.5))

-- outside of both, the left predicate keeps no packet
pub not_left : (a b : Policy) (pk : Packet) → IsOutside a b pk → Gives a pk [] pk → ⊥
not_left a b pk out h = out (inl h)

-- and the right one keeps none
pub not_right : (a b : Policy) (pk : Packet) → IsOutside a b pk → Gives b pk [] pk → ⊥
not_right a b pk out h = out (inr (inl h))
