-- Virtual links in memory.
use Rattle.std.specs.Prelude.{◌≡◌, ℕ, ◌==◌, ◌&&◌, Bool, List}
use Rattle.std.specs.List.{list_any}
use Rattle.nk_policy.specs.Policy.{Policy}
use Rattle.nk_names.specs.ProgramValue.{VirtualLink}

-- a virtual link by its four numbers and its fabric
abbrev pub virtual_from : ℕ → ℕ → ℕ → ℕ → Policy → VirtualLink
virtual_from a m b n fabric =
    record { ends = record { from_switch = a; from_port = m; to_switch = b; to_port = n }; fabric = fabric }

-- whether a port is among these
abbrev pub is_among : List (ℕ × ℕ) → ℕ → ℕ → Bool
is_among ports sw pt = list_any (λ p. (sw == p.0) && (pt == p.1)) ports

-- these ports are those where the virtual links begin, and those where they end
pub record AreVirtualEnds (links : List VirtualLink) (from to : List (ℕ × ℕ)) : Type 0 where
  pub sources : (sw pt : ℕ) → is_among from sw pt ≡ list_any (λ k. (k.ends.from_switch == sw) && (k.ends.from_port == pt)) links
  pub targets : (sw pt : ℕ) → is_among to sw pt ≡ list_any (λ k. (k.ends.to_switch == sw) && (k.ends.to_port == pt)) links
