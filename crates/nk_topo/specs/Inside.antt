-- How the parts of a topology in memory make up its value.
use Rattle.std.specs.Prelude.{◌≡◌, ℕ, ◌==◌, ◌&&◌, List, [], ◌∷◌, length, map}
use Rattle.std.specs.List.{list_any}
use Rattle.nk_topo.specs.Topology.{SwitchPorts, Link, Topology, IsTopology}

-- a link of these four numbers: the switch and port where it begins, then those where it ends
abbrev pub link_of : ℕ × ℕ × ℕ × ℕ → Link
link_of l = record { from_switch = l.0; from_port = l.1; to_switch = l.2; to_port = l.3 }

-- switches of these numbers, each with the ports at the same index
abbrev pub switches_with : List ℕ → List (List ℕ) → List SwitchPorts
switches_with [] ports = []
switches_with (n ∷ ns) [] = []
switches_with (n ∷ ns) (p ∷ ps) = record { switch = n; ports = p } ∷ switches_with ns ps

-- the topology of switch numbers, the ports of each and links
abbrev pub topology_with : List ℕ → List (List ℕ) → List (ℕ × ℕ × ℕ × ℕ) → Topology
topology_with ns ps ls = record { switches = switches_with ns ps; links = map link_of ls }

-- as many port lists as switches, which with the links make a topology
pub record IsInside (ns : List ℕ) (ps : List (List ℕ)) (ls : List (ℕ × ℕ × ℕ × ℕ)) : Type 0 where
  pub paired : length ns ≡ length ps
  pub topology : IsTopology (topology_with ns ps ls)

-- a port is among these ports exactly where one of the links ends there
abbrev pub AreTargets : List (ℕ × ℕ) → List (ℕ × ℕ × ℕ × ℕ) → Type 0
AreTargets ts ls = (sw pt : ℕ) → list_any (λ t. (sw == t.0) && (pt == t.1)) ts ≡ list_any (λ l. (l.2 == sw) && (l.3 == pt)) ls

-- a topology and the ports where its links end
pub record IsHeld (ns : List ℕ) (ps : List (List ℕ)) (ls : List (ℕ × ℕ × ℕ × ℕ)) (ts : List (ℕ × ℕ)) : Type 0 where
  pub inside : IsInside ns ps ls
  pub targets : AreTargets ts ls
