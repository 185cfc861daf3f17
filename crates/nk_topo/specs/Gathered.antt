-- How the maps of a topology in the making make up its value.
use Rattle.std.specs.Prelude.{ℕ, List, map}
use Rattle.nk_topo.specs.Topology.{SwitchPorts, Topology, IsTopology}
use Rattle.nk_topo.specs.Inside.{link_of, AreTargets}

-- the switch of this number with these ports
abbrev pub switch_of : ℕ → List ℕ → SwitchPorts
switch_of n ports = record { switch = n; ports = ports }

-- the four numbers of a link, from where it begins and where it ends
abbrev pub four_of : (ℕ × ℕ) × (ℕ × ℕ) → ℕ × ℕ × ℕ × ℕ
four_of e = (e.0.0, e.0.1, e.1.0, e.1.1)

-- the topology of switches, and of a map from where links begin to where they end
abbrev pub topology_from : List SwitchPorts → List ((ℕ × ℕ) × (ℕ × ℕ)) → Topology
topology_from ss ls = record { switches = ss; links = map (λ e. link_of (four_of e)) ls }

-- these make a topology, and a port is among these ports exactly where one of its links ends there
pub record IsGathered (ss : List SwitchPorts) (ls : List ((ℕ × ℕ) × (ℕ × ℕ))) (ts : List (ℕ × ℕ)) : Type 0 where
  pub topology : IsTopology (topology_from ss ls)
  pub targets : AreTargets ts (map four_of ls)
