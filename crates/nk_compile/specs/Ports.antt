-- Declared ports that count: all of them, or edge ports alone.
use Rattle.std.specs.Prelude.{ℕ, Bool, not, ◌||◌, is_none, if◌then◌else◌, List, map}
use Rattle.nk_topo.specs.Topology.{Topology, is_port, is_edge, link_from}

-- whether a declared port counts: each one does, or those alone where no link begins
abbrev pub counts : Bool → Topology → ℕ → ℕ → Bool
counts edges_only topo sw pt = not edges_only || is_none (link_from topo sw pt)

-- a declared port, or an edge port where these alone count
abbrev pub is_counted : Bool → Topology → ℕ → ℕ → Bool
is_counted edges_only topo sw pt = if edges_only then is_edge topo sw pt else is_port topo sw pt

-- the ports of a switch, each with one of two sets: with `all` where it counts, else with `none`
abbrev pub with_sets : Bool → Topology → ℕ → ℕ → ℕ → List ℕ → List (ℕ × ℕ)
with_sets edges_only topo sw none all ports = map (λ p. (p, if counts edges_only topo sw p then all else none)) ports
