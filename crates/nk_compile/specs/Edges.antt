-- Where packets start and may leave: located packets with tag 0 start, and packets leave at edge ports.
use Rattle.std.specs.Prelude.{ℕ, ◌==◌, ◌&&◌, Bool, not, List, slice_index}
use Rattle.nk_topo.specs.Topology.{Topology, is_port, is_edge}

-- located, with tag 0
abbrev pub is_start : Topology → ℕ → List ℕ → Bool
is_start topo tag pk = (slice_index pk tag == 0) && is_port topo (slice_index pk 0) (slice_index pk 1)

-- at no edge port
abbrev pub is_no_edge : Topology → List ℕ → Bool
is_no_edge topo pk = not (is_edge topo (slice_index pk 0) (slice_index pk 1))
