-- Fields and switches for which a policy has at most one printed table.
use Rattle.std.specs.Prelude.{◌≤◌, length, slice_index, All}
use Rattle.nk_field.specs.Packet.{FieldTable}
use Rattle.nk_topo.specs.Topology.{Topology}

-- A packet has a place for each field, and at each switch there are packets in range. At a switch without any, whatever rows would
-- be the printed ones.
pub record HavePackets (fields : FieldTable) (topo : Topology) : Type 0 where
  pub few : length fields.maxima ≤ 18
  pub switches : All (λ s. s.switch ≤ slice_index fields.maxima 0) topo.switches
