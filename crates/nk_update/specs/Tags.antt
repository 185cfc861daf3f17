-- Packets that enter, and the tags of the copies that they come to: by the old tables old ones, by the new tables greater ones.
use Rattle.std.specs.Prelude.{ℕ, suc, ◌≤◌, ◌<◌, List, slice_index, All}
use Rattle.nk_field.specs.Packet.{IsPacket, IsUntagged}
use Rattle.nk_topo.specs.Topology.{IsLocated}
use Rattle.nk_table.specs.declared.Tables.{Tables}
use Rattle.nk_table.specs.Hops.{Copy, waiting}
use Rattle.nk_update.specs.Plans.{Pair}

-- a packet in range on a declared port with tag 0
pub record IsEntering (t : Tables) (pk : List ℕ) : Type 0 where
  pub packet : IsPacket t.fields pk
  pub located : IsLocated t.topo pk
  pub untagged : IsUntagged t.fields pk

-- The copies that have crossed a link, from packets that enter, have tags of their own: by the old tables old ones, by the
-- new tables greater ones.
pub record HaveTheirTags (p : Pair) : Type 0 where
  pub old : (k : ℕ) (pk : List ℕ) → IsEntering p.old pk
      → All (λ (c : Copy). (1 ≤ slice_index c.packet p.tag) × (slice_index c.packet p.tag ≤ p.old_tags)) (waiting p.old (suc k) pk)
  pub new : (k : ℕ) (pk : List ℕ) → IsEntering p.old pk
      → All (λ (c : Copy). p.old_tags < slice_index c.packet p.tag) (waiting p.new (suc k) pk)
