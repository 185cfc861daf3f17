-- Packets in range can be at each switch that a text can declare.
use Rattle.std.proofs.Common.{◌≡◌, ℕ, ◌≤◌, List, [], ◌∷◌, take, sym, ap, subst}
use Rattle.std.specs.Prelude.{slice_index}
use Rattle.nk_field.specs.Packet.{FieldTable, IsFieldTable}
use Rattle.nk_field.proofs.Ascending.{all_from_members, members_from_all}
use Rattle.nk_topo.specs.Topology.{Topology, SwitchPorts}
use Rattle.nk_names.specs.Topologies.{IsDeclarable}
use Rattle.nk_uniqueness.specs.Packets.{HavePackets}

-- the first of two first numbers
first_of_two : (ms : List ℕ) (a b : ℕ) → take 2 ms ≡ a ∷ b ∷ [] → slice_index ms 0 ≡ a
first_of_two [] a b e = cc
first_of_two (m ∷ ms) a b e = ap (λ l. slice_index l 0) e

pub program_has : (fields : FieldTable) (topo : Topology) → IsFieldTable fields → IsDeclarable topo → HavePackets fields topo
program_has fields topo table declared =
    let most = first_of_two fields.maxima 65535 65535 table.built_in_maxima in
    record {
      few = table.few;
      switches = all_from_members (λ (s : SwitchPorts). s.switch ≤ slice_index fields.maxima 0) topo.switches (λ s i.
          subst (λ n. s.switch ≤ n) (sym most) (members_from_all (λ (z : SwitchPorts). z.switch ≤ 65535) topo.switches declared.switches s i));
    }
