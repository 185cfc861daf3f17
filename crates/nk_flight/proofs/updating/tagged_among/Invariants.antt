use Rattle.std.proofs.Common.{◌≡◌, ◌≤◌, take}
use Rattle.nk_flight.specs.Updates.{is_old_tag}
use Rattle.nk_flight.specs.Progresses.{how_many}
use Rattle.nk_flight.specs.declared.hops.Hop.{Hop}
use Rattle.nk_flight.proofs.updating.tagged_among.Given as goal

-- how many of the hops passed have an old tag
abbrev pub invariant-loop-hop : goal.invariant-loop-hop
invariant-loop-hop l = record {
  is : l.count ≡ how_many (λ (h : Hop). is_old_tag l.stages h.packet) (take l.hop-index l.hops);
  few : l.count ≤ l.hop-index;
}
