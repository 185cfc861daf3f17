use Rattle.std.proofs.Common.{◌≡◌, map}
use Rattle.nk_gen.specs.Network.{switches, ring_link}
use Rattle.nk_gen.proofs.network.ring.Given as goal

-- the links of the switches so far
abbrev pub invariant-loop-below : goal.invariant-loop-below
invariant-loop-below l =
    l.links.items ≡ map (ring_link l.size) (switches l.below)
