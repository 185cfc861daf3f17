use Rattle.std.proofs.Common.{◌≡◌}
use Rattle.std.specs.List.{flat_map}
use Rattle.nk_gen.specs.Network.{switches, branches}
use Rattle.nk_gen.proofs.network.tree.Given as goal

-- the links of the switches so far
abbrev pub invariant-loop-below : goal.invariant-loop-below
invariant-loop-below l =
    l.links.items ≡ flat_map (branches l.size) (switches l.below)
