use Rattle.std.proofs.Common.{◌≡◌, take}
use Rattle.std.specs.Prelude.{map}
use Rattle.nk_virtual.specs.Sizes.{fabric_size}
use Rattle.nk_virtual.proofs.measure.fabric_sizes.Given as goal

-- the sizes of the fabrics so far
abbrev pub invariant-loop-k : goal.invariant-loop-k
invariant-loop-k l = l.sizes.items ≡ map fabric_size (take l.k-index l.links)
