use Rattle.std.proofs.Common.{◌≡◌, take}
use Rattle.std.specs.Prelude.{map}
use Rattle.nk_topo.specs.Inside.{link_of}
use Rattle.nk_virtual.proofs.literal.ends_of.Given as goal

-- the ends of the virtual links so far
abbrev pub invariant-loop-k : goal.invariant-loop-k
invariant-loop-k l = map link_of l.ends.keys ≡ map (λ k. k.ends) (take l.k-index l.links)
