use Rattle.std.proofs.Common.{◌≡◌, ◌++◌, take}
use Rattle.std.specs.Prelude.{map}
use Rattle.nk_sim.proofs.transit.push_sent.Given as goal

-- a copy of each packet so far
abbrev pub invariant-loop-packet : goal.invariant-loop-packet
invariant-loop-packet l = l.out.items ≡ l.fn.out.items ++ map (λ y. record { last = l.last; packet = y }) (take l.packet-index l.packets)
