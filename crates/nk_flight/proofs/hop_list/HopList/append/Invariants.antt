use Rattle.std.proofs.Common.{◌≡◌, ◌++◌, take}
use Rattle.nk_flight.proofs.hop_list.HopList.append.Given as goal

-- the hops so far stand after those that were held
abbrev pub invariant-loop-hop : goal.invariant-loop-hop
invariant-loop-hop l = l.self ≡ l.fn.self ++ take l.hop-index l.more
