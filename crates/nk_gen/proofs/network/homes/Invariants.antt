use Rattle.std.proofs.Common.{◌≡◌, ◌+◌, ◌++◌, drop, map}
use Rattle.std.specs.List.{enumerate_from}
use Rattle.nk_gen.specs.Network.{home_of, homes_by}
use Rattle.nk_gen.proofs.network.homes.Given as goal

-- the homes so far, then those of the switches that are left, are all
abbrev pub invariant-loop-i : goal.invariant-loop-i
invariant-loop-i l =
    l.homes.items ++ map home_of (enumerate_from (l.i + 1) (drop l.i l.draws)) ≡ homes_by l.draws
