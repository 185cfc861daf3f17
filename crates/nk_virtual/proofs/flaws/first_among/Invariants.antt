use Rattle.std.proofs.Common.{take}
use Rattle.nk_virtual.specs.Flaws.{IsFirstAmong}
use Rattle.nk_virtual.proofs.flaws.first_among.Given as goal

-- the first flaw of the virtual links so far
abbrev pub invariant-loop-k : goal.invariant-loop-k
invariant-loop-k l = IsFirstAmong l.fields l.topo l.tag (take l.k-index l.links) l.first
