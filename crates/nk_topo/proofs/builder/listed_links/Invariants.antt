use Rattle.std.proofs.Common.{◌≡◌, ◌++◌, map}
use Rattle.nk_topo.specs.Gathered.{four_of}
use Rattle.nk_topo.proofs.builder.listed_links.Given as goal

-- the links listed so far and those that are left are all
abbrev pub invariant-loop-a : goal.invariant-loop-a
invariant-loop-a l = l.all.items ++ map four_of l.a-iterator ≡ map four_of l.fn.links.entries
