use Rattle.std.proofs.Common.{◌≡◌, ℕ, true, false, map, take}
use Rattle.nk_store.specs.StoreState.{Grows}
use Rattle.nk_compile.specs.PacketSets.{IsConstantSet}
use Rattle.nk_compile.proofs.PortLemmas.{AreSwitches}
use Rattle.nk_compile.proofs.ports.at_ports.Given as goal

-- the switches so far have the sets of their ports
abbrev pub invariant-loop-sw : goal.invariant-loop-sw
invariant-loop-sw l = record {
  grows : Grows l.fn.st l.st;
  none : IsConstantSet l.st l.none false;
  all : IsConstantSet l.st l.all true;
  numbers : map (λ (c : ℕ × ℕ). c.0) l.children ≡ take l.sw-index l.switches;
  sets : AreSwitches l.st l.edges_only l.topo l.children;
}
