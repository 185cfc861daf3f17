use Rattle.std.proofs.Common.{◌-◌, [], length, get_or}
use Rattle.nk_store.specs.StoreState.{Grows}
use Rattle.nk_determ.specs.Sets.{SetsGrow}
use Rattle.nk_witness.specs.Backs.{AreBacks}
use Rattle.nk_witness.specs.Finds.{first_set, first_packets, IsForward}
use Rattle.nk_witness.proofs.least.go_forward.Given as goal

abbrev pub invariant-loop-i : goal.invariant-loop-i
invariant-loop-i g l = record {
  grows : Grows l.fn.st l.st;
  sets : SetsGrow l.fn.ss l.ss;
  fits : g.G.Goal.fits l.g l.st;
  backs : AreBacks l.fn.st l.st l.fn.ss l.ss l.states (g.G.Goal.violations_of l.fn.g l.fn.st) l.l.levels (length l.l.levels - 1) (length l.l.levels) l.backs;
  forward : IsForward l.fn.st l.st l.ss l.states (first_packets l.l.levels) (g.G.Goal.violations_of l.fn.g l.fn.st) (length l.l.levels - 1) l.i (get_or l.backs (length l.l.levels - 1 - l.i) []) (get_or l.fn.ss (first_set l.l.levels) []) l.start l.records l.s l.x;
}
