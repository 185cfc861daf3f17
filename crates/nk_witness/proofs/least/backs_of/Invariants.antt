use Rattle.std.proofs.Common.{◌≡◌, ◌+◌, ◌-◌, length}
use Rattle.nk_store.specs.StoreState.{Grows}
use Rattle.nk_determ.specs.Sets.{SetsGrow}
use Rattle.nk_witness.specs.Backs.{AreBacks}
use Rattle.nk_witness.proofs.least.backs_of.Given as goal

abbrev pub invariant-loop-k : goal.invariant-loop-k
invariant-loop-k g l = record {
  grows : Grows l.fn.st l.st;
  sets : SetsGrow l.fn.ss l.ss;
  fits : g.G.Goal.fits l.g l.st;
  count : length l.backs ≡ l.k + 1;
  backs : AreBacks l.fn.st l.st l.fn.ss l.ss l.states (g.G.Goal.violations_of l.fn.g l.fn.st) l.l.levels (length l.l.levels - 1) (l.k + 1) l.backs;
}
