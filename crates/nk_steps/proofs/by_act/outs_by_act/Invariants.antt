use Rattle.nk_apply.specs.Unions.{outs_in_turn}
use Rattle.nk_determ.specs.Sets.{SetsGrow}
use Rattle.nk_steps.specs.ByAct.{AreOutsByAct}
use Rattle.nk_steps.proofs.by_act.outs_by_act.Given as goal

-- the outs of the acts so far
abbrev pub invariant-loop-act : goal.invariant-loop-act
invariant-loop-act l = record {
  sets : SetsGrow l.fn.ss l.ss;
  outs : AreOutsByAct l.ss (outs_in_turn l.st l.diagrams) l.yielded l.outs;
}
