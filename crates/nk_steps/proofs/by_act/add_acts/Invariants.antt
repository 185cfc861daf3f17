use Rattle.std.proofs.Common.{List, ◌++◌, take}
use Rattle.nk_store.specs.declared.node.Out.{Out}
use Rattle.nk_steps.specs.ByAct.{AreActsOf}
use Rattle.nk_steps.proofs.by_act.add_acts.Given as goal

-- the acts of the outs so far are there
abbrev pub invariant-loop-o : goal.invariant-loop-o
invariant-loop-o l = (before : List Out) → AreActsOf before l.fn.acts → AreActsOf (before ++ take l.o-index l.outs) l.acts
