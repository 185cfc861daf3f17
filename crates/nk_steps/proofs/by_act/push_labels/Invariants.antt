use Rattle.std.proofs.Common.{◌≡◌, ◌++◌, take}
use Rattle.nk_determ.specs.Branches.{labels_of}
use Rattle.nk_steps.proofs.by_act.push_labels.Given as goal

-- the labels of the outs so far
abbrev pub invariant-loop-o : goal.invariant-loop-o
invariant-loop-o l = l.all ≡ l.fn.all ++ labels_of l.act (take l.o-index l.outs)
