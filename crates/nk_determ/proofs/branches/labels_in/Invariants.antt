use Rattle.std.proofs.Common.{◌≡◌, ◌++◌, drop}
use Rattle.nk_determ.specs.Branches.{labels, targets_in}
use Rattle.nk_determ.proofs.branches.labels_in.Given as goal

abbrev pub invariant-loop-o : goal.invariant-loop-o
invariant-loop-o l = l.all ++ labels (targets_in (drop l.o-index l.outs)) ≡ labels (targets_in l.outs)
