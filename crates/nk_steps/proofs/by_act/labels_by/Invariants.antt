use Rattle.std.proofs.Common.{◌≡◌, take}
use Rattle.nk_apply.specs.Unions.{outs_in_turn}
use Rattle.nk_determ.specs.Branches.{labels_of}
use Rattle.nk_steps.proofs.by_act.labels_by.Given as goal

-- the labels of the leaves so far
abbrev pub invariant-loop-d : goal.invariant-loop-d
invariant-loop-d l = l.all ≡ labels_of l.act (outs_in_turn l.st (take l.d-index l.diagrams))
