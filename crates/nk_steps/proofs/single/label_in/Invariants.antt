use Rattle.std.proofs.Common.{◌≡◌, drop}
use Rattle.nk_steps.specs.Single.{first_label}
use Rattle.nk_steps.proofs.single.label_in.Given as goal

-- the outs so far are finals
abbrev pub invariant-loop-o : goal.invariant-loop-o
invariant-loop-o l = first_label (drop l.o-index l.outs) ≡ first_label l.outs
