use Rattle.std.proofs.Common.{◌≡◌, take}
use Rattle.std.specs.List.{flat_map}
use Rattle.nk_steps.specs.Single.{step_to}
use Rattle.nk_steps.proofs.single.steps_to.Given as goal

-- the steps among the outs so far
abbrev pub invariant-loop-o : goal.invariant-loop-o
invariant-loop-o l = l.all ≡ flat_map (step_to l.target) (take l.o-index l.outs)
