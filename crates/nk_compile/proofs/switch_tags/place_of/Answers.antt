use Rattle.std.proofs.Common.{arith}
use Rattle.nk_compile.proofs.ComingSteps.{not_there}
use Rattle.nk_compile.proofs.switch_tags.place_of.Goals as goal
use Rattle.nk_compile.proofs.switch_tags.place_of.Goals.{else-place-numbers-via-then-place-numbers+else-numbers-place, else-place-numbers-via-else-place-numbers}

pub returns-else-place-numbers-clause-none : goal.returns-else-place-numbers-clause-none
returns-else-place-numbers-clause-none c = λ k lt at.
    not_there c.args.numbers.now c.args.n c.count_below-place.result c.requires c.count_below-place.ensures.place
    (λ less e. elim c.else-place-numbers.branch [
      | else-place-numbers-via-then-place-numbers+else-numbers-place w ↦ w.if-numbers-place.false e
      | else-place-numbers-via-else-place-numbers w ↦ omega arith
    ]) k lt at
