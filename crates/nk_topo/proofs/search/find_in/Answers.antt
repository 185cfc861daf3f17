use Rattle.std.proofs.Common.{arith, sym}
use Rattle.nk_topo.proofs.Places.{position_found, position_missed}
use Rattle.nk_topo.proofs.search.find_in.Goals as goal
use Rattle.nk_topo.proofs.search.find_in.Goals.{else-place-numbers-via-then-place-numbers+else-numbers-place, else-place-numbers-via-else-place-numbers}

pub returns-then-numbers-place-clause-place : goal.returns-then-numbers-place-clause-place
returns-then-numbers-place-clause-place c =
    sym (position_found c.args.numbers.now c.args.n c.place_in-place.result c.requires c.place_in-place.ensures.place (omega arith) (omega arith))

pub returns-else-place-numbers-clause-place : goal.returns-else-place-numbers-clause-place
returns-else-place-numbers-clause-place c =
    sym (position_missed c.args.numbers.now c.args.n c.place_in-place.result c.requires c.place_in-place.ensures.place
    (λ lt e. elim c.else-place-numbers.branch [
      | else-place-numbers-via-then-place-numbers+else-numbers-place w ↦ w.if-numbers-place.false e
      | else-place-numbers-via-else-place-numbers w ↦ omega arith
    ]))
