use Rattle.std.proofs.Common.{[], ◌∷◌}
use Rattle.nk_runs.proofs.Walking.{walk_in_range, walks_met, walk_places}
use Rattle.nk_runs.proofs.laws.walks_are_runs.Goals as goal

pub returns-clause-runs : goal.returns-clause-runs
returns-clause-runs c = λ st states p a d tidy pk u n r. walks_met st states p a d tidy pk u n r

pub returns-clause-places : goal.returns-clause-places
returns-clause-places c = λ st states p a d tidy pk u n r w. (
  walk_in_range st states u (0 ∷ [], pk) n r w,
  walk_places st states p a d tidy pk u n ((walks_met st states p a d tidy pk u n r).0 w),
)
