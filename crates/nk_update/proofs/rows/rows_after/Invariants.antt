use Rattle.std.proofs.Common.{◌≡◌, ◌++◌, take}
use Rattle.std.specs.Prelude.{filter, map}
use Rattle.nk_update.specs.Plans as plans
use Rattle.nk_update.proofs.rows.rows_after.Given as goal

-- the rows so far
abbrev pub invariant-loop-row : goal.invariant-loop-row
invariant-loop-row l = l.rows ≡ filter (plans.old_stands l.digits l.f l.steps) l.olds ++ map (plans.plan_row_on l.n) (filter (plans.new_stands l.digits l.f l.steps) (take l.row-index l.news))
