use Rattle.std.proofs.Common.{◌≡◌, drop}
use Rattle.nk_update.specs.Plans as plans
use Rattle.nk_update.proofs.rows.asked.Given as goal

-- none of those passed asks for a value of the field
abbrev pub invariant-loop-at : goal.invariant-loop-at
invariant-loop-at l = plans.asked_of l.digits l.f (drop l.at-index l.row.matches) ≡ plans.asked_of l.digits l.f l.row.matches
