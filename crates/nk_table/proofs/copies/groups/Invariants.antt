use Rattle.std.proofs.Common.{◌≡◌, take}
use Rattle.nk_table.proofs.copies.groups.Given as goal

-- the ones so far are copied
abbrev pub invariant-loop-group : goal.invariant-loop-group
invariant-loop-group l = l.copies ≡ take l.group-index l.all
