use Rattle.std.proofs.Common.{◌≡◌, drop}
use Rattle.nk_table.specs.Rules.{buckets_in}
use Rattle.nk_sim.proofs.sending.buckets_at.Given as goal

-- the group is among those that are left
abbrev pub invariant-loop-group : goal.invariant-loop-group
invariant-loop-group l = buckets_in (drop l.group-index l.groups) l.number ≡ buckets_in l.groups l.number
