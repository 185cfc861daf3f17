use Rattle.std.proofs.Common.{◌≡◌, ◌-◌, ◌++◌, replicate, take}
use Rattle.nk_store.proofs.node_table.maxima.Given as goal

abbrev pub invariant-loop-place : goal.invariant-loop-place
invariant-loop-place l = l.all ≡ take l.place l.fields.maxima ++ replicate (18 - l.place) 0
