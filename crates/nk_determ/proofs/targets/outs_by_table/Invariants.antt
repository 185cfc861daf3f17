use Rattle.std.proofs.Common.{◌≡◌, take}
use Rattle.std.specs.List.{flat_map}
use Rattle.nk_determ.specs.Targets.{out_by_table}
use Rattle.nk_determ.proofs.targets.outs_by_table.Given as goal

abbrev pub invariant-loop-o : goal.invariant-loop-o
invariant-loop-o l = l.all ≡ flat_map (out_by_table l.table) (take l.o-index l.outs)
