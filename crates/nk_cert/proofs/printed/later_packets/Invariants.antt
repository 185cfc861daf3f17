use Rattle.std.proofs.Common.{◌-◌}
use Rattle.nk_store.specs.StoreState.{Grows}
use Rattle.nk_cert.specs.Later.{AreLaterPackets}
use Rattle.nk_cert.proofs.printed.later_packets.Given as goal

-- the packets of the levels so far
abbrev pub invariant-loop-i : goal.invariant-loop-i
invariant-loop-i l = record {
  grows : Grows l.fn.st l.st;
  later : AreLaterPackets l.fn.st l.lv.levels (l.i - 1) l.st l.visited;
}
