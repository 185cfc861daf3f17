use Rattle.std.proofs.Common.{◌≡◌, ◌<◌, ℕ, length}
use Rattle.std.specs.Prelude.{slice_index}
use Rattle.nk_compact.proofs.met.no_packets.Given as goal

-- so many times none
abbrev pub invariant-loop-i : goal.invariant-loop-i
invariant-loop-i l = record {
  len : length l.all ≡ l.i;
  each : (s : ℕ) → s < length l.all → slice_index l.all s ≡ l.none;
}
