use Rattle.std.proofs.Common.{◌≡◌, ◌+◌, drop, length}
use Rattle.std.specs.List.{enumerate_from, fold}
use Rattle.nk_gen.specs.Network.{with_chord, chords_by}
use Rattle.nk_gen.specs.Flags.{AreEnds}
use Rattle.nk_gen.proofs.network.chords.Given as goal

-- the chords of the switches that are left, after those so far, are all
abbrev pub invariant-loop-i : goal.invariant-loop-i
invariant-loop-i l = record {
  left : fold (with_chord l.size) l.chords.items (enumerate_from (l.i + 1) (drop l.i l.draws)) ≡ chords_by l.size l.draws;
  flags : AreEnds l.ends.items l.chords.items;
  room : length l.ends.items ≡ l.size + 1;
}
