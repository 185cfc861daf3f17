use Rattle.std.proofs.Common.{◌∙◌, arith}
use Rattle.nk_gen.specs.Network.{with_chord, chords_by}
use Rattle.nk_gen.proofs.Steps.{fold_more}
use Rattle.nk_gen.proofs.network.chords.Goals as goal

pub loop-i-preserved : goal.loop-i-preserved
loop-i-preserved c = record {
  left = fold_more (with_chord c.args.size) c.loop-i.chords.items c.add_chord.new.chords.items (chords_by c.args.size c.args.draws.now) c.args.draws.now c.loop-i.i
      (omega arith) c.in_ok-add_chord.ensures.chords c.loop-i.invariant.left;
  flags = c.in_ok-add_chord.ensures.flags;
  room = c.in_ok-add_chord.ensures.room ∙ c.loop-i.invariant.room;
}
