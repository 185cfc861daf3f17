use Rattle.std.proofs.Common.{arith}
use Rattle.std.proofs.lemmas.Grind.{common_steps}
use Rattle.nk_gen.specs.Draws.{draws}
use Rattle.nk_gen.proofs.Steps.{draws_more}
use Rattle.nk_gen.proofs.drawn.draws.Goals as goal

pub loop-drawn-preserved : goal.loop-drawn-preserved
loop-drawn-preserved c = record {
  left = draws_more c.loop-drawn.all.items c.push.new.self.items c.loop-drawn.draw c.next_draw-draw.result c.loop-drawn._drawn c.args.count
      (draws c.args.seed c.args.count) (omega arith) c.in_ok-push.ensures.items c.next_draw-draw.ensures.value c.loop-drawn.invariant.left;
  number = grind (arith, common_steps);
}
