use Rattle.std.proofs.Common.{◌∙◌, ◌+◌, ap, length}
use Rattle.nk_determ.proofs.Together.{length_more}
use Rattle.nk_group.proofs.Growing.{sets_grow_on}
use Rattle.nk_compact.proofs.MetSets.{following_more}
use Rattle.nk_compact.proofs.met.sets_after.Goals as goal

pub loop-s-preserved : goal.loop-s-preserved
loop-s-preserved c = record {
  sets = sets_grow_on c.args.ss.now c.loop-s.ss c.set_after.new.ss c.loop-s.invariant.sets c.set_after.ensures.sets;
  len = ap (λ xs. length xs) c.in_ok-push.ensures.ok ∙ length_more c.loop-s.all c.in_ok-b.b ∙ ap (λ n. n + 1) c.loop-s.invariant.len;
  following =
      following_more c.args.ss.now c.loop-s.ss c.set_after.new.ss c.args.tags.now c.loop-s.s-index c.s-item.result c.in_ok-b.b c.loop-s.all c.push.new.self c.loop-s.invariant.sets c.set_after.ensures.sets
      c.requires.known c.loop-s-test.true c.s-item.is c.in_ok-b.ensures.following c.loop-s.invariant.len c.in_ok-push.ensures.ok c.loop-s.invariant.following;
}
