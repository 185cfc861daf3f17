use Rattle.std.proofs.Common.{◌∙◌, ◌∷◌, [], ap, length, length-append, arith}
use Rattle.nk_store.proofs.Stores.{grows_on}
use Rattle.nk_compile.proofs.EndsOfStates.{ends_more}
use Rattle.nk_compile.proofs.wrong_ends.ends_of.Goals as goal

pub loop-state-preserved : goal.loop-state-preserved
loop-state-preserved c = record {
  grows = grows_on c.args.st.now c.loop-state.st c.end_once.new.st c.loop-state.invariant.grows c.end_once.ensures.grows;
  seen = c.in_ok-d.ensures.seen;
  len = let e = ap length c.in_ok-push.ensures.ok ∙ length-append c.loop-state.ends (c.in_ok-d.d ∷ []) in omega (arith, e, c.loop-state.invariant.len);
  ends = ends_more c.loop-state.st c.end_once.new.st c.args.set c.loop-state.state-index c.in_ok-d.d c.state-item.result c.args.states.now c.loop-state.ends c.push.new.self
      c.end_once.ensures.grows (c.loop-state.invariant.grows.ids c.args.set c.requires.set.id) c.loop-state.invariant.len c.in_ok-push.ensures.ok c.loop-state-test.true
      c.state-item.is c.in_ok-d.ensures.end c.loop-state.invariant.ends;
}
