use Rattle.std.proofs.Common.{arith, sym, append-nil, []}
use Rattle.nk_store.proofs.Stores.{grows_same, grows_on}
use Rattle.nk_group.proofs.Growing.{sets_grow_on}
use Rattle.nk_compact.proofs.Distinguishing.{base_on, base_here, alike_then, told_more, row_start}
use Rattle.nk_compact.proofs.histories.distinguish_from_later.Goals as goal

pub loop-j-init : goal.loop-j-init
loop-j-init c = record {
  following = omega arith;
  grows = grows_same c.args.st.now;
  sets = ([], sym (append-nil c.args.ss.now));
  disjoint = c.requires.disjoint;
  told = λ base first pairs b k. row_start base c.args.states.now first c.args.tags.now c.args.firsts.now c.args.i pairs c.args.all.now k;
}

pub distinguishing_history-requires-clause-base : goal.distinguishing_history-requires-clause-base
distinguishing_history-requires-clause-base c =
    base_here c.args.st.now c.args.ss.now c.loop-j.st c.loop-j.ss c.args.states.now c.args.tags.now c.args.firsts.now
    (base_on c.args.st.now c.args.ss.now c.args.st.now c.args.ss.now c.args.states.now c.args.tags.now c.args.firsts.now c.requires.base c.loop-j.st c.loop-j.ss c.loop-j.invariant.grows c.loop-j.invariant.sets)

pub distinguishing_history-requires-clause-different : goal.distinguishing_history-requires-clause-different
distinguishing_history-requires-clause-different c = λ k.
    c.requires.different c.loop-j.j c.loop-j.invariant.following c.loop-j-test.true
    (alike_then c.args.st.now c.args.ss.now c.loop-j.st c.loop-j.ss c.args.states.now c.args.tags.now c.args.firsts.now
    (base_on c.args.st.now c.args.ss.now c.args.st.now c.args.ss.now c.args.states.now c.args.tags.now c.args.firsts.now c.requires.base c.loop-j.st c.loop-j.ss c.loop-j.invariant.grows c.loop-j.invariant.sets)
    c.args.i c.loop-j.j c.requires.within c.loop-j-test.true k)

pub loop-j-preserved : goal.loop-j-preserved
loop-j-preserved c = record {
  following = let lt = c.loop-j.invariant.following in omega (arith, lt);
  grows = grows_on _ _ _ c.loop-j.invariant.grows c.distinguishing_history.ensures.grows;
  sets = sets_grow_on c.args.ss.now c.loop-j.ss c.distinguishing_history.new.ss c.loop-j.invariant.sets c.distinguishing_history.ensures.sets;
  disjoint = c.in_ok-a.ensures.disjoint;
  told = λ base first pairs b k.
      told_more base first c.loop-j.st c.loop-j.ss c.args.states.now c.args.tags.now c.args.firsts.now
      (base_on base first c.args.st.now c.args.ss.now c.args.states.now c.args.tags.now c.args.firsts.now b c.loop-j.st c.loop-j.ss c.loop-j.invariant.grows c.loop-j.invariant.sets)
      c.args.i c.loop-j.j c.loop-j.invariant.following c.loop-j-test.true pairs c.loop-j.all c.push.new.self c.in_ok-a.a c.in_ok-a.ensures.told c.in_ok-push.ensures.ok (c.loop-j.invariant.told base first pairs b k);
}
