use Rattle.std.proofs.Common.{length}
use Rattle.nk_store.proofs.Stores.{grows_on}
use Rattle.nk_group.proofs.Growing.{sets_grow_on}
use Rattle.nk_compact.specs.Told.{first_pairs}
use Rattle.nk_compact.proofs.Distinguishing.{base_on, base_here, alike_then, rows_more}
use Rattle.nk_compact.proofs.histories.distinguishing_histories.Goals as goal

pub distinguish_from_later-requires-clause-base : goal.distinguish_from_later-requires-clause-base
distinguish_from_later-requires-clause-base c =
    base_here c.args.st.now c.args.ss.now c.loop-i.st c.loop-i.ss c.args.states.now c.args.tags.now c.args.firsts.now
    (base_on c.args.st.now c.args.ss.now c.args.st.now c.args.ss.now c.args.states.now c.args.tags.now c.args.firsts.now c.requires.base c.loop-i.st c.loop-i.ss c.loop-i.invariant.grows c.loop-i.invariant.sets)

pub distinguish_from_later-requires-clause-different : goal.distinguish_from_later-requires-clause-different
distinguish_from_later-requires-clause-different c = λ j following inside k.
    c.requires.different c.loop-i.i j following inside
    (alike_then c.args.st.now c.args.ss.now c.loop-i.st c.loop-i.ss c.args.states.now c.args.tags.now c.args.firsts.now
    (base_on c.args.st.now c.args.ss.now c.args.st.now c.args.ss.now c.args.states.now c.args.tags.now c.args.firsts.now c.requires.base c.loop-i.st c.loop-i.ss c.loop-i.invariant.grows c.loop-i.invariant.sets)
    c.loop-i.i j c.loop-i-test.true inside k)

pub loop-i-preserved : goal.loop-i-preserved
loop-i-preserved c = record {
  grows = grows_on _ _ _ c.loop-i.invariant.grows c.distinguish_from_later.ensures.grows;
  sets = sets_grow_on c.args.ss.now c.loop-i.ss c.distinguish_from_later.new.ss c.loop-i.invariant.sets c.distinguish_from_later.ensures.sets;
  disjoint = c.in_ok-distinguish_from_later.ensures.disjoint;
  told =
      rows_more c.args.st.now c.args.states.now c.args.ss.now c.args.tags.now c.args.firsts.now (length c.args.firsts.now) c.loop-i.i c.distinguish_from_later.new.all
      (c.in_ok-distinguish_from_later.ensures.told c.args.st.now c.args.ss.now (first_pairs (length c.args.firsts.now) c.loop-i.i)
      (base_on c.args.st.now c.args.ss.now c.args.st.now c.args.ss.now c.args.states.now c.args.tags.now c.args.firsts.now c.requires.base c.loop-i.st c.loop-i.ss c.loop-i.invariant.grows c.loop-i.invariant.sets)
      c.loop-i.invariant.told);
}
