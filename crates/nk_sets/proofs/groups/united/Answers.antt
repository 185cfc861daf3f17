use Rattle.std.proofs.Common.{sym, subst}
use Rattle.nk_store.proofs.Stores.{grows_on}
use Rattle.nk_sets.specs.Outs.{AreUnited}
use Rattle.nk_sets.proofs.Grouping.{none_on, united_push}
use Rattle.nk_sets.proofs.groups.united.Goals as goal

pub loop-from-preserved : goal.loop-from-preserved
loop-from-preserved c = record {
  grows = grows_on _ _ _ c.loop-from.invariant.grows c.run_packets.ensures.grows;
  none = none_on c.loop-from.st c.run_packets.new.st c.in_ok-none.none c.run_packets.ensures.grows c.loop-from.invariant.none;
  within = c.in_ok-to.ensures.ok.within;
  made = subst (AreUnited c.args.st.now c.args.f c.args.ss.now c.in_ok-to.to c.run_packets.new.st) (sym c.in_ok-push.ensures.ok)
      (united_push c.args.st.now c.loop-from.st c.run_packets.new.st c.args.f c.args.ss.now c.loop-from.from c.in_ok-to.to c.loop-from.made c.in_ok-out.out c.in_ok-to.packets c.requires.stretches c.in_ok-out.ensures
      c.loop-from.invariant.grows c.run_packets.ensures.grows c.in_ok-to.ensures.ok c.loop-from.invariant.made);
}
