use Rattle.std.proofs.Common.{◌≤◌, sym, subst, take, get_or}
use Rattle.std.specs.Prelude.{◌&&◌}
use Rattle.nk_store.specs.Leaves.{IsActFrom}
use Rattle.nk_store.proofs.Stores.{grows_on}
use Rattle.nk_sets.specs.PacketSets.{is_in, IsPacketSetOf}
use Rattle.nk_sets.specs.Images.{are_assigned}
use Rattle.nk_sets.proofs.Imaging.{taken_more, assigned_push, act_value}
use Rattle.nk_sets.proofs.images.assigned.Goals as goal

pub test-requires-clause-within : goal.test-requires-clause-within
test-requires-clause-within c =
    subst (λ ms. c.loop-f-item.result.1 ≤ get_or ms c.loop-f-item.result.0 0) (sym c.loop-f.invariant.grows.maxes)
    (act_value c.args.st.now.maxes 0 c.as_slice-f-items.result.now c.loop-f.f-index c.loop-f-item.result (subst (IsActFrom c.args.st.now.maxes 0) (sym c.as_slice-f-items.ensures) c.requires.act) c.loop-f-test.true c.loop-f-item.is)

pub loop-f-preserved : goal.loop-f-preserved
loop-f-preserved c = record {
  grows = grows_on _ _ _ c.loop-f.invariant.grows (grows_on _ _ _ c.test.ensures.grows c.both.ensures.grows);
  kept =
      subst (λ g. IsPacketSetOf c.both.new.st c.in_ok-kept.kept (λ pk. are_assigned c.args.st.now.maxes g pk && is_in c.args.st.now c.args.s pk)) (sym (taken_more c.as_slice-f-items.result.now c.loop-f.f-index c.loop-f-item.result c.loop-f-test.true c.loop-f-item.is))
      (assigned_push c.args.st.now c.loop-f.st c.test.new.st c.both.new.st (take c.loop-f.f-index c.as_slice-f-items.result.now) c.args.s c.loop-f.kept c.in_ok-has.has c.in_ok-kept.kept c.loop-f-item.result c.loop-f.invariant.grows c.test.ensures.grows c.loop-f.invariant.kept c.in_ok-has.ensures.ok c.in_ok-kept.ensures.ok c.in_ok-kept.ensures.predicate);
}
