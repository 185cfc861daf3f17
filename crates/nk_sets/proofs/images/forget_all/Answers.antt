use Rattle.std.proofs.Common.{sym, subst, take, arith}
use Rattle.nk_store.proofs.Stores.{grows_on}
use Rattle.nk_sets.specs.Images.{IsFree}
use Rattle.nk_sets.proofs.Imaging.{taken_more, free_push}
use Rattle.nk_sets.proofs.images.forget_all.Goals as goal

pub loop-f-preserved : goal.loop-f-preserved
loop-f-preserved c = record {
  grows = grows_on _ _ _ c.loop-f.invariant.grows c.forget.ensures.grows;
  free =
      subst (λ g. IsFree c.args.st.now g c.args.s c.forget.new.st c.in_ok-free.free) (sym (taken_more c.as_slice-f-items.result.now c.loop-f.f-index c.loop-f-item.result c.loop-f-test.true c.loop-f-item.is))
      (free_push c.args.st.now c.loop-f.st c.forget.new.st (take c.loop-f.f-index c.as_slice-f-items.result.now) c.args.s c.loop-f.free c.in_ok-free.free c.loop-f-item.result c.loop-f.invariant.grows c.forget.ensures.grows (omega (arith, c.place-place.ensures.is, c.place-place.ensures.below)) c.loop-f.invariant.free c.in_ok-free.ensures.ok);
}
