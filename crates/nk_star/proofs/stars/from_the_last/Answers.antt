use Rattle.std.proofs.Common.{◌-◌, ◌+◌, ◌<◌, ◌≡◌, ◌∙◌, length, arith, subst, get_or}
use Rattle.std.proofs.lemmas.List.{get_or_default}
use Rattle.nk_store.specs.StoreState.{HasLeaves, look}
use Rattle.nk_store.proofs.Stores.{grows_on}
use Rattle.nk_apply.specs.Leaves.{merged}
use Rattle.nk_apply.specs.Unions.{unions}
use Rattle.nk_star.proofs.Blocks.{one_before}
use Rattle.nk_star.proofs.stars.from_the_last.Goals as goal

pub loop-k-preserved : goal.loop-k-preserved
loop-k-preserved c =
    let some = c.loop-k-test.true in
    let within = c.loop-k.invariant.within in
    let next : c.loop-k.k ≡ (c.loop-k.k - 1) + 1 = omega (arith, some) in
    let l : c.loop-k.k - 1 < length c.args.ds.now = omega (arith, some, within) in
    let e : c.index-ds-k.result ≡ get_or c.args.ds.now (c.loop-k.k - 1) 0 = c.index-ds-k.is ∙ get_or_default c.args.ds.now (c.loop-k.k - 1) c.index-ds-k.result 0 l in
    record {
      grows = grows_on _ _ _ c.loop-k.invariant.grows c.union.ensures.grows;
      within = omega (arith, within);
      made = one_before c.args.st.now c.loop-k.st c.union.new.st c.args.ds.now c.args.d c.index-ds-k.result c.loop-k.all c.in_ok-more.more (c.loop-k.k - 1)
          c.loop-k.invariant.grows c.laws.ensures.tidy c.requires.ids l e
          (subst (λ k. HasLeaves c.loop-k.st c.loop-k.all (λ pk. merged (unions c.args.st.now c.args.ds.now k (length c.args.ds.now - k) pk) (look c.args.st.now c.args.d pk))) next c.loop-k.invariant.made)
          c.in_ok-more.ensures.ok;
    }
