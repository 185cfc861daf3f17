use Rattle.std.proofs.Common.{◌≡◌, ◌<◌, ◌∙◌, ◌++◌, List, ℕ, length, get_or, take, ap, sym, subst}
use Rattle.nk_store.proofs.Stores.{grows_on}
use Rattle.nk_compact.specs.MetPackets.{HaveIds, AreUnder, entries_of}
use Rattle.nk_compact.proofs.MetSets.{levels_more}
use Rattle.nk_compact.proofs.met.packets_by_set.Goals as goal

pub loop-level-preserved : goal.loop-level-preserved
loop-level-preserved c =
    let items = c.as_slice-level-items.result.now in
    let i = c.loop-level.level-index in
    let less : i < length c.args.lv.now.levels = subst (λ (l : List (List (ℕ × ℕ))). i < length l) c.as_slice-level-items.ensures c.loop-level-test.true in
    let same : c.as_slice.result.now ≡ get_or c.args.lv.now.levels i c.level-item.result =
    c.as_slice.ensures ∙ c.level-item.is ∙ ap (λ (l : List (List (ℕ × ℕ))). get_or l i c.level-item.result) c.as_slice-level-items.ensures in
    record {
      grows = grows_on _ _ _ c.loop-level.invariant.grows c.put_level.ensures.grows;
      len = c.in_ok-put_level.ensures.len ∙ c.loop-level.invariant.len;
      under =
          levels_more c.args.st.now c.put_level.new.st items i c.level-item.result c.put_level.new.all c.loop-level-test.true c.level-item.is
          (subst (λ l. AreUnder c.args.st.now c.put_level.new.st (entries_of (take i items) ++ l) c.put_level.new.all) c.as_slice.ensures
          (c.in_ok-put_level.ensures.under c.args.st.now (entries_of (take i items)) c.loop-level.invariant.grows
          (subst (HaveIds c.args.st.now) (sym same) (c.requires.ids i c.level-item.result less)) c.loop-level.invariant.under));
    }
