use Rattle.std.proofs.Common.{◌≡◌, ◌∙◌, ℕ, get_or, sym, subst}
use Rattle.std.proofs.lemmas.List.{get_or_default}
use Rattle.nk_store.specs.StoreState.{IsId}
use Rattle.nk_store.proofs.Stores.{grows_on}
use Rattle.nk_compact.proofs.MetSets.{each_at, level_more}
use Rattle.nk_compact.proofs.met.put_level.Goals as goal

-- the entry that is put in
entry : (c : goal.In_ok-put_entry) → c.loop-s-item.result ≡ get_or c.args.level.now c.loop-s.s-index (0, 0)
entry c = c.loop-s-item.is ∙ get_or_default c.args.level.now c.loop-s.s-index c.loop-s-item.result (0, 0) c.loop-s-test.true

pub loop-s-preserved : goal.loop-s-preserved
loop-s-preserved c = record {
  grows = grows_on _ _ _ c.loop-s.invariant.grows c.put_entry.ensures.grows;
  len = c.in_ok-put_entry.ensures.len ∙ c.loop-s.invariant.len;
  ids = c.in_ok-put_entry.ensures.ids;
  under = λ base before first have k.
      level_more base c.args.st.now c.loop-s.st c.put_entry.new.st before c.args.level.now c.loop-s.s-index _ _ c.args.all.now c.loop-s.all c.put_entry.new.all c.loop-s-test.true (entry c)
      (c.in_ok-put_entry.ensures.under base _ (grows_on _ _ _ first c.loop-s.invariant.grows)
      (subst (λ (e : ℕ × ℕ). IsId base e.1) (sym (entry c)) (each_at (λ e. IsId base e.1) c.args.level.now c.loop-s.s-index (0, 0) have c.loop-s-test.true))
      (c.loop-s.invariant.under base before first have k));
}
