use Rattle.std.proofs.Common.{◌≡◌, ◌+◌, ◌∙◌, sym, subst, ap, length, get_or}
use Rattle.std.proofs.lemmas.List.{get_or_default}
use Rattle.nk_store.specs.StoreState.{IsId}
use Rattle.nk_store.proofs.Stores.{grows_on}
use Rattle.nk_determ.proofs.Together.{length_more, each_more, split_each, split_before}
use Rattle.nk_determ.proofs.states.split_all.Goals as goal

pub split-requires : goal.split-requires
split-requires c =
    let i = c.loop-whole.whole-index in
    let is : c.whole-item.result ≡ get_or c.args.diagrams.now i 0 = c.whole-item.is ∙ get_or_default c.args.diagrams.now i c.whole-item.result 0 c.loop-whole-test.true in
    c.loop-whole.invariant.grows.ids c.whole-item.result (subst (IsId c.args.st.now) (sym is) (c.requires i c.loop-whole-test.true))

pub loop-whole-preserved : goal.loop-whole-preserved
loop-whole-preserved c =
    let i = c.loop-whole.whole-index in
    let is : c.whole-item.result ≡ get_or c.args.diagrams.now i 0 = c.whole-item.is ∙ get_or_default c.args.diagrams.now i c.whole-item.result 0 c.loop-whole-test.true in
    record {
      grows = grows_on _ _ _ c.loop-whole.invariant.grows c.split.ensures.grows;
      len = ap (λ xs. length xs) c.in_ok-push.ensures.ok ∙ length_more c.loop-whole.ds c.in_ok-d.d ∙ ap (λ n. n + 1) c.loop-whole.invariant.len;
      split =
          each_more c.loop-whole.st c.split.new.st c.loop-whole.ds c.push.new.self i c.in_ok-d.d (split_each c.args.st.now c.args.diagrams.now) c.split.ensures.grows c.loop-whole.invariant.len c.in_ok-push.ensures.ok c.loop-whole.invariant.split
          (split_before c.args.st.now c.loop-whole.st c.split.new.st c.args.diagrams.now i c.whole-item.result c.in_ok-d.d c.loop-whole.invariant.grows (subst (IsId c.args.st.now) (sym is) (c.requires i c.loop-whole-test.true)) is c.in_ok-d.ensures.ok);
    }
