use Rattle.std.proofs.Common.{◌+◌, ◌∙◌, sym, subst, ap, length, get_or}
use Rattle.nk_store.specs.StoreState.{IsId}
use Rattle.nk_store.proofs.Stores.{grows_on}
use Rattle.nk_determ.proofs.Together.{length_more, each_more}
use Rattle.nk_group.proofs.Cutting.{cut_each, cut_before}
use Rattle.nk_group.proofs.at_switch.cut_states.Goals as goal

pub restrict-requires-clause-id : goal.restrict-requires-clause-id
restrict-requires-clause-id c =
    let l = get_or c.args.members.now c.loop-l.l-index 0 in
    c.loop-l.invariant.grows.ids c.state_at.result (subst (IsId c.args.st.now) (sym c.state_at.ensures) (c.requires.states l (c.requires.places c.loop-l.l-index 0 c.loop-l-test.true)))

pub loop-l-preserved : goal.loop-l-preserved
loop-l-preserved c =
    let l = get_or c.args.members.now c.loop-l.l-index 0 in
    let id : IsId c.args.st.now c.state_at.result = subst (IsId c.args.st.now) (sym c.state_at.ensures) (c.requires.states l (c.requires.places c.loop-l.l-index 0 c.loop-l-test.true)) in
    record {
      grows = grows_on _ _ _ c.loop-l.invariant.grows c.restrict.ensures.grows;
      len = ap (λ xs. length xs) c.in_ok-push.ensures.ok ∙ length_more c.loop-l.ds c.in_ok-d.d ∙ ap (λ n. n + 1) c.loop-l.invariant.len;
      cut =
          each_more c.loop-l.st c.restrict.new.st c.loop-l.ds c.push.new.self c.loop-l.l-index c.in_ok-d.d (cut_each c.args.st.now c.args.states.now c.args.members.now c.args.sw)
          c.restrict.ensures.grows c.loop-l.invariant.len c.in_ok-push.ensures.ok c.loop-l.invariant.cut
          (cut_before c.args.st.now c.loop-l.st c.restrict.new.st c.args.states.now c.args.members.now c.loop-l.l-index c.state_at.result c.in_ok-d.d c.args.sw c.loop-l.invariant.grows id c.state_at.ensures c.in_ok-d.ensures.ok);
    }
