use Rattle.std.proofs.Common.{sym, ap, ◌∙◌}
use Rattle.std.proofs.lemmas.List.{drop_all}
use Rattle.nk_policy.specs.Tree.{trees_of}
use Rattle.nk_policy.proofs.Trees.{joined, joined_none}
use Rattle.nk_policy.proofs.Steps.{copied_more}
use Rattle.nk_policy.proofs.rebuild.+copy.Goals as goal

pub all_copied-loop-q-preserved : goal.all_copied-loop-q-preserved
all_copied-loop-q-preserved t c =
    copied_more c.args.ps.now _ c.q-item.result _ c.loop-q.out.items _ _ c.loop-q-test.true c.q-item.is c.in_ok-push.ensures.items c.in_ok-copied.ensures c.loop-q.invariant

pub all_copied-returns : goal.all_copied-returns
all_copied-returns t c =
    sym (joined_none (trees_of c.loop-q.out.items))
    ∙ ap (λ l. joined (trees_of c.loop-q.out.items) (trees_of l)) (sym (drop_all c.loop-q.q-index c.args.ps.now c.loop-q-test.false))
    ∙ c.loop-q.invariant
