use Rattle.std.proofs.Common.{sym, ap, ◌∙◌}
use Rattle.std.proofs.lemmas.List.{drop_all}
use Rattle.nk_policy.specs.Tree.{trees_of}
use Rattle.nk_policy.proofs.Trees.{joined, joined_none}
use Rattle.nk_virtual.specs.Endings.{all_without_records}
use Rattle.nk_virtual.proofs.Parts.{bare_more}
use Rattle.nk_virtual.proofs.ends.+leave_out.Goals as goal

pub all_bare-loop-q-preserved : goal.all_bare-loop-q-preserved
all_bare-loop-q-preserved t c =
    bare_more c.args.ps.now _ c.q-item.result _ c.loop-q.out.items _ _ c.loop-q-test.true c.q-item.is c.in_ok-push.ensures.items c.in_ok-without_records.ensures c.loop-q.invariant

pub all_bare-returns : goal.all_bare-returns
all_bare-returns t c =
    sym (joined_none (trees_of c.loop-q.out.items))
    ∙ ap (λ l. joined (trees_of c.loop-q.out.items) (all_without_records (trees_of l))) (sym (drop_all c.loop-q.q-index c.args.ps.now c.loop-q-test.false))
    ∙ c.loop-q.invariant
