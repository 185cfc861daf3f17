use Rattle.std.proofs.Common.{sym, ap, ◌∙◌}
use Rattle.std.proofs.lemmas.List.{drop_all}
use Rattle.nk_policy.proofs.Trees.{joined, joined_none}
use Rattle.nk_names.specs.Body.{policies_in}
use Rattle.nk_names.proofs.Building.{meant, built_more}
use Rattle.nk_names.proofs.build.+build.Goals as goal

pub all_built-loop-q-preserved : goal.all_built-loop-q-preserved
all_built-loop-q-preserved t c =
    built_more c.args.fields.now c.args.lets.now.entries.items c.args.parts.now _ c.q-item.result _ c.loop-q.out.items _ _ c.loop-q-test.true c.q-item.is c.in_ok-push.ensures.items c.in_ok-part_built.ensures c.loop-q.invariant

pub all_built-returns : goal.all_built-returns
all_built-returns t c =
    sym (joined_none (policies_in c.loop-q.out.items))
    ∙ ap (λ l. joined (policies_in c.loop-q.out.items) (meant c.args.fields.now c.args.lets.now.entries.items l)) (sym (drop_all c.loop-q.q-index c.args.parts.now c.loop-q-test.false))
    ∙ c.loop-q.invariant
