use Rattle.std.proofs.Common.{sym, ◌∙◌}
use Rattle.nk_store.proofs.Stores.{grows_same}
use Rattle.nk_backward.proofs.Widening.{widened_empty, widened_put}
use Rattle.nk_backward.proofs.sweeps.put.Goals as goal

pub returns-then-is_empty-clause-ok : goal.returns-then-is_empty-clause-ok
returns-then-is_empty-clause-ok c = widened_empty c.args.st.now c.args.s c.args.y c.args.back.now (grows_same c.args.st.now) c.requires.back c.requires.once (c.is_empty.ensures.yes c.if-is_empty.true)

pub returns-clause-ok : goal.returns-clause-ok
returns-clause-ok c =
    widened_put c.args.st.now c.add.new.st c.args.s c.args.y c.args.back.now c.add.new.self c.is_same.result c.add.ensures.grows c.requires.back c.in_ok-add.ensures.ok
    (λ e. let x = c.is_same.ensures e in (x.0, sym c.packets_of_set-before.ensures ∙ x.1, sym c.packets_of_set-after.ensures ∙ x.2))
