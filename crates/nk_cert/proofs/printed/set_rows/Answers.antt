use Rattle.std.proofs.Common.{◌∷◌, [], take, ◌++◌, get_or, sym, subst, ap, ◌∙◌}
use Rattle.std.proofs.lemmas.List.{take_all, take_more, map-append}
use Rattle.nk_cert.specs.FromLevels.{HaveRows}
use Rattle.nk_cert.specs.Values.{held_row_value, row_values}
use Rattle.nk_cert.specs.Later.{IsRowBy}
use Rattle.nk_cert.proofs.Making.{rows_more}
use Rattle.nk_cert.proofs.printed.set_rows.Goals as goal

pub loop-set-preserved : goal.loop-set-preserved
loop-set-preserved c =
    let P = IsRowBy c.args.st.now c.args.ss.now c.args.visited.now c.args.none in
    let set = get_or c.args.sets.now c.loop-set.set-index c.set-item.result in
    let row = subst (λ s. P s (held_row_value c.in_ok-row.row)) c.set-item.is c.in_ok-row.ensures in
    subst (λ l. HaveRows P l (row_values c.push.new.self)) (sym (take_more c.args.sets.now c.loop-set.set-index c.set-item.result c.loop-set-test.true))
    (subst (λ rs. HaveRows P (take c.loop-set.set-index c.args.sets.now ++ set ∷ []) rs) (sym (ap row_values c.in_ok-push.ensures.ok ∙ map-append held_row_value c.loop-set.rows (c.in_ok-row.row ∷ [])))
    (rows_more P (take c.loop-set.set-index c.args.sets.now) (row_values c.loop-set.rows) set (held_row_value c.in_ok-row.row) c.loop-set.invariant row))

pub returns : goal.returns
returns c =
    subst (λ l. HaveRows (IsRowBy c.args.st.now c.args.ss.now c.args.visited.now c.args.none) l (row_values c.loop-set.rows))
    (take_all c.loop-set.set-index c.args.sets.now c.loop-set-test.false) c.loop-set.invariant
