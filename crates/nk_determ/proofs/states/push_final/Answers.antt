use Rattle.std.proofs.Common.{◌∙◌, sym}
use Rattle.nk_determ.proofs.InPlace.{final_put, final_left}
use Rattle.nk_determ.proofs.states.push_final.Goals as goal

pub returns-in_ok-push : goal.returns-in_ok-push
returns-in_ok-push c =
    final_put c.args.run.now c.args.all.now c.push.new.self c.index-run-0.result c.in_ok-copy.field-0 c.requires c.in_ok-copy.ensures c.in_ok-push.ensures.ok (sym c.is_ended.ensures ∙ c.if-is_ended.true)

pub returns-else-is_ended : goal.returns-else-is_ended
returns-else-is_ended c = final_left c.args.run.now c.args.all.now (sym c.is_ended.ensures ∙ c.if-is_ended.false)
