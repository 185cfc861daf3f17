use Rattle.nk_apply.specs.Unions.{outs_in_turn}
use Rattle.nk_determ.proofs.Interned.{sets_same}
use Rattle.nk_steps.proofs.ByActs.{target_is, met_in_order}
use Rattle.nk_steps.proofs.by_act.target_of.Goals as goal

pub returns-clause-is : goal.returns-clause-is
returns-clause-is c =
    let all = outs_in_turn c.args.st.now c.args.diagrams.now in
    target_is c.put.new.self all c.args.act.now c.in_ok-labels.labels c.in_ok-s.s c.target.result
    (met_in_order all c.args.act.now c.in_ok-found.found c.in_order.result c.in_ok-labels.labels c.in_ok-found.ensures c.in_order.ensures.members c.in_ok-labels.ensures)
    c.requires.some (c.in_ok-s.ensures.is c.put.new.self (sets_same c.put.new.self)) c.in_ok-s.ensures.there c.target.ensures
