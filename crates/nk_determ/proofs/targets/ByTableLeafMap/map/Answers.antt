use Rattle.std.proofs.lemmas.Result.{IfOk-weaker}
use Rattle.nk_store.specs.Leaves.{Suits}
use Rattle.nk_apply.proofs.Gathers.{every_unordered}
use Rattle.nk_determ.specs.Targets.{retargeted}
use Rattle.nk_determ.proofs.Tables.{retargeted_ordered, retargeted_suits}
use Rattle.nk_determ.proofs.targets.ByTableLeafMap.map.Goals as goal

pub returns-clause-is : goal.returns-clause-is
returns-clause-is c = IfOk-weaker c.outs_by_table.result _ _ (λ r e. retargeted_ordered c.args.self.now.table.now c.args.outs.now r e) c.outs_by_table.ensures

pub returns-clause-suits : goal.returns-clause-suits
returns-clause-suits c = IfOk-weaker c.outs_by_table.result _ _
    (λ r e. λ maxes u x. every_unordered (Suits maxes) r (retargeted c.args.self.now.table.now c.args.outs.now) (retargeted_ordered c.args.self.now.table.now c.args.outs.now r e) (retargeted_suits maxes c.args.self.now.table.now c.args.outs.now x)) c.outs_by_table.ensures
