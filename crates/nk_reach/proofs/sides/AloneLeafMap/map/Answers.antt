use Rattle.std.proofs.lemmas.Result.{IfOk-weaker}
use Rattle.nk_store.specs.Leaves.{Suits}
use Rattle.nk_apply.proofs.Gathers.{every_unordered}
use Rattle.nk_reach.specs.Sides.{alone}
use Rattle.nk_reach.proofs.OneSided.{alone_ordered, alone_suits}
use Rattle.nk_reach.proofs.sides.AloneLeafMap.map.Goals as goal

pub returns-clause-is : goal.returns-clause-is
returns-clause-is c = IfOk-weaker c.alone_outs.result _ _ (λ r e. alone_ordered c.args.outs.now r e) c.alone_outs.ensures

pub returns-clause-suits : goal.returns-clause-suits
returns-clause-suits c = IfOk-weaker c.alone_outs.result _ _
    (λ r e. λ maxes u x. every_unordered (Suits maxes) r (alone c.args.outs.now) (alone_ordered c.args.outs.now r e) (alone_suits maxes c.args.outs.now x)) c.alone_outs.ensures
