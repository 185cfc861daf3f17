use Rattle.std.proofs.lemmas.Result.{IfOk-weaker}
use Rattle.nk_store.specs.Leaves.{Suits}
use Rattle.nk_apply.specs.Leaves.{aimed}
use Rattle.nk_apply.proofs.Members.{aimed_suits}
use Rattle.nk_apply.proofs.Gathers.{aimed_ordered, every_unordered}
use Rattle.nk_algebra.proofs.aims.ToTargetLeafMap.map.Goals as goal

pub returns-clause-is : goal.returns-clause-is
returns-clause-is c = IfOk-weaker c.outs_to.result _ _ (λ r e. aimed_ordered c.args.self.now.target c.args.outs.now r e) c.outs_to.ensures

pub returns-clause-suits : goal.returns-clause-suits
returns-clause-suits c = IfOk-weaker c.outs_to.result _ _
    (λ r e. λ maxes u x. every_unordered (Suits maxes) r (aimed c.args.self.now.target c.args.outs.now) (aimed_ordered c.args.self.now.target c.args.outs.now r e) (aimed_suits maxes c.args.self.now.target c.args.outs.now x)) c.outs_to.ensures
