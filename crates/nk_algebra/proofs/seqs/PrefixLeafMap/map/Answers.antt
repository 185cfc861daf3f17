use Rattle.std.proofs.lemmas.Result.{IfOk-weaker}
use Rattle.nk_store.specs.Leaves.{Suits}
use Rattle.nk_apply.specs.Seqs.{prefixed}
use Rattle.nk_algebra.proofs.Acts.{prefixed_suits}
use Rattle.nk_apply.proofs.Gathers.{prefixed_ordered, every_unordered}
use Rattle.nk_algebra.proofs.seqs.PrefixLeafMap.map.Goals as goal

pub returns-clause-is : goal.returns-clause-is
returns-clause-is c = IfOk-weaker c.outs_after.result _ _ (λ r e. prefixed_ordered c.args.self.now.act.now c.args.outs.now r e) c.outs_after.ensures

pub returns-clause-suits : goal.returns-clause-suits
returns-clause-suits c = IfOk-weaker c.outs_after.result _ _
    (λ r e. λ maxes u x. every_unordered (Suits maxes) r (prefixed c.args.self.now.act.now c.args.outs.now) (prefixed_ordered c.args.self.now.act.now c.args.outs.now r e) (prefixed_suits maxes c.args.self.now.act.now c.args.outs.now u x)) c.outs_after.ensures
