use Rattle.std.proofs.lemmas.Result.{IfOk-weaker}
use Rattle.nk_determ.proofs.Withouts.{without_ordered, without_suit}
use Rattle.nk_determ.proofs.changing.WithoutLeafMap.map.Goals as goal

pub returns-clause-is : goal.returns-clause-is
returns-clause-is c = IfOk-weaker c.outs_without.result _ _ (λ r e. without_ordered c.args.self.now.field c.args.self.now.value c.args.outs.now r e) c.outs_without.ensures

pub returns-clause-suits : goal.returns-clause-suits
returns-clause-suits c = IfOk-weaker c.outs_without.result _ _
    (λ r e. λ maxes u x. without_suit maxes c.args.self.now.field c.args.self.now.value c.args.outs.now r e x) c.outs_without.ensures
