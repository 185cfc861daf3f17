use Rattle.std.proofs.Common.{subst, sym}
use Rattle.std.proofs.lemmas.Result.{IfOk-weaker}
use Rattle.nk_store.specs.Leaves.{Strict, Every, Suits}
use Rattle.nk_star.proofs.Lacks.{lacking_strict, lacking_every}
use Rattle.nk_star.proofs.differences.DifferenceJoin.join.Goals as goal

pub returns-clause-sorted : goal.returns-clause-sorted
returns-clause-sorted c = IfOk-weaker c.missing_outs.result _ _ (λ r e. subst Strict (sym e) (lacking_strict c.args.a.now c.args.b.now c.requires.left)) c.missing_outs.ensures

pub returns-clause-suits : goal.returns-clause-suits
returns-clause-suits c = IfOk-weaker c.missing_outs.result _ _ (λ r e. λ maxes x y. subst (Every (Suits maxes)) (sym e) (lacking_every (Suits maxes) c.args.a.now c.args.b.now x)) c.missing_outs.ensures
