use Rattle.std.proofs.Common.{subst, sym}
use Rattle.std.proofs.lemmas.Result.{IfOk-weaker}
use Rattle.nk_store.specs.Leaves.{Strict, Every, Suits}
use Rattle.nk_apply.proofs.Sorted.{merged_strict, merged_every}
use Rattle.nk_apply.proofs.leaves.TogetherJoin.join.Goals as goal

pub returns-clause-sorted : goal.returns-clause-sorted
returns-clause-sorted c = IfOk-weaker c.join_sorted.result _ _ (λ r e. subst Strict (sym e) (merged_strict c.args.a.now c.args.b.now c.requires.left c.requires.right)) c.join_sorted.ensures

pub returns-clause-suits : goal.returns-clause-suits
returns-clause-suits c = IfOk-weaker c.join_sorted.result _ _ (λ r e. λ maxes x y. subst (Every (Suits maxes)) (sym e) (merged_every (Suits maxes) c.args.a.now c.args.b.now x y)) c.join_sorted.ensures
