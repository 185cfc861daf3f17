use Rattle.std.proofs.Common.{sym, subst}
use Rattle.std.proofs.lemmas.Result.{IfOk-weaker}
use Rattle.nk_store.specs.StoreState.{look}
use Rattle.nk_algebra.specs.Partition.{Keep}
use Rattle.nk_algebra.proofs.Splits.{partition_keep}
use Rattle.nk_algebra.proofs.partition.keeping.Goals as goal

pub returns-clause-keep : goal.returns-clause-keep
returns-clause-keep c = IfOk-weaker c.map_leaves.result _ _
    (λ d h. λ pk w. subst (Keep c.args.f) (sym (h.leaf pk w)) (partition_keep c.args.f (look c.args.st.now c.args.a pk))) c.map_leaves.ensures.ok
