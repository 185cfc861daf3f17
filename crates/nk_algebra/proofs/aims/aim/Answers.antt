use Rattle.nk_store.specs.StoreState.{look}
use Rattle.std.proofs.lemmas.Result.{IfOk-weaker}
use Rattle.nk_apply.proofs.Predicates.{ends_by, ends_aimed}
use Rattle.nk_algebra.proofs.aims.aim.Goals as goal

pub returns-clause-ends : goal.returns-clause-ends
returns-clause-ends c = IfOk-weaker c.map_leaves.result _ _
    (λ r h. λ z. ends_by c.map_leaves.new.st r _ h (λ pk w. ends_aimed c.args.target (look c.args.st.now c.args.d pk) z)) c.map_leaves.ensures.ok
