use Rattle.std.proofs.Common.{sym, subst, length, refl}
use Rattle.std.proofs.lemmas.Result.{IfOk-weaker}
use Rattle.nk_store.specs.StoreState.{HasLeaves}
use Rattle.nk_apply.specs.Unions.{AreIds, unions}
use Rattle.nk_determ.proofs.Together.{each_ids, split_each, all_together}
use Rattle.nk_determ.proofs.states.together.Goals as goal

pub union_all-requires : goal.union_all-requires
union_all-requires c =
    subst (AreIds c.split_all.new.st) (sym c.as_slice.ensures)
    (each_ids c.split_all.new.st c.in_ok-ds.ds (length c.in_ok-ds.ds) (split_each c.args.st.now c.args.diagrams.now) refl c.in_ok-ds.ensures.ok)

pub returns-clause-ok : goal.returns-clause-ok
returns-clause-ok c = IfOk-weaker c.union_all.result _ _
    (λ r u. all_together c.args.st.now c.split_all.new.st c.union_all.new.st c.args.diagrams.now c.in_ok-ds.ds r c.in_ok-ds.ensures.len c.in_ok-ds.ensures.ok
    (subst (λ ds. HasLeaves c.union_all.new.st r (λ pk. unions c.split_all.new.st ds 0 (length ds) pk)) c.as_slice.ensures u)) c.union_all.ensures.ok
