use Rattle.std.proofs.Common.{◌≡◌, ℕ, length, sym, subst, arith}
use Rattle.nk_store.proofs.Stores.{grows_on}
use Rattle.nk_store.specs.StoreState.{HasLeaves}
use Rattle.nk_apply.specs.Unions.{AreIds, unions}
use Rattle.nk_backward.specs.Predecessors.{AreSetsJoined}
use Rattle.nk_backward.proofs.Marking.{diagrams_on}
use Rattle.nk_backward.proofs.Joining.{run_ids, joined_push}
use Rattle.nk_backward.proofs.predecessors.joined_all.Goals as goal

pub union_all-requires : goal.union_all-requires
union_all-requires c =
    subst (AreIds c.loop-from.st) (sym c.as_slice.ensures)
    (run_ids c.loop-from.st c.args.ds.now c.loop-from.from c.in_ok-to.to c.in_ok-to.run' (diagrams_on c.args.st.now c.loop-from.st c.args.ds.now c.loop-from.invariant.grows c.requires.ids) c.in_ok-to.ensures)

pub loop-from-preserved : goal.loop-from-preserved
loop-from-preserved c = record {
  grows = grows_on _ _ _ c.loop-from.invariant.grows (grows_on _ _ _ c.union_all.ensures.grows c.join_set.ensures.grows);
  within = c.in_ok-to.ensures.within;
  made = joined_push c.args.st.now c.loop-from.st c.union_all.new.st c.join_set.new.st c.args.ds.now c.loop-from.from c.in_ok-to.to c.set_at.result c.in_ok-d.d c.in_ok-to.run' c.loop-from.into.entries c.join_set.new.into.entries
      c.loop-from.invariant.grows c.union_all.ensures.grows c.requires.ids c.set_at.ensures c.in_ok-to.ensures
      (subst (λ ds. HasLeaves c.union_all.new.st c.in_ok-d.d (λ pk. unions c.loop-from.st ds 0 (length ds) pk)) c.as_slice.ensures c.in_ok-d.ensures.ok) c.loop-from.invariant.made c.in_ok-join_set.ensures.ok;
}

pub returns-clause-ok : goal.returns-clause-ok
returns-clause-ok c =
    let e : c.loop-from.from ≡ length c.args.ds.now = omega (arith, c.loop-from-test.false, c.loop-from.invariant.within) in
    subst (λ (n : ℕ). AreSetsJoined c.args.st.now c.args.ds.now n c.loop-from.st c.loop-from.into.entries) e c.loop-from.invariant.made
