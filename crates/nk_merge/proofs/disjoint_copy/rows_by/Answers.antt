use Rattle.std.proofs.Common.{◌≡◌, ℕ, ◌+◌, ◌<◌, ◌∙◌, length, sym, subst, arith, List}
use Rattle.std.specs.Prelude.{slice_index}
use Rattle.std.proofs.lemmas.List.{get_or_default}
use Rattle.nk_store.specs.StoreState.{look, HasLeaves}
use Rattle.nk_store.proofs.Stores.{grows_on}
use Rattle.nk_determ.specs.Targets.{retargeted}
use Rattle.nk_merge.specs.DisjointCopies.{IsDisjointCopyUpTo}
use Rattle.nk_merge.proofs.Doubling.{one_again, all_again}
use Rattle.nk_merge.proofs.disjoint_copy.rows_by.Goals as goal

pub loop-i-preserved : goal.loop-i-preserved
loop-i-preserved c =
    let lt : c.loop-i.i < length c.args.states.now = c.loop-i-test.true in
    let some : 0 < c.loop-i.i = (let one = c.loop-i.auto.i in omega (arith, one)) in
    let state : c.index-states-i.result ≡ slice_index c.args.states.now c.loop-i.i = c.index-states-i.is ∙ get_or_default c.args.states.now c.loop-i.i c.index-states-i.result 0 lt in
    let leaves : HasLeaves c.again_once.new.st c.in_ok-row.row (λ pk. retargeted c.args.table.now (look c.loop-i.st (slice_index c.args.states.now c.loop-i.i) pk)) =
    subst (λ (d : ℕ). HasLeaves c.again_once.new.st c.in_ok-row.row (λ pk. retargeted c.args.table.now (look c.loop-i.st d pk))) state c.in_ok-row.ensures.ok in
    record {
      grows = grows_on _ _ _ c.loop-i.invariant.grows c.again_once.ensures.grows;
      upto = subst (λ (r : List ℕ). IsDisjointCopyUpTo c.args.st.now c.again_once.new.st c.args.states.now r (c.loop-i.i + 1)) (sym c.in_ok-push.ensures.ok)
          (one_again c.args.st.now c.loop-i.st c.again_once.new.st c.args.states.now c.loop-i.rows c.loop-i.i c.in_ok-row.row c.args.table.now c.loop-i.invariant.grows c.again_once.ensures.grows c.requires.states some lt
          c.loop-i.invariant.upto c.requires.table leaves);
      made = c.in_ok-row.ensures.made;
    }

pub returns-clause-ok : goal.returns-clause-ok
returns-clause-ok c =
    let end = c.loop-i.auto.i-end in
    all_again c.args.st.now c.loop-i.st c.args.states.now c.loop-i.rows c.loop-i.i c.loop-i.invariant.grows c.requires.states c.requires.some
    (omega (arith, c.loop-i-test.false, end, c.requires.some)) c.loop-i.invariant.upto
