use Rattle.std.proofs.Common.{cond, eqb, subst, arith}
use Rattle.std.specs.List.{list_any}
use Rattle.nk_store.specs.StoreState.{look, HasLeaves}
use Rattle.nk_store.proofs.Stores.{grows_on, grows_same}
use Rattle.nk_determ.specs.Unchanged.{leaf_changing, split_below}
use Rattle.nk_determ.proofs.Fields.{fields_start, field_next, fields_all}
use Rattle.nk_determ.proofs.splits.divide_fields.Goals as goal

pub loop-place-init : goal.loop-place-init
loop-place-init c = record {
  grows = grows_same c.args.st.now;
  split = fields_start c.args.st.now c.args.d c.requires c.laws.ensures.tidy;
}

pub loop-place-preserved : goal.loop-place-preserved
loop-place-preserved c = record {
  grows = grows_on _ _ _ c.loop-place.invariant.grows c.drop_among.ensures.grows;
  split = field_next c.args.st.now c.loop-place.st c.drop_among.new.st c.loop-place.place c.args.d c.loop-place.r c.in_ok-r.r c.in_ok-fields.fields c.loop-place.invariant.grows c.laws.ensures.tidy c.in_ok-fields.ensures c.loop-place.invariant.split
      (subst (λ k. HasLeaves c.drop_among.new.st c.in_ok-r.r (λ pk. cond (list_any (λ m. eqb m k) c.in_ok-fields.fields) (leaf_changing c.loop-place.st.maxes k pk (look c.loop-place.st c.loop-place.r pk)) (look c.loop-place.st c.loop-place.r pk))) c.new.ensures c.in_ok-r.ensures.ok);
}

pub returns-clause-ok : goal.returns-clause-ok
returns-clause-ok c =
    fields_all c.args.st.now c.loop-place.st c.args.d c.loop-place.r c.laws.ensures.tidy
    (subst (λ k. HasLeaves c.loop-place.st c.loop-place.r (λ pk. split_below k c.args.st.now.maxes pk (look c.args.st.now c.args.d pk))) (omega (arith, c.loop-place-test.false, c.loop-place.auto.place-end)) c.loop-place.invariant.split)
