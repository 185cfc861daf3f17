use Rattle.std.proofs.Common.{◌≡◌, drop, length, sym, subst, arith}
use Rattle.std.proofs.lemmas.List.{drop_all}
use Rattle.nk_policy.specs.Tree.{tree_of}
use Rattle.nk_store.proofs.Stores.{grows_on, grows_same}
use Rattle.nk_auto.specs.OfParts.{IsAimed, IsOfPart}
use Rattle.nk_auto.proofs.OfParts.{no_legs, one_more_leg, part_grow, legs_from}
use Rattle.nk_auto.proofs.by_parts.with_legs.Goals as goal

pub loop-i-init : goal.loop-i-init
loop-i-init c = record {
  grows = grows_same c.args.st.now;
  within = omega arith;
  rest = subst (λ legs. IsOfPart c.args.st.now c.args.drawn (tree_of c.args.free.now) legs) (sym (drop_all (length c.args.legs.now) c.args.legs.now (omega arith)))
      (no_legs c.args.st.now c.args.drawn (tree_of c.args.free.now) c.requires);
}

pub loop-i-preserved : goal.loop-i-preserved
loop-i-preserved c =
    let leg = c.index-legs-i.result in
    let left = legs_from c.args.legs.now c.loop-i.i leg c.loop-i-test.true c.loop-i.invariant.within c.index-legs-i.is in
    let one : IsAimed c.aimed_at.new.st c.in_ok-records.records (tree_of leg.0) leg.1 =
    subst (λ n. IsAimed c.aimed_at.new.st c.in_ok-records.records (tree_of leg.0) n) c.from.ensures c.in_ok-records.ensures.ok in
    let more = part_grow c.loop-i.st c.aimed_at.new.st c.loop-i.d (tree_of c.args.free.now) (drop c.loop-i.i c.args.legs.now) c.aimed_at.ensures.grows c.loop-i.invariant.rest in
    record {
      grows = grows_on _ _ _ c.loop-i.invariant.grows (grows_on _ _ _ c.aimed_at.ensures.grows c.union.ensures.grows);
      within = omega (arith, c.loop-i.invariant.within);
      rest = subst (λ legs. IsOfPart c.union.new.st c.in_ok-d.d (tree_of c.args.free.now) legs) (sym left)
          (one_more_leg c.aimed_at.new.st c.union.new.st c.in_ok-records.records c.loop-i.d c.in_ok-d.d (tree_of c.args.free.now) leg (drop c.loop-i.i c.args.legs.now) c.union.ensures.grows one more c.in_ok-d.ensures.ok);
    }

pub returns-clause-ok : goal.returns-clause-ok
returns-clause-ok c =
    let zero_is : c.loop-i.i ≡ 0 = omega (arith, c.loop-i-test.false) in
    subst (λ n. IsOfPart c.loop-i.st c.loop-i.d (tree_of c.args.free.now) (drop n c.args.legs.now)) zero_is c.loop-i.invariant.rest
