use Rattle.std.proofs.Common.{◌≡◌, ◌<◌, length, sym, ◌∙◌, subst, arith, get_or}
use Rattle.std.proofs.lemmas.List.{get_or_default}
use Rattle.nk_store.specs.StoreState.{IsId, HasLeaves, look}
use Rattle.nk_store.specs.Operations.{lacking}
use Rattle.nk_store.proofs.Stores.{grows_same, grows_on}
use Rattle.nk_apply.specs.Unions.{unions}
use Rattle.nk_star.proofs.Lacks.{lacking_none}
use Rattle.nk_star.proofs.Blocks.{less_more}
use Rattle.nk_star.proofs.stars.missing_all.Goals as goal

pub loop-k-init : goal.loop-k-init
loop-k-init c = record {
  grows = grows_same c.args.st.now;
  less = record { id = c.requires.id; leaf = λ pk w. sym (lacking_none (look c.args.st.now c.args.d pk)) };
}

pub missing-requires-clause-left : goal.missing-requires-clause-left
missing-requires-clause-left c = c.loop-k.invariant.less.id

pub missing-requires-clause-right : goal.missing-requires-clause-right
missing-requires-clause-right c =
    let l : c.loop-k.k < length c.args.all.now = omega (arith, c.loop-k-test.true) in
    let e : c.index-all-k.result ≡ get_or c.args.all.now c.loop-k.k 0 = c.index-all-k.is ∙ get_or_default c.args.all.now c.loop-k.k c.index-all-k.result 0 l in
    c.loop-k.invariant.grows.ids c.index-all-k.result (subst (λ i. IsId c.args.st.now i) (sym e) (c.requires.ids c.loop-k.k l))

pub loop-k-preserved : goal.loop-k-preserved
loop-k-preserved c =
    let l : c.loop-k.k < length c.args.all.now = omega (arith, c.loop-k-test.true) in
    let e : c.index-all-k.result ≡ get_or c.args.all.now c.loop-k.k 0 = c.index-all-k.is ∙ get_or_default c.args.all.now c.loop-k.k c.index-all-k.result 0 l in
    record {
      grows = grows_on _ _ _ c.loop-k.invariant.grows c.missing.ensures.grows;
      less = less_more c.args.st.now c.loop-k.st c.missing.new.st c.args.all.now c.args.d c.loop-k.rest c.index-all-k.result c.in_ok-less.less c.loop-k.k
          c.loop-k.invariant.grows c.laws.ensures.tidy c.requires.ids l e c.loop-k.invariant.less c.in_ok-less.ensures.ok;
    }

pub returns-clause-ok : goal.returns-clause-ok
returns-clause-ok c =
    let e : c.loop-k.k ≡ length c.args.all.now = omega arith in
    subst (λ n. HasLeaves c.loop-k.st c.loop-k.rest (λ pk. lacking (look c.args.st.now c.args.d pk) (unions c.args.st.now c.args.all.now 0 n pk))) e c.loop-k.invariant.less
