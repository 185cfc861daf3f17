use Rattle.std.proofs.Common.{◌+◌, ◌-◌, ◌/◌, ◌≤◌, ◌≡◌, subst, arith}
use Rattle.std.proofs.lemmas.Result.{IfOk-weaker}
use Rattle.nk_store.specs.StoreState.{HasLeaves}
use Rattle.nk_algebra.specs.Halves.{chosen}
use Rattle.nk_algebra.proofs.Halved.{chosen_halves}
use Rattle.nk_algebra.proofs.halves.+choose_some.Goals as goal

pub returns-then-to-from-eq1-clause-ok : goal.returns-then-to-from-eq1-clause-ok
returns-then-to-from-eq1-clause-ok t c =
    let next : c.args.from + 1 ≡ c.args.to = omega (arith, c.if-to-from-eq1.true, c.requires.some) in
    IfOk-weaker c.choose_one.result _ _ (λ d h. subst (λ n. HasLeaves c.choose_one.new.st d (λ pk. chosen c.args.st.now c.args.f c.args.parts.now c.args.from n pk)) next h) c.choose_one.ensures.ok

pub returns-clause-ok : goal.returns-clause-ok
returns-clause-ok t c =
    let middle = c.args.from + (c.args.to - c.args.from) / 2 in
    let low : c.args.from ≤ middle = omega arith in
    let high : middle ≤ c.args.to = omega (arith, c.requires.some) in
    IfOk-weaker c.union_later.result _ _ (λ r u. chosen_halves c.args.st.now c.choose_some.new.st c.choose_some-2.new.st c.union_later.new.st c.args.f c.args.parts.now c.args.from middle c.args.to c.in_ok-left.left c.in_ok-right.right r
    c.requires.choices low high c.choose_some.ensures.grows c.choose_some-2.ensures.grows c.in_ok-left.ensures.ok c.in_ok-right.ensures.ok u) c.union_later.ensures.ok
