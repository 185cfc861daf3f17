use Rattle.std.proofs.Common.{◌+◌, ◌-◌, ◌/◌, ◌≤◌, ◌<◌, ◌∙◌, length, arith}
use Rattle.std.proofs.lemmas.List.{get_or_default}
use Rattle.std.proofs.lemmas.Result.{IfOk-weaker}
use Rattle.nk_apply.proofs.Unite.{halves_have_leaves, one_has_leaves, halves_later, one_later}
use Rattle.nk_apply.proofs.many.+union_some.Goals as goal

pub returns-then-to-from-eq1-clause-ok : goal.returns-then-to-from-eq1-clause-ok
returns-then-to-from-eq1-clause-ok t c = one_has_leaves c.args.st.now c.args.ds.now c.args.from (c.args.to - c.args.from) c.index-ds-from.result c.if-to-from-eq1.true (c.index-ds-from.is ∙ get_or_default c.args.ds.now c.args.from c.index-ds-from.result 0 (omega (arith, c.requires.some, c.requires.within))) (omega (arith, c.requires.some, c.requires.within)) c.requires.ids

pub returns-clause-ok : goal.returns-clause-ok
returns-clause-ok t c =
    let middle = c.args.from + (c.args.to - c.args.from) / 2 in
    let low : c.args.from ≤ middle = omega arith in
    let high : middle ≤ c.args.to = omega (arith, c.requires.some) in
    IfOk-weaker c.union_later.result _ _ (λ r u. halves_have_leaves c.args.st.now c.union_some.new.st c.union_some-2.new.st c.union_later.new.st c.args.ds.now c.args.from middle c.args.to c.in_ok-left.left c.in_ok-right.right r
    c.union_some.ensures.grows c.union_some-2.ensures.grows c.requires.ids c.view-tidy.ensures.tidy low high c.requires.within c.in_ok-left.ensures.ok c.in_ok-right.ensures.ok u) c.union_later.ensures.ok

pub returns-then-to-from-eq1-clause-later : goal.returns-then-to-from-eq1-clause-later
returns-then-to-from-eq1-clause-later t c = λ p few first.
    let less : c.args.from < length c.args.ds.now = omega (arith, c.requires.some, c.requires.within) in
    one_later c.args.st.now c.args.ds.now c.args.from c.index-ds-from.result p (c.index-ds-from.is ∙ get_or_default c.args.ds.now c.args.from c.index-ds-from.result 0 less) less first

pub returns-clause-later : goal.returns-clause-later
returns-clause-later t c = IfOk-weaker c.union_later.result _ _
    (λ r u. λ p few first. halves_later c.args.st.now c.union_some.new.st c.union_some-2.new.st c.union_later.new.st c.args.ds.now c.in_ok-left.left c.in_ok-right.right r p
    c.union_some.ensures.grows c.union_some-2.ensures.grows c.requires.ids first c.in_ok-left.ensures.ok.id (c.in_ok-left.ensures.later p few first) (λ grown. c.in_ok-right.ensures.later p few grown) u) c.union_later.ensures.later
