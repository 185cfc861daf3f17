use Rattle.std.proofs.Common.{◌≤◌, ◌<◌, ◌+◌, ◌-◌, ◌/◌, ◌∙◌, sym, subst, arith}
use Rattle.std.proofs.lemmas.List.{get_or_default}
use Rattle.std.proofs.lemmas.Result.{IfOk-weaker}
use Rattle.nk_store.specs.StoreState.{AreParts}
use Rattle.nk_apply.specs.Unions.{HaveParts}
use Rattle.nk_apply.proofs.PartSums.{one_sum, halves_sum, parts_grow}
use Rattle.nk_apply.proofs.sums.+sum_parts.Goals as goal

pub returns-then-to-from-eq1-clause-ok : goal.returns-then-to-from-eq1-clause-ok
returns-then-to-from-eq1-clause-ok t c =
    let within : c.args.from < _ = omega (arith, c.requires.some, c.requires.within) in
    IfOk-weaker c.parts_of.result _ _
    (λ ps h. one_sum c.args.st.now c.args.f c.args.ds.now c.args.from (c.args.to - c.args.from) c.index-ds-from.result ps c.if-to-from-eq1.true
    (c.index-ds-from.is ∙ get_or_default c.args.ds.now c.args.from c.index-ds-from.result 0 within) h) c.parts_of.ensures

pub join_parts-requires-clause-left : goal.join_parts-requires-clause-left
join_parts-requires-clause-left t c =
    subst (AreParts c.sum_parts-2.new.st c.args.f) (sym c.as_slice.ensures)
    (parts_grow c.sum_parts.new.st c.sum_parts-2.new.st c.args.f c.in_ok-left.left c.sum_parts-2.ensures.grows c.in_ok-left.ensures.ok.parts)

pub returns-clause-ok : goal.returns-clause-ok
returns-clause-ok t c =
    let middle = c.args.from + (c.args.to - c.args.from) / 2 in
    let low : c.args.from ≤ middle = omega arith in
    let high : middle ≤ c.args.to = omega (arith, c.requires.some) in
    IfOk-weaker c.join_parts.result _ _
    (λ ps h. halves_sum c.args.st.now c.sum_parts.new.st c.sum_parts-2.new.st c.join_parts.new.st c.args.f c.args.ds.now c.args.from middle c.args.to c.as_slice.result.now c.as_slice-2.result.now ps
    c.sum_parts.ensures.grows c.sum_parts-2.ensures.grows c.laws.ensures.nodes c.laws.ensures.tidy c.requires.ids c.requires.first c.requires.field low high c.requires.within
    (subst (HaveParts c.sum_parts.new.st c.args.f _) (sym c.as_slice.ensures) c.in_ok-left.ensures.ok)
    (subst (HaveParts c.sum_parts-2.new.st c.args.f _) (sym c.as_slice-2.ensures) c.in_ok-right.ensures.ok) h) c.join_parts.ensures.ok
