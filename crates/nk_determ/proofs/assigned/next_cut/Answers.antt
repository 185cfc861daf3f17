use Rattle.std.proofs.Common.{arith}
use Rattle.nk_determ.proofs.Cut.{none_after, some_after}
use Rattle.nk_determ.proofs.assigned.next_cut.Goals as goal

pub returns-then-place-values-clause-none : goal.returns-then-place-values-clause-none
returns-then-place-values-clause-none c = λ f v h l.
    absurd (none_after c.args.values.now c.args.from c.place_from-place.result v c.place_from-place.ensures.below (omega (arith, c.if-place-values.true)) h l)

pub returns-then-v-last-clause-none : goal.returns-then-v-last-clause-none
returns-then-v-last-clause-none c = λ f v h l.
    let least = some_after c.args.values.now c.args.from c.place_from-place.result v c.requires.sorted c.place_from-place.ensures.below h l in
    omega (arith, least, c.if-v-last.true)

pub overflow_sub-result : goal.overflow_sub-result
overflow_sub-result c =
    let on = c.place_from-place.ensures.on (omega (arith, c.if-place-values.false)) in
    omega (arith, on, c.if-v-from.false)

pub returns-clause-from : goal.returns-clause-from
returns-clause-from c =
    let on = c.place_from-place.ensures.on (omega (arith, c.if-place-values.false)) in
    omega (arith, on, c.if-v-from.false)

pub returns-clause-none : goal.returns-clause-none
returns-clause-none c = λ f v h l.
    let on = c.place_from-place.ensures.on (omega (arith, c.if-place-values.false)) in
    let least = some_after c.args.values.now c.args.from c.place_from-place.result v c.requires.sorted c.place_from-place.ensures.below h l in
    omega (arith, on, least, c.if-v-from.false)
