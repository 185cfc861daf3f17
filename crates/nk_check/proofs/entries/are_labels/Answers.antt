use Rattle.std.proofs.Common.{arith}
use Rattle.nk_check.proofs.RowSets.{labels_from_places, label_at}
use Rattle.nk_check.proofs.entries.are_labels.Goals as goal

pub returns-then-label-eq0-clause-no : goal.returns-then-label-eq0-clause-no
returns-then-label-eq0-clause-no c = λ _ are.
    let here = label_at c.args.count c.args.positions.now c.loop-label.label-index are c.loop-label-test.true in absurd (omega (arith, here))

pub returns-then-label-count-clause-no : goal.returns-then-label-count-clause-no
returns-then-label-count-clause-no c = λ _ are.
    let here = label_at c.args.count c.args.positions.now c.loop-label.label-index are c.loop-label-test.true in absurd (omega (arith, here))

pub returns-clause-yes : goal.returns-clause-yes
returns-clause-yes c = λ _.
    labels_from_places c.args.count c.args.positions.now (λ k lt. c.loop-label.invariant k (omega (arith, lt, c.loop-label-test.false)))
