use Rattle.std.proofs.Common.{subst}
use Rattle.nk_policy.specs.Policy.{numbers_of}
use Rattle.nk_policy.specs.Tree.{tree_of}
use Rattle.nk_policy.specs.After.{after}
use Rattle.nk_policy.proofs.Numbering.{numbered_distinct}
use Rattle.nk_deriv.specs.declared.values.Part.{Part}
use Rattle.nk_deriv.specs.Turns.{AreRests}
use Rattle.nk_deriv.proofs.Loops.{numbered_marks, parts_of_rests}
use Rattle.nk_deriv.proofs.derivatives.parts.Goals as goal

pub rests-requires-clause-distinct : goal.rests-requires-clause-distinct
rests-requires-clause-distinct c = numbered_distinct _ c.requires.numbered.0 c.requires.numbered.2

pub rests-requires-clause-fit : goal.rests-requires-clause-fit
rests-requires-clause-fit c = numbered_marks _ c.requires.numbered.0 c.requires.numbered.1 c.requires.numbered.2

pub returns-clause-labels : goal.returns-clause-labels
returns-clause-labels c =
    let end : Part = record { free = c.keeping-free.result; legs = c.new-legs.result } in
    (parts_of_rests _ end (tree_of c.args.p.now) c.keeping-free.ensures c.new-legs.ensures
    (subst (λ o. AreRests o c.rests.new.out (after (tree_of c.args.p.now)) (numbers_of (tree_of c.args.p.now)) end) c.new-after.ensures c.in_ok-rests.ensures)).0

pub returns-clause-after : goal.returns-clause-after
returns-clause-after c =
    let end : Part = record { free = c.keeping-free.result; legs = c.new-legs.result } in
    (parts_of_rests _ end (tree_of c.args.p.now) c.keeping-free.ensures c.new-legs.ensures
    (subst (λ o. AreRests o c.rests.new.out (after (tree_of c.args.p.now)) (numbers_of (tree_of c.args.p.now)) end) c.new-after.ensures c.in_ok-rests.ensures)).1

pub returns-clause-within : goal.returns-clause-within
returns-clause-within c =
    let end : Part = record { free = c.keeping-free.result; legs = c.new-legs.result } in
    (parts_of_rests _ end (tree_of c.args.p.now) c.keeping-free.ensures c.new-legs.ensures
    (subst (λ o. AreRests o c.rests.new.out (after (tree_of c.args.p.now)) (numbers_of (tree_of c.args.p.now)) end) c.new-after.ensures c.in_ok-rests.ensures)).2
