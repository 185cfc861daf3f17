use Rattle.std.proofs.Common.{◌≡◌, length, ap, arith, ◌∙◌}
use Rattle.std.proofs.lemmas.Option.{IfSome_then}
use Rattle.nk_policy.specs.Policy.{part, no_part}
use Rattle.nk_auto.proofs.DrawnAssignments.{one_after}
use Rattle.nk_auto.proofs.assignments.assignment_after.Goals as goal

pub returns : goal.returns
returns c =
    let two : length c.args.ps.now ≡ 2 = omega arith in
    IfSome_then c.assigned.result c.assigned.ensures
    (λ x e. one_after c.args.ps.now c.index-ps-1.result two c.index-ps-1.is ∙ ap (λ q. part q no_part) e)
