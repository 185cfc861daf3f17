use Rattle.std.proofs.Common.{◌≡◌, ◌∷◌, length, arith}
use Rattle.std.proofs.lemmas.Bool.Decides.{nat_tests}
use Rattle.nk_determ.specs.Branches.{branch_of, branches_in}
use Rattle.nk_determ.proofs.InPlace.{run_is, run_ascends, all_there}
use Rattle.nk_determ.proofs.states.outs_to_sets.Goals as goal

pub push_run-requires-clause-ascend : goal.push_run-requires-clause-ascend
push_run-requires-clause-ascend c =
    let is : branches_in c.loop-rest.rest.now ≡ branch_of c.split_at.result.0.now ∷ branches_in c.split_at.result.1.now =
    run_is c.loop-rest.rest.now c.split_at.result.0.now c.split_at.result.1.now c.run_length.result c.run_length.ensures.is c.split_at.ensures.front c.split_at.ensures.back in
    run_ascends c.args.sets.now c.loop-rest.sets c.args.outs.now c.loop-rest.all c.loop-rest.rest.now c.split_at.result.0.now c.split_at.result.1.now c.loop-rest.invariant is c.requires

pub returns-clause-held : goal.returns-clause-held
returns-clause-held c =
    let none_left : length c.loop-rest.rest.now ≡ 0 = grind (arith, nat_tests, c.is_empty.ensures, c.loop-rest-test.false) in
    all_there c.args.sets.now c.loop-rest.sets c.args.outs.now c.loop-rest.all c.loop-rest.rest.now none_left c.requires c.loop-rest.invariant
