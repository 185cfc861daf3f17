use Rattle.std.proofs.Common.{◌≡◌, ◌+◌, drop}
use Rattle.nk_policy.specs.Policy.{dups_of_all, all_marked_from}
use Rattle.nk_policy.specs.Tree.{trees_of}
use Rattle.nk_policy.proofs.Trees.{joined}
use Rattle.nk_names.specs.Body.{policies_in}
use Rattle.nk_names.proofs.body.+write.Given as goal

-- the parts written so far, then those that are left under their numbers, are all
abbrev pub invariant-all_written_on-loop-q : goal.invariant-all_written_on-loop-q
invariant-all_written_on-loop-q l =
    (joined (trees_of l.out.items) (all_marked_from (policies_in (drop l.q-index l.parts)) (l.before + 1))
    ≡ all_marked_from (policies_in l.parts) (l.fn.before + 1))
    × (l.before + dups_of_all (policies_in (drop l.q-index l.parts)) ≡ l.fn.before + dups_of_all (policies_in l.parts))
