use Rattle.std.proofs.Common.{◌≡◌, drop}
use Rattle.nk_policy.specs.Tree.{trees_of}
use Rattle.nk_policy.proofs.Trees.{joined}
use Rattle.nk_virtual.specs.Questions.{tests_from}
use Rattle.nk_virtual.proofs.questions.tests.Given as goal

-- the tests made so far, then those of the fields that are left, are all
abbrev pub invariant-loop-place : goal.invariant-loop-place
invariant-loop-place l =
    joined (trees_of l.out.items) (tests_from l.place (drop l.place l.fields.maxima) l.x) ≡ tests_from 0 l.fields.maxima l.x
