use Rattle.std.proofs.Common.{◌≡◌, drop}
use Rattle.nk_policy.specs.Leaves.{some_has_leaf}
use Rattle.nk_policy.specs.Tree.{trees_of}
use Rattle.nk_static.specs.LeafTests.{test_for}
use Rattle.nk_static.specs.Links.{links_of}
use Rattle.nk_static.proofs.leaf_test.+holds_leaf.Given as goal

-- no part so far holds one, so some part does where one of those that are left does
abbrev pub invariant-some_holds_leaf-loop-q : goal.invariant-some_holds_leaf-loop-q
invariant-some_holds_leaf-loop-q l =
    some_has_leaf (test_for l.sought (links_of l.links)) (trees_of l.ps) ≡ some_has_leaf (test_for l.sought (links_of l.links)) (trees_of (drop l.q-index l.ps))
