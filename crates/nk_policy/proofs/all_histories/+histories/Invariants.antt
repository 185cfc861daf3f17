use Rattle.std.proofs.Common.{◌≡◌, ◌++◌, drop, take}
use Rattle.std.specs.List.{flat_map}
use Rattle.nk_policy.specs.Histories.{histories_from, histories_of_some, histories_of_all}
use Rattle.nk_policy.specs.Tree.{tree_of, trees_of}
use Rattle.nk_policy.proofs.all_histories.+histories.Given as goal

-- what was put out, then the histories by the parts that are left, are all
abbrev pub invariant-push_some-loop-q : goal.invariant-push_some-loop-q
invariant-push_some-loop-q l =
    l.out.items ++ histories_of_some (trees_of (drop l.q-index l.ps)) l.h ≡ l.fn.out.items ++ histories_of_some (trees_of l.ps) l.h

-- what the parts that are left give from the histories so far is what all give
abbrev pub invariant-push_all-loop-q : goal.invariant-push_all-loop-q
invariant-push_all-loop-q l =
    flat_map (λ g. histories_of_all (trees_of (drop l.q-index l.ps)) g) l.current.items ≡ histories_of_all (trees_of l.ps) l.h

-- what was put out, then what the part gives from the histories that are left, is what it gives from all
abbrev pub invariant-push_all-loop-g : goal.invariant-push_all-loop-g
invariant-push_all-loop-g l =
    l.next.items ++ flat_map (λ g. histories_from (tree_of l.q) g) (drop l.g-index l.g-items) ≡ flat_map (λ g. histories_from (tree_of l.q) g) l.g-items

-- the histories so far are put out
abbrev pub invariant-push_all-loop-g-2 : goal.invariant-push_all-loop-g-2
invariant-push_all-loop-g-2 l = l.out.items ≡ l.fn.out.items ++ take l.g-index l.g-items
