use Rattle.std.proofs.Common.{◌≡◌, max, min, ◌≤◌, drop}
use Rattle.nk_policy.specs.Policy.{depths_of}
use Rattle.nk_grammar.specs.Tree.{trees_of}
use Rattle.nk_names.specs.Meant.{policies_for}
use Rattle.nk_names.proofs.check.+depth.Given as goal

-- the deepest of the parts so far and those that are left is the deepest of all
abbrev pub invariant-deepest-loop-q : goal.invariant-deepest-loop-q
invariant-deepest-loop-q l =
    (l.most ≤ 18446744073709551615)
    × (min (max l.most (depths_of (policies_for l.fields l.lets.entries.items (trees_of (drop l.q-index l.parts))))) 18446744073709551615
    ≡ min (depths_of (policies_for l.fields l.lets.entries.items (trees_of l.parts))) 18446744073709551615)
