use Rattle.std.proofs.Common.{◌≡◌, ◌+◌, min, ◌≤◌, drop}
use Rattle.nk_policy.specs.Policy.{sizes_of}
use Rattle.nk_grammar.specs.Tree.{trees_of}
use Rattle.nk_names.specs.Meant.{policies_for}
use Rattle.nk_names.proofs.check.+size.Given as goal

-- the parts so far and those that are left count as all
abbrev pub invariant-total_size-loop-q : goal.invariant-total_size-loop-q
invariant-total_size-loop-q l =
    (l.total ≤ 18446744073709551615)
    × (min (l.total + sizes_of (policies_for l.fields l.lets.entries.items (trees_of (drop l.q-index l.parts)))) 18446744073709551615
    ≡ min (sizes_of (policies_for l.fields l.lets.entries.items (trees_of l.parts))) 18446744073709551615)
