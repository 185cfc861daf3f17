use Rattle.std.proofs.Common.{◌≡◌, ◌≤◌, ◌+◌, ◌++◌, map, vec_capacity, vec_len}
use Rattle.std.specs.BTreeMap.{btree_map_len}
use Rattle.nk_tabtext.proofs.tables.listed.Given as goal

-- those that are listed and those that are left are all groups, and there is room for them
abbrev pub invariant-loop-group : goal.invariant-loop-group
invariant-loop-group l =
    (l.all.items ++ map (λ g. g.1) l.groups.entries ≡ map (λ g. g.1) l.fn.groups.entries) × (vec_len l.all + btree_map_len l.groups ≤ vec_capacity l.all)

abbrev pub decreases-loop-group : goal.decreases-loop-group
decreases-loop-group l = btree_map_len l.groups
