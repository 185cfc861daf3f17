use Rattle.std.proofs.Common.{◌≡◌, ◌++◌, drop}
use Rattle.std.specs.List.{flat_map}
use Rattle.nk_openflow.specs.Lines.{group_line}
use Rattle.nk_openflow.proofs.lines.push_groups.Given as goal

-- what is made so far, then the rest, is the whole
abbrev pub invariant-loop-group : goal.invariant-loop-group
invariant-loop-group l =
    l.out.items ++ flat_map (group_line l.mapping) (drop l.group-index l.groups) ≡ l.fn.out.items ++ flat_map (group_line l.mapping) l.groups
