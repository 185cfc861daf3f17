use Rattle.std.proofs.Common.{◌≡◌, ◌++◌, drop}
use Rattle.std.specs.List.{flat_map}
use Rattle.nk_tabtext.specs.Text.{group_text}
use Rattle.nk_tabtext.proofs.rules.groups.Given as goal

-- what is made so far, then the rest, is the whole
abbrev pub invariant-loop-g : goal.invariant-loop-g
invariant-loop-g l =
    l.out.items ++ flat_map (group_text l.fs) (drop l.g-index l.gs) ≡ l.fn.out.items ++ flat_map (group_text l.fs) l.gs
