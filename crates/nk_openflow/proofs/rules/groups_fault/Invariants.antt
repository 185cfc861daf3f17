use Rattle.std.proofs.Common.{◌≡◌, drop}
use Rattle.nk_openflow.specs.Rules.{groups_fault}
use Rattle.nk_openflow.proofs.rules.groups_fault.Given as goal

-- what is passed says nothing
abbrev pub invariant-loop-group : goal.invariant-loop-group
invariant-loop-group l =
    groups_fault l.mapping (drop l.group-index l.groups) ≡ groups_fault l.mapping l.groups
