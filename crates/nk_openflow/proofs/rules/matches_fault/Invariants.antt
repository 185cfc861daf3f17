use Rattle.std.proofs.Common.{◌≡◌, drop}
use Rattle.nk_openflow.specs.Rules.{matches_fault}
use Rattle.nk_openflow.proofs.rules.matches_fault.Given as goal

-- what is passed says nothing
abbrev pub invariant-loop-m : goal.invariant-loop-m
invariant-loop-m l =
    matches_fault l.fs l.mapping (drop l.m-index l.matches) ≡ matches_fault l.fs l.mapping l.matches
