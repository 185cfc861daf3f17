use Rattle.std.proofs.Common.{◌≡◌, drop}
use Rattle.nk_openflow.specs.Actions.{header_of}
use Rattle.nk_openflow.proofs.actions.header_of.Given as goal

-- what is passed says nothing
abbrev pub invariant-loop-m : goal.invariant-loop-m
invariant-loop-m l =
    header_of l.fs l.mapping (drop l.m-index l.matches) ≡ header_of l.fs l.mapping l.matches
