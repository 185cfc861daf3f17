use Rattle.std.proofs.Common.{◌≡◌, drop}
use Rattle.nk_openflow.specs.Rules.{sets_fault}
use Rattle.nk_openflow.proofs.rules.sets_fault.Given as goal

-- what is passed says nothing
abbrev pub invariant-loop-f : goal.invariant-loop-f
invariant-loop-f l =
    sets_fault l.mapping l.is_known (drop l.f-index l.sets) ≡ sets_fault l.mapping l.is_known l.sets
