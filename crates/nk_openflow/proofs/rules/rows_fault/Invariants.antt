use Rattle.std.proofs.Common.{◌≡◌, ◌+◌, drop}
use Rattle.nk_openflow.specs.Rules.{row_rules_fault}
use Rattle.nk_openflow.proofs.rules.rows_fault.Given as goal

-- what is passed says nothing
abbrev pub invariant-loop-i : goal.invariant-loop-i
invariant-loop-i l =
    row_rules_fault l.fs l.mapping (l.i + 1) (drop l.i l.rows) ≡ row_rules_fault l.fs l.mapping 1 l.rows
