use Rattle.std.proofs.Common.{◌≡◌, ◌+◌, ◌≤◌, min, drop}
use Rattle.nk_extract.specs.RuleTree.{priority_of}
use Rattle.nk_extract.proofs.row.priority.Given as goal

abbrev pub invariant-loop-f : goal.invariant-loop-f
invariant-loop-f l = record {
  small : l.all ≤ 65535;
  made : min 65535 (l.all + priority_of l.frame.width l.frame.tag.0 (drop l.f-index l.matches)) ≡ min 65535 (priority_of l.frame.width l.frame.tag.0 l.matches);
}
