use Rattle.std.proofs.Common.{◌≡◌, ◌++◌, take}
use Rattle.std.specs.List.{flat_map}
use Rattle.nk_compact_command.specs.Compacting.{distinguishing_line}
use Rattle.nk_compact_command.proofs.compacting.push_distinguishing_lines.Given as goal

-- the lines of what is told so far
abbrev pub invariant-loop-apart : goal.invariant-loop-apart
invariant-loop-apart l = l.out.items ≡ l.fn.out.items ++ flat_map (distinguishing_line l.fields) (take l.apart-index l.aparts)
