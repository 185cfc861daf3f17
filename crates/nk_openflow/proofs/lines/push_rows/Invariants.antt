use Rattle.std.proofs.Common.{◌≡◌, ◌++◌, drop}
use Rattle.std.specs.List.{flat_map}
use Rattle.nk_openflow.specs.Lines.{row_lines}
use Rattle.nk_openflow.proofs.lines.push_rows.Given as goal

-- what is made so far, then the rest, is the whole
abbrev pub invariant-loop-row : goal.invariant-loop-row
invariant-loop-row l =
    l.out.items ++ flat_map (row_lines l.fs l.mapping l.ports) (drop l.row-index l.rows) ≡ l.fn.out.items ++ flat_map (row_lines l.fs l.mapping l.ports) l.rows
