use Rattle.std.proofs.Common.{◌≡◌, ◌++◌, take}
use Rattle.std.specs.List.{flat_map}
use Rattle.nk_trace_commands.specs.Flying.{left_line}
use Rattle.nk_trace_commands.proofs.flying.push_left.Given as goal

-- the lines of the histories so far
abbrev pub invariant-loop-gone : goal.invariant-loop-gone
invariant-loop-gone l = l.out.items ≡ l.fn.out.items ++ flat_map (left_line l.fields) (take l.gone-index l.left)
