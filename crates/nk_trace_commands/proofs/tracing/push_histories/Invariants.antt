use Rattle.std.proofs.Common.{◌≡◌, ◌++◌, take}
use Rattle.std.specs.List.{flat_map}
use Rattle.nk_trace_commands.specs.Following.{history_line}
use Rattle.nk_trace_commands.proofs.tracing.push_histories.Given as goal

-- the lines of the histories so far
abbrev pub invariant-loop-history : goal.invariant-loop-history
invariant-loop-history l = l.out.items ≡ l.fn.out.items ++ flat_map (history_line l.fields) (take l.history-index l.history-items)
