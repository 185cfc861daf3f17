use Rattle.std.proofs.Common.{◌≡◌, ◌++◌, take}
use Rattle.std.specs.List.{flat_map}
use Rattle.nk_flight.specs.Updates.{state_in}
use Rattle.nk_compile_commands.specs.Updating.{versioned_line}
use Rattle.nk_compile_commands.proofs.updating.push_left.Given as goal

-- the lines of the histories so far
abbrev pub invariant-loop-gone : goal.invariant-loop-gone
invariant-loop-gone l = l.out.items ≡ l.fn.out.items ++ flat_map (versioned_line l.fields (state_in l.flight).versions) (take l.gone-index l.left)
