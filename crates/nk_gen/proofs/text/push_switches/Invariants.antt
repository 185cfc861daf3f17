use Rattle.std.proofs.Common.{◌≡◌, ◌++◌}
use Rattle.std.specs.List.{flat_map}
use Rattle.nk_gen.specs.Network.{switches}
use Rattle.nk_gen.specs.Text.{switch_line}
use Rattle.nk_gen.proofs.text.push_switches.Given as goal

-- the lines of the switches so far
abbrev pub invariant-loop-below : goal.invariant-loop-below
invariant-loop-below l =
    l.out.items ≡ l.fn.out.items ++ flat_map switch_line (switches l.below)
