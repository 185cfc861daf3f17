use Rattle.std.proofs.Common.{◌≡◌, ◌++◌, drop}
use Rattle.std.specs.List.{flat_map}
use Rattle.nk_certtext.specs.Text.{position_bytes}
use Rattle.nk_certtext.proofs.text.push_positions.Given as goal

-- what is made so far, then the rest, is the whole
abbrev pub invariant-loop-n : goal.invariant-loop-n
invariant-loop-n l =
    l.out.items ++ flat_map position_bytes (drop l.n-index l.positions)
    ≡ l.fn.out.items ++ flat_map position_bytes l.positions
