use Rattle.std.proofs.Common.{◌≡◌, ◌++◌, drop}
use Rattle.std.specs.List.{flat_map}
use Rattle.nk_tabtext.specs.Text.{row_text}
use Rattle.nk_tabtext.proofs.rules.rows.Given as goal

-- what is made so far, then the rest, is the whole
abbrev pub invariant-loop-r : goal.invariant-loop-r
invariant-loop-r l =
    l.out.items ++ flat_map (row_text l.fs) (drop l.r-index l.rs) ≡ l.fn.out.items ++ flat_map (row_text l.fs) l.rs
