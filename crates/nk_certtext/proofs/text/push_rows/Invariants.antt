use Rattle.std.proofs.Common.{◌≡◌, ◌++◌, drop}
use Rattle.std.specs.List.{flat_map}
use Rattle.nk_cert.specs.Values.{held_row_value}
use Rattle.nk_certtext.specs.Text.{row_bytes}
use Rattle.nk_certtext.proofs.text.push_rows.Given as goal

-- what is made so far, then the rest, is the whole
abbrev pub invariant-loop-row : goal.invariant-loop-row
invariant-loop-row l =
    l.out.items ++ flat_map (λ r. row_bytes l.fields (held_row_value r)) (drop l.row-index l.rows)
    ≡ l.fn.out.items ++ flat_map (λ r. row_bytes l.fields (held_row_value r)) l.rows
