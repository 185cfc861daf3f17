-- The table of rows that are put one after the other.
use Rattle.std.specs.Prelude.{ℕ, List, []}
use Rattle.nk_table.specs.declared.Plain.{Plain}
use Rattle.nk_table.specs.declared.Table.{Table}
use Rattle.nk_group.specs.Groups.{groups_of, rows_after}

-- equal bucket lists are one group
abbrev pub grouped_table : ℕ → List Plain → Table
grouped_table sw rows = record { switch = sw; groups = groups_of rows; rows = rows_after [] rows }
