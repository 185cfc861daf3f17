use Rattle.std.proofs.Common.{take}
use Rattle.std.specs.Prelude.{filter}
use Rattle.std.specs.Option.{option_copied}
use Rattle.nk_table.specs.Rules.{agrees}
use Rattle.nk_table.proofs.Tops.{IsBest}
use Rattle.nk_table.proofs.search.acting_row.Given as goal

-- the highest of the rows passed that match, and whether it is alone
abbrev pub invariant-loop-row : goal.invariant-loop-row
invariant-loop-row l = IsBest (filter (agrees l.fields.maxima l.p) (take l.row-index l.rows)) (option_copied l.best) l.tied
