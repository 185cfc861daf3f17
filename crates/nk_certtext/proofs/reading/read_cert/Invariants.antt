use Rattle.std.proofs.Common.{◌≡◌, map, take}
use Rattle.nk_grammar.specs.Certified.{row_value as written_row}
use Rattle.nk_certtext.specs.InMemory.{rows_in}
use Rattle.nk_certtext.specs.Rows.{made_of}
use Rattle.nk_certtext.proofs.reading.read_cert.Given as goal

-- the rows so far make this
abbrev pub invariant-loop-row : goal.invariant-loop-row
invariant-loop-row l = rows_in l.rows ≡ made_of l.program.fields (map written_row (take l.row-index l.row-items))
