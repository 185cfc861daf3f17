-- What readers of rows and of texts with a certificate keep in memory says.
use Rattle.std.specs.Prelude.{◌≡◌, Option, Some, None, Ok, Err, ⊤}
use Rattle.std.specs.declared.result.Result.{Result}
use Rattle.nk_policy.specs.Tree.{tree_of}
use Rattle.nk_cert.specs.Values.{row_values}
use Rattle.nk_certtext.specs.declared.error.CertError.{CertError}
use Rattle.nk_certtext.specs.declared.error.CertError.TheVariants.{NoMemory, CertFault, Fault}
use Rattle.nk_certtext.specs.declared.rows.RowsRead.{RowsRead}
use Rattle.nk_certtext.specs.declared.rows.RowsRead.TheVariants as read
use Rattle.nk_certtext.specs.declared.reader.Parts.{Parts}
use Rattle.nk_certtext.specs.Rows.{RowsValue}
use Rattle.nk_certtext.specs.Progress.{PartsValue}

-- the rows so far
abbrev pub rows_in : RowsRead → RowsValue
rows_in read.Nothing = None
rows_in (read.Sound p rows) = Some (Ok (record { start = tree_of p; rows = row_values rows.entries }))
rows_in (read.Faulty e) = Some (Err e)

-- what is known now, where something is known in place of it
abbrev pub becomes : Option RowsRead → RowsValue → RowsValue
becomes None rows = rows
becomes (Some r) rows = rows_in r

-- what a row that was added makes known: nothing in place of it, or its fault; or memory ran out
abbrev pub MakesKnown : {X E : Type 0} → Result X CertError → Result (Option RowsRead) E → Type 0
MakesKnown (Ok x) r = r ≡ Ok None
MakesKnown (Err NoMemory) (Ok o) = ⊥
MakesKnown (Err NoMemory) (Err e) = ⊤
MakesKnown (Err (CertFault line)) r = r ≡ Ok (Some (read.Faulty (CertFault line)))
MakesKnown (Err (Fault kind line)) r = r ≡ Ok (Some (read.Faulty (Fault kind line)))

-- the declarations and rows so far
abbrev pub parts_in : Parts → PartsValue
parts_in p = record { said = p.program; rows = rows_in p.rows }
