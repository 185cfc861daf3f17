-- The certificate that the rows of a text make, or their first fault. Rows are taken in the order of the text.
use Rattle.std.specs.Prelude.{◌≡◌, ℕ, Bool, true, not, ◌&&◌, ◌||◌, nat_lt, if◌then◌else◌, Option, Some, None, Ok, Err, List, [], ◌∷◌, ◌++◌, ⊤}
use Rattle.std.specs.declared.result.Result.{Result}
use Rattle.std.specs.List.{list_any}
use Rattle.std.specs.Str.{bytes_eq}
use Rattle.nk_lex.specs.Faults.{and_then}
use Rattle.nk_field.specs.Packet.{FieldTable}
use Rattle.nk_policy.specs.Policy.{Policy}
use Rattle.nk_grammar.specs.Certified.{Row, row}
use Rattle.nk_names.specs.declared.fault.NamesError.{NamesError}
use Rattle.nk_names.specs.declared.fault.NamesError.TheVariants as names
use Rattle.nk_names.specs.ProgramOf.{row_policy}
use Rattle.nk_cert.specs.Certificates.{RowValue, CertificateValue}
use Rattle.nk_certtext.specs.declared.error.CertError.{CertError}
use Rattle.nk_certtext.specs.declared.error.CertError.TheVariants.{NoMemory, CertFault, Fault}

-- a number above the last one, where there is one
abbrev pub is_above : Option ℕ → ℕ → Bool
is_above None n = true
is_above (Some last) n = nat_lt last n

-- each number is above the one before it
abbrev pub ascend_after : Option ℕ → List ℕ → Bool
ascend_after last [] = true
ascend_after last (n ∷ ns) = is_above last n && ascend_after (Some n) ns

-- the numbers ascend strictly
abbrev pub ascend : List ℕ → Bool
ascend ns = ascend_after None ns

-- some of these rows has the positions
abbrev pub have_positions : List RowValue → List ℕ → Bool
have_positions rows ns = list_any (λ r. bytes_eq ns r.positions) rows

-- positions that don't ascend, or that an earlier row has
abbrev pub is_misplaced : (before : List RowValue) → List ℕ → Bool
is_misplaced before ns = not (ascend ns) || have_positions before ns

-- the fault of a predicate as one of a certificate
abbrev pub fault_of_predicate : NamesError → CertError
fault_of_predicate names.NoMemory = NoMemory
fault_of_predicate (names.Fault kind line) = Fault kind line

-- the rows with one more, or the fault of its predicate
abbrev pub with_predicate : (before : List RowValue) → List ℕ → Result Policy NamesError → Result (List RowValue) CertError
with_predicate before ns (Ok p) = Ok (before ++ record { positions = ns; predicate = p } ∷ [])
with_predicate before ns (Err e) = Err (fault_of_predicate e)

-- the rows with one more of this predicate, or its first fault: of its positions, and then of its predicate
abbrev pub placed_row : (before : List RowValue) → List ℕ → (line : ℕ) → Result Policy NamesError → Result (List RowValue) CertError
placed_row before ns line predicate = if is_misplaced before ns then Err (CertFault line) else with_predicate before ns predicate

-- the rows with one more row as it is written, or its first fault: of its positions, and then of its predicate
abbrev pub with_written_row : FieldTable → (before : List RowValue) → Row → Result (List RowValue) CertError
with_written_row fields before (row ns t line) = placed_row before ns line (row_policy fields t line)

-- the rows after those that were read before
abbrev pub with_later_rows : FieldTable → List Row → (before : List RowValue) → Result (List RowValue) CertError
with_later_rows fields [] before = Ok before
with_later_rows fields (r ∷ rs) before = and_then (with_written_row fields before r) (with_later_rows fields rs)

-- a certificate of the start row's predicate and the later rows
abbrev pub with_rows : Policy → Result (List RowValue) CertError → Result CertificateValue CertError
with_rows p (Ok rows) = Ok (record { start = p; rows = rows })
with_rows p (Err e) = Err e

-- the start row's predicate, and then the later rows
abbrev pub from_start : FieldTable → Result Policy NamesError → List Row → Result CertificateValue CertError
from_start fields (Ok p) later = with_rows p (with_later_rows fields later [])
from_start fields (Err e) later = Err (fault_of_predicate e)

-- the certificate of a text's rows, the start row first; without rows there is none
abbrev pub certificate_of : FieldTable → List Row → Result CertificateValue CertError
certificate_of fields [] = Err (CertFault 1)
certificate_of fields (row ns t line ∷ later) = from_start fields (row_policy fields t line) later

-- ---- row by row

-- a certificate of a start row with this predicate alone
abbrev pub starts : Result Policy NamesError → Result CertificateValue CertError
starts (Ok p) = Ok (record { start = p; rows = [] })
starts (Err e) = Err (fault_of_predicate e)

-- the certificate with one more row; the first fault stays
abbrev pub with_later_row : Result CertificateValue CertError → List ℕ → (line : ℕ) → Result Policy NamesError → Result CertificateValue CertError
with_later_row (Ok c) ns line predicate = with_rows c.start (placed_row c.rows ns line predicate)
with_later_row (Err e) ns line predicate = Err e

-- the certificate of the rows so far, or their first fault; none where there is no row
abbrev pub RowsValue : Type 0
RowsValue = Option (Result CertificateValue CertError)

-- with one more row of this predicate, where the first row is the start row
abbrev pub with_next_row : RowsValue → List ℕ → (line : ℕ) → Result Policy NamesError → RowsValue
with_next_row None ns line predicate = Some (starts predicate)
with_next_row (Some c) ns line predicate = Some (with_later_row c ns line predicate)

-- what these rows make
abbrev pub made_of : FieldTable → List Row → RowsValue
made_of fields [] = None
made_of fields (r ∷ rs) = Some (certificate_of fields (r ∷ rs))

-- the certificate, where no further row comes
abbrev pub certificate_at_end : RowsValue → Result CertificateValue CertError
certificate_at_end None = Err (CertFault 1)
certificate_at_end (Some c) = c

-- ---- what a call takes and answers

-- there is a first row, and it has no positions
abbrev pub HasStartRow : List Row → Type 0
HasStartRow [] = ⊥
HasStartRow (row ns t line ∷ later) = ns ≡ []

-- this is the fault of what is wanted; memory may run out at any point
abbrev pub IsCertFault : {X : Type 0} → CertError → Result X CertError → Type 0
IsCertFault NoMemory wanted = ⊤
IsCertFault (CertFault line) wanted = wanted ≡ Err (CertFault line)
IsCertFault (Fault kind line) wanted = wanted ≡ Err (Fault kind line)

-- what is returned is what is wanted, seen so, or that memory ran out
abbrev pub CertReturns : {X Y : Type 0} → (X → Y) → Result X CertError → Result Y CertError → Type 0
CertReturns view (Ok x) wanted = wanted ≡ Ok (view x)
CertReturns view (Err e) wanted = IsCertFault e wanted
