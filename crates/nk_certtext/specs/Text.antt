-- The printed form of a certificate, as bytes: the word `certificate`, the start row, and the later rows, each on a line of
-- its own.
use Rattle.std.specs.Prelude.{ℕ, List, ◌++◌, codes, decimal}
use Rattle.std.specs.List.{flat_map}
use Rattle.nk_field.specs.Packet.{FieldTable}
use Rattle.nk_policy.specs.Policy.{Policy}
use Rattle.nk_policy.specs.Text.{pol_bytes}
use Rattle.nk_cert.specs.Certificates.{RowValue, CertificateValue}

-- a number after a space
abbrev pub position_bytes : ℕ → List ℕ
position_bytes n = codes " " ++ decimal n

-- the colon and a predicate, to the end of the line
abbrev pub predicate_bytes : FieldTable → Policy → List ℕ
predicate_bytes fields p = codes " : " ++ pol_bytes fields p ++ codes "\n"

-- a later row: its positions, then its predicate
abbrev pub row_bytes : FieldTable → RowValue → List ℕ
row_bytes fields r = codes "row" ++ flat_map position_bytes r.positions ++ predicate_bytes fields r.predicate

-- the bytes of a certificate's text
abbrev pub cert_bytes : FieldTable → CertificateValue → List ℕ
cert_bytes fields c =
    codes "certificate\nrow start" ++ predicate_bytes fields c.start ++ flat_map (row_bytes fields) c.rows
