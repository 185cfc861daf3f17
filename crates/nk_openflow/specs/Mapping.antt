-- Which match field each field of tables is mapped to, by the words of the command line.
use Rattle.std.specs.Prelude.{◌≡◌, ℕ, ⊤, ◌+◌, ◌==◌, ◌&&◌, not, nat_lt, Bool, true, false, Option, Some, None, Result, Ok, Err, List, [], ◌∷◌, ◌++◌, length, slice_index, if◌then◌else◌}
use Rattle.nk_field.specs.Packet.{FieldTable, field_named}
use Rattle.nk_field.specs.Texts.{is_tag}
use Rattle.nk_openflow.specs.declared.base.Base.{Base}
use Rattle.nk_openflow.specs.declared.match_field.MatchField.{MatchField}
use Rattle.nk_openflow.specs.declared.match_field.MatchField.TheVariants.{VlanVid}
use Rattle.nk_openflow.specs.declared.mapping.Mapping.{Mapping}
use Rattle.nk_openflow.specs.declared.mapping.MappingError.{MappingError}
use Rattle.nk_openflow.specs.declared.mapping.MappingError.TheVariants.{Fault, NoMemory}
use Rattle.nk_openflow.specs.declared.refusals.WordFault.{WordFault}
use Rattle.nk_openflow.specs.declared.refusals.WordFault.TheVariants.{NoMatchField, NoField, NotTheTag, FieldTooLarge}
use Rattle.nk_openflow.specs.MatchFields.{largest_of}
use Rattle.nk_openflow.specs.Words.{match_field_in, mapped_name}

-- whether a match field is the VLAN
abbrev pub is_vlan : MatchField → Bool
is_vlan VlanVid = true
is_vlan f = false

-- whether a field is a declared one, and so neither the switch nor the port
abbrev pub is_declared : FieldTable → ℕ → Bool
is_declared fs f = not (nat_lt f 2) && nat_lt f (length fs.maxima)

-- A declared field and the match field that carries it. The VLAN carries the tag alone.
abbrev pub mapped_pair : FieldTable → ℕ → MatchField → Result (ℕ × MatchField) WordFault
mapped_pair fs f field =
    if not (is_declared fs f) then Err NoField
    else if is_vlan field && not (is_tag fs f) then Err NotTheTag
    else if nat_lt (largest_of field) (slice_index fs.maxima f) then Err FieldTooLarge
    else Ok (f, field)

-- the two of a word
abbrev pub pair_if_any : FieldTable → Option MatchField → Option ℕ → Result (ℕ × MatchField) WordFault
pair_if_any fs None f = Err NoMatchField
pair_if_any fs (Some field) None = Err NoField
pair_if_any fs (Some field) (Some f) = mapped_pair fs f field

abbrev pub mapped_by : FieldTable → List ℕ → Result (ℕ × MatchField) WordFault
mapped_by fs w = pair_if_any fs (match_field_in w) (field_named fs (mapped_name w))

-- the pairs of words, the first of which is number n, after some pairs; or the fault of a word, with its number
abbrev pub pair_or : ℕ → Result (ℕ × MatchField) WordFault → (ℕ × MatchField → Result (List (ℕ × MatchField)) (ℕ × WordFault))
    → Result (List (ℕ × MatchField)) (ℕ × WordFault)
pair_or n (Ok p) rest = rest p
pair_or n (Err k) rest = Err (n, k)

abbrev pub mapped_pairs : FieldTable → List (ℕ × MatchField) → ℕ → List (List ℕ) → Result (List (ℕ × MatchField)) (ℕ × WordFault)
mapped_pairs fs before n [] = Ok before
mapped_pairs fs before n (w ∷ ws) = pair_or n (mapped_by fs w) (λ p. mapped_pairs fs (before ++ p ∷ []) (n + 1) ws)

-- the mapping of these pairs
abbrev pub with_base : Base → Result (List (ℕ × MatchField)) (ℕ × WordFault) → Result Mapping (ℕ × WordFault)
with_base base (Ok pairs) = Ok (record { base = base; fields = pairs })
with_base base (Err f) = Err f

-- what words map, the first of which is number n, or the first that is at fault, by its number
abbrev pub mapping_of : FieldTable → Base → ℕ → List (List ℕ) → Result Mapping (ℕ × WordFault)
mapping_of fs base n ws = with_base base (mapped_pairs fs [] n ws)

-- the result is this answer, or memory ran out
abbrev pub MappingReturns : Result Mapping MappingError → Result Mapping (ℕ × WordFault) → Type 0
MappingReturns (Ok m) answer = answer ≡ Ok m
MappingReturns (Err (Fault n k)) answer = answer ≡ Err (n, k)
MappingReturns (Err NoMemory) answer = ⊤

-- the match field of a field
abbrev pub mapped_at : List (ℕ × MatchField) → ℕ → Option MatchField
mapped_at [] f = None
mapped_at (p ∷ ps) f = if p.0 == f then Some p.1 else mapped_at ps f
