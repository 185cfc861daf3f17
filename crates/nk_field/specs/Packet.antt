-- Fields, packets and histories as plain values (NetKAT: Anderson et al., POPL 2014, section 3).
-- A packet is the list of its values by the index of the field: index 0 is the switch, index 1 the port, and the
-- declared fields follow. It has eighteen values, and 0 where there is no field.
use Rattle.std.specs.Prelude.{◌≡◌, ◌≢◌, ℕ, ◌≤◌, ◌<◌, List, [], ◌∷◌, ◌++◌, Option, Some, None, take, length, slice_index, slice_set, position, codes, AllPairs}
use Rattle.std.specs.Str.{bytes_eq}

-- the name and the largest value of each field, in order with the switch and the port first; and the index of the tag, if
-- there is one
pub record FieldTable : Type 0 where
  pub names : List (List ℕ)
  pub maxima : List ℕ
  pub tag : Option ℕ

-- the switch and the port alone
abbrev pub built_in : FieldTable
built_in = record {
  names = codes "sw" ∷ codes "pt" ∷ [];
  maxima = 65535 ∷ 65535 ∷ [];
  tag = None;
}

-- The fields of a program: the switch and the port first, at most eighteen in all, no name twice; and the tag, if
-- there is one, is none of the switch and the port.
pub record IsFieldTable (fields : FieldTable) : Type 0 where
  pub few : length fields.maxima ≤ 18
  pub named : length fields.names ≡ length fields.maxima
  pub built_in_names : take 2 fields.names ≡ built_in.names
  pub built_in_maxima : take 2 fields.maxima ≡ built_in.maxima
  pub distinct : AllPairs (λ a b. a ≢ b) fields.names
  pub tag_past_port : (f : ℕ) → fields.tag ≡ Some f → (2 ≤ f) × (f < length fields.maxima)

-- the index of the field with this name, if there is one
abbrev pub field_named : FieldTable → List ℕ → Option ℕ
field_named fields name = position (bytes_eq name) fields.names

-- the fields with one more after them
abbrev pub with_field : FieldTable → List ℕ → ℕ → FieldTable
with_field fields name max = record fields {
  names = fields.names ++ name ∷ [];
  maxima = fields.maxima ++ max ∷ [];
}

-- a field, and a value in its range
abbrev pub IsValue : FieldTable → ℕ → ℕ → Type 0
IsValue fields f n = (f < length fields.maxima) × (n ≤ slice_index fields.maxima f)

-- a value in range at each field, and 0 elsewhere
pub record IsPacket (fields : FieldTable) (pk : List ℕ) : Type 0 where
  pub places : length pk ≡ 18
  pub within : (f : ℕ) → slice_index pk f ≤ slice_index fields.maxima f

-- the packet with this field, if one is given, set to 0
abbrev pub without : Option ℕ → List ℕ → List ℕ
without None pk = pk
without (Some f) pk = slice_set pk f 0

-- the packet with tag 0
abbrev pub erased : FieldTable → List ℕ → List ℕ
erased fields pk = without fields.tag pk

-- the tag is 0 already, or there is none
abbrev pub IsUntagged : FieldTable → List ℕ → Type 0
IsUntagged fields pk = erased fields pk ≡ pk
