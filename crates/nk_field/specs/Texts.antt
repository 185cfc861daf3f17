-- The texts of packets and histories, and the packet that a text gives.
use Rattle.std.specs.Prelude.{◌≡◌, ◌≢◌, ℕ, ◌+◌, ◌^◌, ◌==◌, ◌<◌, ◌||◌, ◌&&◌, not, nat_le, Bool, false, if◌then◌else◌, Option, None, Some, Result, Ok, Err, List, [], ◌∷◌, ◌++◌, All, filter, length, replicate, slice_index, slice_index_or, slice_set, codes, decimal}
use Rattle.std.specs.List.{join_by, range_with_len, slice_split}
use Rattle.std.specs.Str.{all_ascii_digits}
use Rattle.std.specs.Str.Parse.{digits_value}
use Rattle.nk_field.specs.Packet.{FieldTable, IsFieldTable, IsPacket, erased}
use Rattle.nk_field.specs.declared.history.History.{History}
use Rattle.nk_field.specs.declared.packet.Packet.{Packet}
use Rattle.nk_field.specs.declared.reading.PacketError.{PacketError}
use Rattle.nk_field.specs.declared.reading.PacketError.TheVariants.{BadPacket, NoMemory}

-- a field's name
abbrev pub name_of : FieldTable → ℕ → List ℕ
name_of fields f = slice_index_or fields.names f []

-- whether an index is given, and is this one
abbrev pub is_this : Option ℕ → ℕ → Bool
is_this None f = false
is_this (Some g) f = f == g

-- whether a field is the tag
abbrev pub is_tag : FieldTable → ℕ → Bool
is_tag fields f = is_this fields.tag f

-- whether a field is shown: each is but the tag, and where it is wanted the tag too
abbrev pub is_shown : FieldTable → Bool → ℕ → Bool
is_shown fields with_tag f = with_tag || not (is_tag fields f)

-- the fields that are shown, in order
abbrev pub shown : FieldTable → Bool → List ℕ
shown fields with_tag = filter (is_shown fields with_tag) (range_with_len 0 (length fields.maxima))

-- `name=value`
abbrev pub item_text : FieldTable → List ℕ → ℕ → List ℕ
item_text fields pk f = name_of fields f ++ codes "=" ++ decimal (slice_index pk f)

-- a packet: its items with commas between them
abbrev pub packet_bytes : FieldTable → Bool → List ℕ → List ℕ
packet_bytes fields with_tag pk = join_by (item_text fields pk) (codes ",") (shown fields with_tag)

-- a history: the recorded packets and the last one with spaces between them
abbrev pub history_bytes : FieldTable → Bool → History → List ℕ
history_bytes fields with_tag h = join_by (packet_bytes fields with_tag) (codes " ") (h.records ++ h.last ∷ [])

-- what stands after the front in a text, if it begins so
abbrev pub rest_after_prefix : List ℕ → List ℕ → Option (List ℕ)
rest_after_prefix [] text = Some text
rest_after_prefix (c ∷ cs) [] = None
rest_after_prefix (c ∷ cs) (b ∷ bs) = if b == c then rest_after_prefix cs bs else None

-- the number that digits alone write, one at least, if it is at most this one
abbrev pub number_upto : ℕ → List ℕ → Option ℕ
number_upto max ds =
    if not (length ds == 0) && all_ascii_digits ds && nat_le (digits_value 10 ds) max then Some (digits_value 10 ds) else None

abbrev pub number_if_any : ℕ → Option (List ℕ) → Option ℕ
number_if_any max None = None
number_if_any max (Some ds) = number_upto max ds

-- the value that an item gives a field: `name=digits` with a value in the field's range
abbrev pub value_in : FieldTable → ℕ → List ℕ → Option ℕ
value_in fields f item = number_if_any (slice_index fields.maxima f) (rest_after_prefix (name_of fields f ++ codes "=") item)

-- what becomes of a value, or that the item of this number is at fault
abbrev pub with_value : Option ℕ → ℕ → (ℕ → Result Packet PacketError) → Result Packet PacketError
with_value None n rest = Err (BadPacket n)
with_value (Some v) n rest = rest v

-- The packet with the values of these fields from these items, one for each, where n items came before; or the number
-- of the first item that is wrong, missing or too many.
abbrev pub read_items : FieldTable → List ℕ → List (List ℕ) → ℕ → Packet → Result Packet PacketError
read_items fields [] [] n pk = Ok pk
read_items fields [] (i ∷ is) n pk = Err (BadPacket (n + 1))
read_items fields (f ∷ fs) [] n pk = Err (BadPacket (n + 1))
read_items fields (f ∷ fs) (i ∷ is) n pk =
    with_value (value_in fields f i) (n + 1) (λ v. read_items fields fs is (n + 1) (slice_set pk f v))

-- the packet of a text: items between commas, one for each field but the tag, in order; the tag is 0
abbrev pub packet_of : FieldTable → List ℕ → Result Packet PacketError
packet_of fields text = read_items fields (shown fields false) (slice_split (λ b. b == 44) text) 0 (replicate 18 0)

-- the answer is this one, or that memory ran out
abbrev pub TextReturns : Result Packet PacketError → Result Packet PacketError → Type 0
TextReturns result answer = result ≢ Err NoMemory → result ≡ answer

-- no name of a field but the tag has a comma
abbrev pub HasNoComma : FieldTable → Type 0
HasNoComma fields = (f : ℕ) → f < length fields.maxima → is_tag fields f ≡ false → All (λ b. b ≢ 44) (name_of fields f)

-- what is printed of a packet without the tag is read as the packet with tag 0
abbrev pub ReadsPrinted : Type 0
ReadsPrinted = (fields : FieldTable) (pk : List ℕ) → IsFieldTable fields → All (λ m. m < 2 ^ 64) fields.maxima → HasNoComma fields
    → IsPacket fields pk → packet_of fields (packet_bytes fields false pk) ≡ Ok (erased fields pk)
