-- Numbers become addresses.
use Rattle.std.specs.Prelude.{◌≡◌, refl, map, ℕ, zero, suc, ◌+◌, ◌-◌, ◌==◌, Bool, false, not, ◌&&◌, List, [], ◌∷◌, ◌++◌, length, take, drop, Option, Some, None, if◌then◌else◌, nat_lt, decimal, codes, bytes_eq}
use Rattle.nk_lex.specs.Lex.{largest}
use Rattle.nk_notation.specs.declared.context.TextKind.{TextKind}
use Rattle.nk_notation.specs.declared.outward.Form.{Form}
use Rattle.nk_notation.specs.declared.outward.Form.TheVariants as form
use Rattle.nk_notation.specs.declared.outward.NamedField.{NamedField}
use Rattle.nk_notation.specs.declared.outward.Spot.{Spot}
use Rattle.nk_notation.specs.declared.outward.Spot.TheVariants as spot
use Rattle.nk_number_forms.specs.Forms.{address_text, before_first, after_first, address_block_size, first_byte, hardware_text, has_dots, has_ones_after, hexadecimal_text, last_byte, first_place, place_of_dots}
use Rattle.nk_notation.specs.Inward.{is_tables, kind_after, kind_beyond}
use Rattle.nk_notation.specs.Lexemes.{TextLexeme, Word, Byte, Note}
use Rattle.nk_number_forms.specs.Numbers.{number_within}
use Rattle.nk_notation.specs.Translation.{Translated, then_rest}

-- the largest value that a form writes
unfoldable pub largest_in_form : Form → ℕ
largest_in_form form.Address = 4294967295
largest_in_form form.HardwareAddress = largest
largest_in_form form.Hexadecimal = 65535
largest_in_form form.Decimal = largest

-- a value in a form
unfoldable pub form_text : Form → ℕ → List ℕ
form_text form.Address n = address_text n
form_text form.HardwareAddress n = hardware_text n
form_text form.Hexadecimal n = hexadecimal_text n
form_text form.Decimal n = decimal n

-- the fields that are named, each with its form
abbrev pub NamedForms : Type 0
NamedForms = List (List ℕ × Form)

abbrev pub named_form : NamedField → List ℕ × Form
named_form f = (f.name.items, f.form)

-- the form of the field of this name, where one has it; the first one counts
unfoldable pub form_of : NamedForms → List ℕ → Option Form
form_of [] name = None
form_of (f ∷ fs) name = if bytes_eq name f.0 then Some f.1 else form_of fs name

unfoldable pub text_or : Form → List ℕ → Option ℕ → List ℕ
text_or f w None = w
text_or f w (Some n) = form_text f n

-- a number in a form; what isn't the decimal text of a number that the form writes stays
unfoldable pub number_out : Form → List ℕ → List ℕ
number_out f w = text_or f w (number_within (largest_in_form f) w)

-- The address of a prefix with a length. With ones after the length it is no prefix, and stays.
unfoldable pub address_out : (a : List ℕ) → Option ℕ → Option ℕ → List ℕ
address_out a (Some n) (Some k) = if has_ones_after n k then a else address_text n
address_out a n k = a

-- The number of a prefix with a length. Without a length it stays.
unfoldable pub measured_out : Form → (a : List ℕ) → Option ℕ → List ℕ
measured_out f a None = a
measured_out f a (Some k) = number_out f a

-- The number before the `/` of a table text's prefix. A field has at most 48 binary digits.
unfoldable pub prefix_out : Form → (a l : List ℕ) → List ℕ
prefix_out form.Address a l = address_out a (number_within 4294967295 a) (number_within 32 l)
prefix_out f a l = measured_out f a (number_within 48 l)

-- a value that is tested for
unfoldable pub value_out : (tables : Bool) → Form → List ℕ → List ℕ
value_out tables f w =
    if tables && nat_lt (first_place 47 w) (length w) then prefix_out f (before_first 47 w) (after_first 47 w) ++ 47 ∷ after_first 47 w
    else number_out f w

-- the addresses from x to y are those whose first k binary digits are those of x
abbrev pub is_block : (x y k : ℕ) → Bool
is_block x y k = (y + 1 == x + address_block_size k) && not (has_ones_after x k)

-- the largest k below a number for which they are
unfoldable pub length_below : ℕ → (x y : ℕ) → Option ℕ
length_below zero x y = None
length_below (suc k) x y = if is_block x y k then Some k else length_below k x y

-- the length of the prefix that a range is, where it is one; a table text has no ranges
unfoldable pub length_of : (tables : Bool) → Form → (x y : ℕ) → Option ℕ
length_of false form.Address x y = length_below 33 x y
length_of tables f x y = None

-- a range, after the name of its field
unfoldable pub interval_out : Form → (x y : ℕ) → Option ℕ → List ℕ
interval_out f x y (Some k) = codes "=" ++ address_text x ++ codes "/" ++ decimal k
interval_out f x y None = codes " in " ++ form_text f x ++ codes ".." ++ form_text f y

unfoldable pub ends_out : (tables : Bool) → Form → List ℕ → Option ℕ → Option ℕ → List ℕ
ends_out tables f w (Some x) (Some y) = interval_out f x y (length_of tables f x y)
ends_out tables f w x y = codes " in " ++ w

-- what stands after ` in ` and a field's name, with the ` in `
unfoldable pub range_out : (tables : Bool) → Form → List ℕ → List ℕ
range_out tables f w =
    if has_dots w then ends_out tables f w (number_within (largest_in_form f) (take (place_of_dots w) w))
    (number_within (largest_in_form f) (drop (place_of_dots w + 2) w))
    else codes " in " ++ w

-- the bytes after a field's name that are not written yet
unfoldable pub held : Spot → List ℕ
held (spot.Blank f) = codes " "
held (spot.In f) = codes " in"
held (spot.Range f) = codes " in "
held s = []

-- a word, with the bytes that were held before it
unfoldable pub word_out : (tables : Bool) → Spot → List ℕ → List ℕ
word_out tables (spot.Name f) w = if first_byte w == 61 then codes "=" ++ value_out tables f (drop 1 w) else w
word_out tables (spot.Assigned f) w = if first_byte w == 61 then codes "=" ++ number_out f (drop 1 w) else w
word_out tables (spot.Blank f) w = if bytes_eq w (codes "in") then [] else codes " " ++ w
word_out tables (spot.Range f) w = range_out tables f w
word_out tables s w = held s ++ w

-- a byte outside words, with the bytes that were held before it
unfoldable pub byte_out : Spot → ℕ → List ℕ
byte_out (spot.Name f) b = if b == 32 then [] else b ∷ []
byte_out (spot.In f) b = if b == 32 then [] else codes " in" ++ b ∷ []
byte_out s b = held s ++ b ∷ []

unfoldable pub assigned_spot : Option Form → Spot
assigned_spot None = spot.Nothing
assigned_spot (Some f) = spot.Assigned f

unfoldable pub name_spot : Option Form → Spot
name_spot None = spot.Nothing
name_spot (Some f) = spot.Name f

-- the spot after a word that may be a field's name, or one with the colon of `:=`
unfoldable pub named_spot : NamedForms → List ℕ → Spot
named_spot fields w =
    if last_byte w == 58 then assigned_spot (form_of fields (take (length w - 1) w)) else name_spot (form_of fields w)

-- the spot after a word
unfoldable pub spot_after : NamedForms → Spot → List ℕ → Spot
spot_after fields (spot.Blank f) w = if bytes_eq w (codes "in") then spot.In f else named_spot fields w
spot_after fields s w = named_spot fields w

-- the spot after a byte outside words
unfoldable pub spot_beyond : Spot → ℕ → Spot
spot_beyond (spot.Name f) b = if b == 32 then spot.Blank f else spot.Nothing
spot_beyond (spot.In f) b = if b == 32 then spot.Range f else spot.Nothing
spot_beyond s b = spot.Nothing

-- what the lexemes come to
abbrev pub outward : NamedForms → TextKind → Spot → List TextLexeme → Translated
outward fields kind s [] = record { bytes = held s; fault = None }
outward fields kind s (Word w ∷ ls) =
    then_rest (word_out (is_tables kind) s w) (outward fields (kind_after kind w) (spot_after fields s w) ls)
outward fields kind s (Byte b ∷ ls) = then_rest (byte_out s b) (outward fields (kind_beyond kind b) (spot_beyond s b) ls)
outward fields kind s (Note b ∷ ls) = then_rest (held s ++ b ∷ []) (outward fields kind spot.Nothing ls)

-- bytes outside words are never refused
pub outward_bytes_sound : (fields : NamedForms) (kind : TextKind) (s : Spot) (bs : List ℕ) → (outward fields kind s (map Byte bs)).fault ≡ None
outward_bytes_sound fields kind s [] = refl
outward_bytes_sound fields kind s (b ∷ bs) = outward_bytes_sound fields (kind_beyond kind b) (spot_beyond s b) bs
