-- What the words of the command line ask for.
use Rattle.std.specs.Prelude.{◌≡◌, ℕ, Bool, true, false, ◌&&◌, List, [], ◌∷◌, ◌++◌, ◌==◌, length, map, Option, Some, None, option_map, if◌then◌else◌, codes, bytes_eq}
use Rattle.std.specs.List.{list_all}
use Rattle.nk_lex.specs.Classes.{is_name_byte, is_name_start}
use Rattle.nk_notation.specs.declared.outward.Form.{Form}
use Rattle.nk_notation.specs.declared.outward.Form.TheVariants as form
use Rattle.nk_notation.specs.declared.words.Asked.{Asked}
use Rattle.nk_notation.specs.declared.words.Asked.TheVariants as asked
use Rattle.nk_number_forms.specs.Forms.{before_first, after_first, first_byte}
use Rattle.nk_notation.specs.Inward.{small_size}
use Rattle.nk_notation.specs.Outward.{NamedForms, named_form}

-- a translation: of addresses into numbers, or of the values of these fields into addresses
pub data Direction : Type 0 where
  inwards : Direction
  outwards : NamedForms → Direction

-- a kind of small numbers, which are written in decimal digits
unfoldable pub decimal_form : List ℕ → Option Form
decimal_form w = if bytes_eq w (codes "port") then Some form.Decimal else option_map (λ n. form.Decimal) (small_size w)

-- the form of a kind of field, by the word for the kind
unfoldable pub form_of_kind : List ℕ → Option Form
form_of_kind w = if bytes_eq w (codes "ipv4") then Some form.Address
    else if bytes_eq w (codes "mac") then Some form.HardwareAddress
    else if bytes_eq w (codes "ethertype") then Some form.Hexadecimal
    else decimal_form w

-- a letter or `_`, and then letters, digits and `_`
unfoldable pub is_name : List ℕ → Bool
is_name w = is_name_start (first_byte w) && list_all is_name_byte w

-- the field and the form that a word `NAME=KIND` names
unfoldable pub field_of : List ℕ → Option (List ℕ × Form)
field_of w = if is_name (before_first 61 w) then option_map (λ f. (before_first 61 w, f)) (form_of_kind (after_first 61 w)) else None

unfoldable pub joined_field : Option (List ℕ × Form) → Option NamedForms → Option NamedForms
joined_field None fs = None
joined_field (Some f) None = None
joined_field (Some f) (Some fs) = Some (f ∷ fs)

-- the fields that all words name
unfoldable pub fields_of : List (List ℕ) → Option NamedForms
fields_of [] = Some []
fields_of (w ∷ ws) = joined_field (field_of w) (fields_of ws)

unfoldable pub outwards_of : Option NamedForms → Option Direction
outwards_of None = None
outwards_of (Some fs) = Some (outwards fs)

-- `in` alone, or `out` and at least one field
unfoldable pub direction_by : List ℕ → List (List ℕ) → Option Direction
direction_by first ws =
    if length ws == 0 then (if bytes_eq first (codes "in") then Some inwards else None)
    else if bytes_eq first (codes "out") then outwards_of (fields_of ws)
    else None

-- the translation that the words ask for
unfoldable pub direction_of : List (List ℕ) → Option Direction
direction_of [] = None
direction_of (first ∷ ws) = direction_by first ws

-- the translation that was read from the words
unfoldable pub direction_in : Asked → Option Direction
direction_in asked.In = Some inwards
direction_in (asked.Out fields) = Some (outwards (map named_form fields.items))
direction_in asked.Usage = None

-- these fields, and then those
unfoldable pub with_fields : NamedForms → Option NamedForms → Option NamedForms
with_fields before_first None = None
with_fields before_first (Some fs) = Some (before_first ++ fs)

-- the field that a word names was put at the end, where it names one
unfoldable pub IsPushed : Bool → (old new : NamedForms) → Option (List ℕ × Form) → Type 0
IsPushed false old new None = Unit {0}
IsPushed true old new (Some f) = new ≡ old ++ f ∷ []
IsPushed pushed old new f = ⊥
