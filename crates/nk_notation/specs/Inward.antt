-- Addresses become numbers.
use Rattle.std.specs.Prelude.{◌≡◌, refl, map, ℕ, ◌+◌, ◌-◌, ◌==◌, Bool, true, false, not, ◌||◌, List, [], ◌∷◌, ◌++◌, length, take, drop, Option, Some, None, Ok, Err, if◌then◌else◌, nat_lt, decimal, codes, bytes_eq}
use Rattle.std.specs.declared.result.Result.{Result}
use Rattle.nk_io.specs.Faults.{next}
use Rattle.nk_lex.specs.Classes.{is_white}
use Rattle.nk_number_forms.specs.declared.forms.Atom.{Atom}
use Rattle.nk_number_forms.specs.declared.forms.Atom.TheVariants as atom
use Rattle.nk_number_forms.specs.declared.fault.Cause.{Cause}
use Rattle.nk_number_forms.specs.declared.fault.Cause.TheVariants as cause
use Rattle.nk_notation.specs.declared.context.TextKind.{TextKind}
use Rattle.nk_notation.specs.declared.context.TextKind.TheVariants as text
use Rattle.nk_notation.specs.declared.inward.Place.{Place}
use Rattle.nk_notation.specs.declared.inward.Place.TheVariants as place
use Rattle.nk_notation.specs.declared.inward.Inward.{Inward}
use Rattle.nk_number_forms.specs.Forms.{address_of, atom_of, before_first, after_first, address_block_size, has_dots, has_ones_after, is_dotted, last_byte, first_byte, first_place, place_of_dots}
use Rattle.nk_notation.specs.Lexemes.{TextLexeme, Word, Byte, Note}
use Rattle.nk_number_forms.specs.Numbers.{number_within}
use Rattle.nk_notation.specs.Translation.{Translated, faulty, nothing, then_rest}

-- the largest value of a field of a kind of fewer than 16 binary digits, by the word for the kind
unfoldable pub small_size : List ℕ → Option ℕ
small_size w = if bytes_eq w (codes "vlan") then Some 4095
    else if bytes_eq w (codes "byte") then Some 255
    else if bytes_eq w (codes "bit") then Some 1
    else None

-- and of any kind
unfoldable pub size_of_kind : List ℕ → Option ℕ
size_of_kind w = if bytes_eq w (codes "ipv4") then Some 4294967295
    else if bytes_eq w (codes "mac") then Some 281474976710655
    else if bytes_eq w (codes "ethertype") || bytes_eq w (codes "port") then Some 65535
    else small_size w

-- what an atom is written as
unfoldable pub spelled : Atom → List ℕ → List ℕ
spelled (atom.Number n) w = decimal n
spelled a w = w

-- two atoms that are written so, with these bytes before them and between them
unfoldable pub both_atoms : (lead : List ℕ) → Atom → List ℕ → (between : List ℕ) → Atom → List ℕ → Result (List ℕ) Cause
both_atoms lead (atom.Faulty c) v between b w = Err c
both_atoms lead atom.Kept v between (atom.Faulty c) w = Err c
both_atoms lead (atom.Number n) v between (atom.Faulty c) w = Err c
both_atoms lead a v between b w = Ok (lead ++ spelled a v ++ between ++ spelled b w)

-- `A..B`, with these bytes before it: each of both is written as a number. With a further `..` it is no form.
unfoldable pub range_in : (lead run : List ℕ) → Result (List ℕ) Cause
range_in lead run =
    let a = take (place_of_dots run) run in
    let b = drop (place_of_dots run + 2) run in
    if has_dots b then Ok (lead ++ run) else both_atoms lead (atom_of a) a (codes "..") (atom_of b) b

-- An address n with the length k of a prefix, written so. In a table text it stays a prefix. Elsewhere, where it is tested for by
-- `=`, it becomes the range of its addresses.
unfoldable pub prefix_in : (tables tests : Bool) (lead length : List ℕ) → ℕ → ℕ → Result (List ℕ) Cause
prefix_in tables tests lead l n k =
    if has_ones_after n k then Err cause.Ones
    else if tables then Ok (lead ++ decimal n ++ codes "/" ++ l)
    else if tests then Ok (codes " in " ++ decimal n ++ codes ".." ++ decimal (n + (address_block_size k - 1)))
    else Err cause.Untested

unfoldable pub prefix_with : (tables tests : Bool) (lead length : List ℕ) → Option ℕ → Option ℕ → Result (List ℕ) Cause
prefix_with tables tests lead l None k = Err cause.Address
prefix_with tables tests lead l (Some n) None = Err cause.Length
prefix_with tables tests lead l (Some n) (Some k) = prefix_in tables tests lead l n k

-- `A/L`, with these bytes before it
unfoldable pub slash_in : (tables tests : Bool) (lead run : List ℕ) → Result (List ℕ) Cause
slash_in tables tests lead run =
    let a = before_first 47 run in
    let l = after_first 47 run in
    if is_dotted a then prefix_with tables tests lead l (address_of a) (number_within 32 l)
    else both_atoms lead (atom_of a) a (codes "/") atom.Kept l

-- a run of bytes, with these bytes before it
unfoldable pub run_in : (tables tests : Bool) (lead run : List ℕ) → Result (List ℕ) Cause
run_in tables tests lead run =
    if has_dots run then range_in lead run
    else if nat_lt (first_place 47 run) (length run) then slash_in tables tests lead run
    else both_atoms lead (atom_of run) run [] atom.Kept []

-- the kind of a text, once a word of it was read: a table text is one whose first word is `tables`
unfoldable pub kind_after : TextKind → List ℕ → TextKind
kind_after text.Unknown w = if bytes_eq w (codes "tables") then text.Tables else text.Other
kind_after k w = k

-- once a byte outside words was read
unfoldable pub kind_beyond : TextKind → ℕ → TextKind
kind_beyond text.Unknown b = if is_white b then text.Unknown else text.Other
kind_beyond k b = k

unfoldable pub is_tables : TextKind → Bool
is_tables text.Tables = true
is_tables k = false

-- a name right after the word `field` is that of a field
unfoldable pub name_place : Place → List ℕ → Place
name_place place.Field w = if first_byte w == 61 then place.Elsewhere else place.Name
name_place p w = place.Elsewhere

-- the place after a word: after `field`, or after that and a name
unfoldable pub place_after : Place → List ℕ → Place
place_after p w = if bytes_eq w (codes "field") then place.Field else name_place p w

abbrev pub is_size_place : Place → Bool
is_size_place place.Name = true
is_size_place p = false

-- the size of a kind of field, where a size is due
unfoldable pub size_at : Place → List ℕ → Option ℕ
size_at place.Name w = size_of_kind w
size_at p w = None

-- what a word is written as where no size is due: an `=` before the run tests, unless it belongs to `:=`
unfoldable pub plain_in : Inward → List ℕ → Result (List ℕ) Cause
plain_in r w =
    if first_byte w == 61 then run_in (is_tables r.kind) (not (r.last == 58)) (codes "=") (drop 1 w)
    else run_in (is_tables r.kind) false [] w

abbrev pub sized_in : Option ℕ → Result (List ℕ) Cause → Result (List ℕ) Cause
sized_in None said = said
sized_in (Some n) said = Ok (decimal n)

-- what a word is written as, or why it is refused
unfoldable pub word_in : Inward → List ℕ → Result (List ℕ) Cause
word_in r w = sized_in (size_at r.place w) (plain_in r w)

-- before the first byte of a text
abbrev pub text_start : Inward
text_start = record { line = 1; kind = text.Unknown; place = place.Elsewhere; last = 0 }

-- what is known after a word
unfoldable pub after_word : Inward → List ℕ → Inward
after_word r w = record { line = r.line; kind = kind_after r.kind w; place = place_after r.place w; last = last_byte w }

-- and after a byte outside words
unfoldable pub after_byte : Inward → ℕ → Inward
after_byte r b = record {
  line = if b == 10 then next r.line else r.line;
  kind = kind_beyond r.kind b;
  place = if is_white b then r.place else place.Elsewhere;
  last = b;
}

-- What a word comes to, with the rest: at a malformed word the text ends, with the word as it stands.
abbrev pub with_word : List ℕ → ℕ → Result (List ℕ) Cause → Translated → Translated
with_word w line (Ok text) rest = then_rest text rest
with_word w line (Err c) rest = faulty w (record { line = line; cause = c })

-- what the lexemes come to
abbrev pub inward : Inward → List TextLexeme → Translated
inward r [] = nothing
inward r (Word w ∷ ls) = with_word w r.line (word_in r w) (inward (after_word r w) ls)
inward r (Byte b ∷ ls) = then_rest (b ∷ []) (inward (after_byte r b) ls)
inward r (Note b ∷ ls) = then_rest (b ∷ []) (inward r ls)

-- bytes outside words are never refused
pub inward_bytes_sound : (r : Inward) (bs : List ℕ) → (inward r (map Byte bs)).fault ≡ None
inward_bytes_sound r [] = refl
inward_bytes_sound r (b ∷ bs) = inward_bytes_sound (after_byte r b) bs
