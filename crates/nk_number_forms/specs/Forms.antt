-- The forms in which numbers are written. An IPv4 address and its prefixes are as RFC 6991 has them (`ipv4-address` and
-- `ipv4-prefix` of ietf-inet-types): four decimal octets without leading zeros, and a length from 0 to 32. A hardware address is as
-- RFC 6991 has it (`mac-address` of ietf-yang-types): six pairs of hexadecimal digits; the small letters are the canonical ones.
use Rattle.std.specs.Prelude.{ℕ, ◌+◌, ◌-◌, ◌*◌, ◌/◌, ◌%◌, ◌^◌, ◌==◌, Bool, not, ◌&&◌, ◌||◌, List, [], ◌∷◌, ◌++◌, length, take, drop, take_while, count_by, slice_index, Option, Some, None, option_and_then, if◌then◌else◌, nat_lt, nat_le, decimal}
use Rattle.std.specs.List.{list_all, list_any}
use Rattle.nk_lex.specs.Classes.{is_digit}
use Rattle.nk_lex.specs.Lex.{largest}
use Rattle.nk_number_forms.specs.Numbers.{number_within, is_hex, hex_number, hexadecimal_pair, pair_text}
use Rattle.nk_number_forms.specs.declared.forms.Atom.{Atom}
use Rattle.nk_number_forms.specs.declared.forms.Atom.TheVariants as atom
use Rattle.nk_number_forms.specs.declared.fault.Cause.{Cause}
use Rattle.nk_number_forms.specs.declared.fault.Cause.TheVariants as cause

infixl 10 ◌>>=◌
abbrev ◌>>=◌ : {A B : Type 0} → Option A → (A → Option B) → Option B
o >>= f = option_and_then f o

-- how many bytes stand before the first c, or in all
unfoldable pub first_place : ℕ → List ℕ → ℕ
first_place c w = length (take_while (λ b. not (b == c)) w)

-- the bytes before the first c, and those after it
unfoldable pub before_first : ℕ → List ℕ → List ℕ
before_first c w = take (first_place c w) w

unfoldable pub after_first : ℕ → List ℕ → List ℕ
after_first c w = drop (first_place c w + 1) w

-- the number of the IPv4 address that is written so, where it is one
unfoldable pub address_of : List ℕ → Option ℕ
address_of w = do
  a ← number_within 255 (before_first 46 w)
  b ← number_within 255 (before_first 46 (after_first 46 w))
  c ← number_within 255 (before_first 46 (after_first 46 (after_first 46 w)))
  d ← number_within 255 (after_first 46 (after_first 46 (after_first 46 w)))
  Some (a * 16777216 + b * 65536 + c * 256 + d)

-- how the IPv4 address of a number is written
abbrev pub address_text : ℕ → List ℕ
address_text n = decimal (n / 16777216) ++ 46 ∷ decimal (n / 65536 % 256) ++ 46 ∷ decimal (n / 256 % 256) ++ 46 ∷ decimal (n % 256)

-- the number of the three bytes of three pairs
unfoldable pub three_pairs : (a b c : List ℕ) → Option ℕ
three_pairs a b c = do
  x ← hexadecimal_pair a
  y ← hexadecimal_pair b
  z ← hexadecimal_pair c
  Some (x * 65536 + y * 256 + z)

-- the number of two halves of 24 binary digits
unfoldable pub combined : Option ℕ → Option ℕ → Option ℕ
combined None low = None
combined (Some h) None = None
combined (Some h) (Some l) = Some (h * 16777216 + l)

-- the number of the hardware address that is written so, where it is one
unfoldable pub hardware_of : List ℕ → Option ℕ
hardware_of w =
    let second = after_first 58 w in
    let third = after_first 58 second in
    let fourth = after_first 58 third in
    let fifth = after_first 58 fourth in
    combined (three_pairs (before_first 58 w) (before_first 58 second) (before_first 58 third))
    (three_pairs (before_first 58 fourth) (before_first 58 fifth) (after_first 58 fifth))

-- how the hardware address of a number is written
abbrev pub hardware_text : ℕ → List ℕ
hardware_text n =
    pair_text (n / 1099511627776) ++ 58 ∷ pair_text (n / 4294967296 % 256) ++ 58 ∷ pair_text (n / 16777216 % 256)
    ++ 58 ∷ pair_text (n / 65536 % 256) ++ 58 ∷ pair_text (n / 256 % 256) ++ 58 ∷ pair_text (n % 256)

-- how a number below 65536 is written in four hexadecimal digits
abbrev pub hexadecimal_text : ℕ → List ℕ
hexadecimal_text n = 48 ∷ 120 ∷ pair_text (n / 256) ++ pair_text (n % 256)

-- the first byte of a text and the last, 0 where there is none
unfoldable pub first_byte : List ℕ → ℕ
first_byte w = slice_index w 0

unfoldable pub last_byte : List ℕ → ℕ
last_byte w = slice_index w (length w - 1)

unfoldable pub is_digit_or_dot : ℕ → Bool
is_digit_or_dot b = is_digit b || b == 46

unfoldable pub is_hex_or_colon : ℕ → Bool
is_hex_or_colon b = is_hex b || b == 58

-- digits and dots, a dot among them and a digit at both ends: this is meant as an IPv4 address
unfoldable pub is_dotted : List ℕ → Bool
is_dotted w = list_all is_digit_or_dot w && list_any (λ b. b == 46) w && is_digit (first_byte w) && is_digit (last_byte w)

-- hexadecimal digits and colons, two colons among them and a digit at both ends: this is meant as a hardware address. The two ends
-- of a link have one colon each.
unfoldable pub is_coloned : List ℕ → Bool
is_coloned w = list_all is_hex_or_colon w && nat_lt 1 (count_by (λ b. b == 58) w) && is_hex (first_byte w) && is_hex (last_byte w)

-- `0x` at the front: this is meant as a hexadecimal number
unfoldable pub is_hexadecimal : List ℕ → Bool
is_hexadecimal w = (slice_index w 0 == 48) && (slice_index w 1 == 120)

-- the number, or the fault of what is no number
abbrev pub number_or : Cause → Option ℕ → Atom
number_or c None = atom.Faulty c
number_or c (Some n) = atom.Number n

-- the hexadecimal number with these digits after `0x`
unfoldable pub hexadecimal_of : List ℕ → Atom
hexadecimal_of ds =
    if length ds == 0 || not (list_all is_hex ds) then atom.Faulty cause.Hexadecimal
    else if nat_le (hex_number ds) largest then atom.Number (hex_number ds)
    else atom.Faulty cause.TooLarge

-- what a run of bytes without `..` and `/` is: the number that a form writes, a malformed one, or anything else, which is kept
unfoldable pub atom_of : List ℕ → Atom
atom_of w =
    if is_dotted w then number_or cause.Address (address_of w)
    else if is_coloned w then number_or cause.HardwareAddress (hardware_of w)
    else if is_hexadecimal w then hexadecimal_of (drop 2 w)
    else atom.Kept

-- how many addresses have the same first k of 32 binary digits
abbrev pub address_block_size : ℕ → ℕ
address_block_size k = 2 ^ (32 - k)

-- an address has ones after its first k binary digits
abbrev pub has_ones_after : (n k : ℕ) → Bool
has_ones_after n k = not (n % address_block_size k == 0)

-- how many bytes stand before the first `..`, or in all
unfoldable pub place_of_dots : List ℕ → ℕ
place_of_dots [] = 0
place_of_dots (a ∷ w) = if a == 46 && (first_byte w == 46) then 0 else place_of_dots w + 1

-- a `..` stands in it
abbrev pub has_dots : List ℕ → Bool
has_dots w = nat_lt (place_of_dots w) (length w)
