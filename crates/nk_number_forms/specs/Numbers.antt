-- Numbers in decimal and hexadecimal digits.
use Rattle.std.specs.Prelude.{ℕ, ◌+◌, ◌-◌, ◌*◌, ◌/◌, ◌%◌, ◌==◌, Bool, not, ◌&&◌, ◌||◌, List, [], ◌∷◌, length, slice_index, Option, Some, None, if◌then◌else◌, fold, nat_lt, nat_le, decimal, bytes_eq}
use Rattle.std.specs.List.{list_all}
use Rattle.nk_lex.specs.Classes.{is_digit}
use Rattle.nk_lex.specs.Lex.{value_of}

-- the number of at most so much that is written so in decimal digits, without leading zeros
unfoldable pub number_within : ℕ → List ℕ → Option ℕ
number_within most w =
    if nat_le (value_of w) most && bytes_eq w (decimal (value_of w)) then Some (value_of w) else None

-- decimal digits, at least one, and no zero before others
unfoldable pub is_numeral : List ℕ → Bool
is_numeral w = not (length w == 0) && (length w == 1 || not (slice_index w 0 == 48)) && list_all is_digit w

-- 0 to 9, a to f and A to F
unfoldable pub is_hex : ℕ → Bool
is_hex b = is_digit b || (nat_le 97 b && nat_le b 102) || (nat_le 65 b && nat_le b 70)

-- the value of a hexadecimal digit
unfoldable pub hex_value : ℕ → ℕ
hex_value b = if is_digit b then b - 48 else if nat_le 97 b then b - 87 else b - 55

-- the number that hexadecimal digits write
unfoldable pub hex_number : List ℕ → ℕ
hex_number ds = fold (λ n d. n * 16 + hex_value d) 0 ds

-- the hexadecimal digit of a number below 16
unfoldable pub hex_digit : ℕ → ℕ
hex_digit n = if nat_lt n 10 then 48 + n else 87 + n

-- a byte in two hexadecimal digits
unfoldable pub pair_text : ℕ → List ℕ
pair_text n = hex_digit (n / 16) ∷ hex_digit (n % 16) ∷ []

-- the byte that two hexadecimal digits write
unfoldable pub hexadecimal_pair : List ℕ → Option ℕ
hexadecimal_pair (a ∷ b ∷ []) = if is_hex a && is_hex b then Some (hex_value a * 16 + hex_value b) else None
hexadecimal_pair w = None
