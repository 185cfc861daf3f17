-- A number among the words.
use Rattle.std.specs.Prelude.{ℕ, ◌&&◌, Bool, List, Option, Some, None, if◌then◌else◌, length, nat_lt, nat_le, option_and_then}
use Rattle.std.specs.Char.{is_ascii_digit}
use Rattle.std.specs.List.{list_all}
use Rattle.std.specs.Str.Parse.{digits_value}

-- the word is digits alone, one at least, and its value is at most this one
abbrev pub is_number_upto : ℕ → List ℕ → Bool
is_number_upto largest word =
    list_all is_ascii_digit word && (nat_lt 0 (length word) && nat_le (digits_value 10 word) largest)

-- the number that the word is
abbrev pub number_of_word : ℕ → List ℕ → Option ℕ
number_of_word largest word = if is_number_upto largest word then Some (digits_value 10 word) else None

-- the number that the word is, where it is at least this one
abbrev pub number_between : ℕ → ℕ → List ℕ → Option ℕ
number_between least largest word =
    option_and_then (λ n. if nat_le least n then Some n else None) (number_of_word largest word)
