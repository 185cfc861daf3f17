-- A text that is cut byte by byte: what is held, and the lexemes that are left.
use Rattle.std.specs.Prelude.{ℕ, Bool, true, false, ◌&&◌, List, [], ◌∷◌, ◌++◌, length, flat_map, if◌then◌else◌, nat_le, Ok, Err}
use Rattle.std.specs.declared.result.Result.{Result}
use Rattle.std.specs.List.{list_all}
use Rattle.nk_notation.specs.declared.cutter.Open.{Open}
use Rattle.nk_notation.specs.declared.cutter.Open.TheVariants as is_open
use Rattle.nk_notation.specs.Lexemes.{TextLexeme, Byte, begins_word, cut_text, is_run_byte, lexemes_of, longest_word, without_long}

-- the lexemes of bytes whose front goes on with a word that is too long
abbrev pub long_rest : List ℕ → List TextLexeme
long_rest [] = []
long_rest (b ∷ bs) = if is_run_byte b then Byte b ∷ long_rest bs else lexemes_of (b ∷ bs)

-- the lexemes that are left, of what is open with the bytes that are held, and the bytes to come
abbrev pub lexemes_left : Open → List ℕ → List ℕ → List TextLexeme
lexemes_left is_open.Between held more = lexemes_of more
lexemes_left is_open.Word held more = lexemes_of (held ++ more)
lexemes_left is_open.Long held more = long_rest more
lexemes_left is_open.Comment held more = flat_map without_long (cut_text true more)

-- the bytes begin as a word does and go on as one
abbrev pub is_word_front : List ℕ → Bool
is_word_front [] = false
is_word_front (b ∷ bs) = begins_word b && list_all is_run_byte bs

abbrev pub has_no_bytes : List ℕ → Bool
has_no_bytes [] = true
has_no_bytes (b ∷ bs) = false

-- what is held: bytes of a word, no more than one has
abbrev pub is_held : Open → List ℕ → Bool
is_held is_open.Word held = is_word_front held && nat_le (length held) longest_word
is_held o held = has_no_bytes held

-- how many bytes were taken; where the translation ended, nothing is left and it doesn't matter
abbrev pub count_taken : {E : Type 0} → Result ℕ E → ℕ
count_taken (Ok n) = n
count_taken (Err e) = 0
