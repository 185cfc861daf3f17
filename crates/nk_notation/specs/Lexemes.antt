-- A text cut into words, single bytes and comments. A word is a run of the bytes of which names, numbers and addresses are made, as
-- long as it can be; an `=` right before the run belongs to it.
use Rattle.std.specs.Prelude.{ℕ, Bool, true, false, ◌==◌, ◌||◌, List, [], ◌∷◌, map, length, nat_lt, if◌then◌else◌, flat_map}
use Rattle.nk_lex.specs.Classes.{is_name_byte}

-- a word, a byte outside words, and a byte of a comment
pub data TextLexeme : Type 0 where
  Word : List ℕ → TextLexeme
  Byte : ℕ → TextLexeme
  Note : ℕ → TextLexeme

-- letters, digits, `_`, `.`, `:` and `/`
abbrev pub is_run_byte : ℕ → Bool
is_run_byte b = is_name_byte b || b == 46 || b == 58 || b == 47

-- a byte of a run, or the `=` before one
abbrev pub begins_word : ℕ → Bool
begins_word b = is_run_byte b || b == 61

-- The lexemes with one more byte of a word before them. The byte joins a word that follows at once, unless that word begins with
-- `=`.
abbrev pub joined_to_word : ℕ → List TextLexeme → List TextLexeme
joined_to_word b (Word (c ∷ w) ∷ ls) = if c == 61 then Word (b ∷ []) ∷ Word (c ∷ w) ∷ ls else Word (b ∷ c ∷ w) ∷ ls
joined_to_word b ls = Word (b ∷ []) ∷ ls

-- the words, bytes and comments of a text, which may begin within a comment
abbrev pub cut_text : Bool → List ℕ → List TextLexeme
cut_text noted [] = []
cut_text true (b ∷ bs) = if b == 10 then Byte b ∷ cut_text false bs else Note b ∷ cut_text true bs
cut_text false (b ∷ bs) = if b == 35 then Note b ∷ cut_text true bs
    else if begins_word b then joined_to_word b (cut_text false bs)
    else Byte b ∷ cut_text false bs

-- How many bytes a word has at most. A form may have more, since a hexadecimal number may have zeros in front; then it isn't read as one.
abbrev pub longest_word : ℕ
longest_word = 64

-- what is longer is no word: each of its bytes stands for itself
abbrev pub without_long : TextLexeme → List TextLexeme
without_long (Word w) = if nat_lt longest_word (length w) then map Byte w else Word w ∷ []
without_long l = l ∷ []

-- the lexemes of a text
abbrev pub lexemes_of : List ℕ → List TextLexeme
lexemes_of text = flat_map without_long (cut_text false text)
