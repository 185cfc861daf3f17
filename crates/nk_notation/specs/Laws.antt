-- What holds of every text.
use Rattle.std.specs.Prelude.{◌≡◌, ◌<◌, ◌≤◌, ◌+◌, ◌-◌, ◌^◌, ℕ, Bool, true, false, List, [], ◌∷◌, ◌++◌, None, Some, Ok, codes, decimal}
use Rattle.nk_notation.specs.declared.inward.Inward.{Inward}
use Rattle.nk_notation.specs.Answer.{inward_text}
use Rattle.nk_number_forms.specs.Forms.{address_block_size, address_of, address_text, has_ones_after}
use Rattle.nk_notation.specs.declared.outward.Form.{Form}
use Rattle.nk_notation.specs.Inward.{after_byte, after_word, run_in, text_start, word_in}
use Rattle.nk_notation.specs.Lexemes.{TextLexeme, Word, Byte, Note, lexemes_of}
use Rattle.nk_notation.specs.Outward.{form_text, largest_in_form, number_out}

-- the bytes of lexemes
abbrev pub lexeme_bytes : List TextLexeme → List ℕ
lexeme_bytes [] = []
lexeme_bytes (Word w ∷ ls) = w ++ lexeme_bytes ls
lexeme_bytes (Byte b ∷ ls) = b ∷ lexeme_bytes ls
lexeme_bytes (Note b ∷ ls) = b ∷ lexeme_bytes ls

-- each word is none of the forms: it is written as it stands
abbrev pub AllKept : Inward → List TextLexeme → Type 0
AllKept r [] = Unit {0}
AllKept r (Word w ∷ ls) = (word_in r w ≡ Ok w) × AllKept (after_word r w) ls
AllKept r (Byte b ∷ ls) = AllKept (after_byte r b) ls
AllKept r (Note b ∷ ls) = AllKept r ls

-- the lexemes of a text are its bytes, none lost and none more
abbrev pub LexemesAreTheText : Type 0
LexemesAreTheText = (text : List ℕ) → lexeme_bytes (lexemes_of text) ≡ text

-- a text without any of the forms stays as it is
abbrev pub TextsWithoutFormsStay : Type 0
TextsWithoutFormsStay = (text : List ℕ) → AllKept text_start (lexemes_of text) → inward_text text ≡ record { bytes = text; fault = None }

-- the address that a number is written as is read as the number
abbrev pub AddressesAreReadBack : Type 0
AddressesAreReadBack = (n : ℕ) → n < 2 ^ 32 → address_of (address_text n) ≡ Some n

-- a value in the form of its kind is read as the value, whatever stands before it
abbrev pub ValuesAreReadBack : Type 0
ValuesAreReadBack = (f : Form) (n : ℕ) → n ≤ largest_in_form f → (tables tests : Bool) (lead : List ℕ)
    → run_in tables tests lead (form_text f n) ≡ Ok (lead ++ decimal n)

-- so is a range
abbrev pub RangesAreReadBack : Type 0
RangesAreReadBack = (f : Form) (x y : ℕ) → x ≤ largest_in_form f → y ≤ largest_in_form f → (tables tests : Bool) (lead : List ℕ)
    → run_in tables tests lead (form_text f x ++ codes ".." ++ form_text f y) ≡ Ok (lead ++ decimal x ++ codes ".." ++ decimal y)

-- A prefix that is tested for is read as the range of its addresses. In a table text it is read as a prefix.
abbrev pub PrefixesAreReadBack : Type 0
PrefixesAreReadBack = (n k : ℕ) → n < 2 ^ 32 → k ≤ 32 → has_ones_after n k ≡ false → (tests : Bool) (lead : List ℕ)
    → (run_in false true lead (address_text n ++ codes "/" ++ decimal k) ≡ Ok (codes " in " ++ decimal n ++ codes ".." ++ decimal (n + (address_block_size k - 1))))
    × (run_in true tests lead (address_text n ++ codes "/" ++ decimal k) ≡ Ok (lead ++ decimal n ++ codes "/" ++ decimal k))

-- a number that `in` leaves as it is comes back as it was from the form that `out` writes it in
abbrev pub NumbersComeBack : Type 0
NumbersComeBack = (f : Form) (w : List ℕ) (tables tests : Bool) (lead : List ℕ) → run_in tables tests lead w ≡ Ok (lead ++ w)
    → run_in tables tests lead (number_out f w) ≡ Ok (lead ++ w)
