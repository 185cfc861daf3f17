-- What `in` reads in bytes that are written word by word and byte by byte.
use Rattle.std.proofs.Common.{◌≡◌, ◌<◌, ◌≤◌, ◌==◌, ◌||◌, ℕ, Bool, true, false, cond, List, [], ◌∷◌, ◌++◌, length, map, refl, sym, ap, ◌∙◌}
use Rattle.std.proofs.lemmas.Bool.{false≢true, eqb-true}
use Rattle.std.specs.Prelude.{flat_map, None, Ok}
use Rattle.nk_lex.proofs.Digits.{StopsAt}
use Rattle.nk_notation.specs.declared.inward.Inward.{Inward}
use Rattle.nk_notation.specs.Inward.{after_byte, after_word, inward, with_word, word_in}
use Rattle.nk_notation.specs.Laws.{lexeme_bytes}
use Rattle.nk_notation.specs.Lexemes.{TextLexeme, Word, Byte, Note, begins_word, cut_text, is_run_byte, joined_to_word, longest_word, without_long}
use Rattle.nk_notation.specs.Translation.{then_rest}
use Rattle.nk_notation.proofs.Cuts.{IsWordFront, front_cut, long_word, short_word}
use Rattle.nk_notation.proofs.WrittenForms.{all_cons}

-- the lexemes that a text is cut into, before the words that are too long are taken apart; the text may begin within a comment
abbrev pub IsCut : Bool → List TextLexeme → Type 0
IsCut noted [] = Unit {0}
IsCut true (Word w ∷ ls) = ⊥
IsCut true (Byte b ∷ ls) = ((b == 10) ≡ true) × IsCut false ls
IsCut true (Note b ∷ ls) = ((b == 10) ≡ false) × IsCut true ls
IsCut false (Word w ∷ ls) = IsWordFront w × StopsAt is_run_byte (lexeme_bytes ls) × IsCut false ls
IsCut false (Byte b ∷ ls) = ((b == 35) ≡ false) × (begins_word b ≡ false) × IsCut false ls
IsCut false (Note b ∷ ls) = ((b == 35) ≡ true) × IsCut true ls

neither : (t u : Bool) → (t || u) ≡ false → t ≡ false
neither true u h = absurd (false≢true (sym h))
neither false u h = refl

the_first : (t u : Bool) → (t || u) ≡ true → u ≡ false → t ≡ true
the_first true u h e = refl
the_first false u h e = absurd (false≢true (sym e ∙ h))

-- what begins no word goes on with none
pub no_run : (b : ℕ) → begins_word b ≡ false → is_run_byte b ≡ false
no_run b h = neither (is_run_byte b) (b == 61) h

-- a byte that begins a word is one of a run, or `=`
pub run_begins : (b : ℕ) → begins_word b ≡ true → (b == 61) ≡ false → is_run_byte b ≡ true
run_begins b h e = the_first (is_run_byte b) (b == 61) h e

pub same_stops : (b n : ℕ) → (b == n) ≡ true → is_run_byte n ≡ false → is_run_byte b ≡ false
same_stops b n e h = ap is_run_byte (eqb-true b n e) ∙ h

joined_by : (b c : ℕ) (w : List ℕ) (ls : List TextLexeme) (t : Bool) → (c == 61) ≡ t → begins_word b ≡ true → IsCut false (Word (c ∷ w) ∷ ls)
    → IsCut false (cond t (Word (b ∷ []) ∷ Word (c ∷ w) ∷ ls) (Word (b ∷ c ∷ w) ∷ ls))
joined_by b c w ls true e g f = ((g, refl), same_stops c 61 e refl, f)
joined_by b c w ls false e g f = ((g, all_cons is_run_byte c w (run_begins c f.0.0 e) f.0.1), f.1, f.2)

joined_cut : (b : ℕ) (ls : List TextLexeme) → begins_word b ≡ true → IsCut false ls → IsCut false (joined_to_word b ls)
joined_cut b [] g f = ((g, refl), tt, tt)
joined_cut b (Word [] ∷ ls) g f = absurd f.0
joined_cut b (Word (c ∷ w) ∷ ls) g f = joined_by b c w ls (c == 61) refl g f
joined_cut b (Byte c ∷ ls) g f = ((g, refl), no_run c f.1, f)
joined_cut b (Note c ∷ ls) g f = ((g, refl), same_stops c 35 f.0 refl, f)

line_cut : (b : ℕ) (bs : List ℕ) (t : Bool) → (b == 10) ≡ t → IsCut false (cut_text false bs) → IsCut true (cut_text true bs)
    → IsCut true (cond t (Byte b ∷ cut_text false bs) (Note b ∷ cut_text true bs))
line_cut b bs true e f n = (e, f)
line_cut b bs false e f n = (e, n)

byte_cut : (b : ℕ) (bs : List ℕ) (t u : Bool) → (b == 35) ≡ t → begins_word b ≡ u → IsCut false (cut_text false bs) → IsCut true (cut_text true bs)
    → IsCut false (cond t (Note b ∷ cut_text true bs) (cond u (joined_to_word b (cut_text false bs)) (Byte b ∷ cut_text false bs)))
byte_cut b bs true u e g f n = (e, n)
byte_cut b bs false true e g f n = joined_cut b (cut_text false bs) g f
byte_cut b bs false false e g f n = (e, g, f)

-- each text is cut so
pub cut_is : (noted : Bool) (bs : List ℕ) → IsCut noted (cut_text noted bs)
cut_is noted [] = tt
cut_is true (b ∷ bs) = line_cut b bs (b == 10) refl (cut_is false bs) (cut_is true bs)
cut_is false (b ∷ bs) = byte_cut b bs (b == 35) (begins_word b) refl refl (cut_is false bs) (cut_is true bs)

-- `in` reads these bytes where others are written, from each place in a text of which this is known
abbrev pub Reads : Bool → (Inward → Type 0) → (written read : List ℕ) → Type 0
Reads noted C written read = (r : Inward) → C r → inward r (flat_map without_long (cut_text noted written)) ≡ record { bytes = read; fault = None }

pub reads_nothing : (noted : Bool) (C : Inward → Type 0) → Reads noted C [] []
reads_nothing noted C = λ r c. refl

-- `in` reads these bytes from the places of which more is known too
pub reads_under : (noted : Bool) (C D : Inward → Type 0) (written read : List ℕ) → ((r : Inward) → C r → D r) → Reads noted D written read → Reads noted C written read
reads_under noted C D written read on rest = λ r c. rest r (on r c)

-- a byte outside words
pub reads_byte : (C D : Inward → Type 0) (b : ℕ) (written read : List ℕ) → (b == 35) ≡ false → begins_word b ≡ false → ((r : Inward) → C r → D (after_byte r b))
    → Reads false D written read → Reads false C (b ∷ written) (b ∷ read)
reads_byte C D b written read hash begins on rest = λ r c.
    let all : List TextLexeme = cut_text false written in
    ap (λ t. inward r (flat_map without_long (cond t (Note b ∷ cut_text true written) (cond (begins_word b) (joined_to_word b all) (Byte b ∷ all))))) hash
    ∙ ap (λ t. inward r (flat_map without_long (cond t (joined_to_word b all) (Byte b ∷ all)))) begins
    ∙ ap (then_rest (b ∷ [])) (rest (after_byte r b) (on r c))

-- the byte at which a comment begins
pub reads_hash : (C : Inward → Type 0) (b : ℕ) (written read : List ℕ) → (b == 35) ≡ true → Reads true C written read → Reads false C (b ∷ written) (b ∷ read)
reads_hash C b written read hash rest = λ r c.
    let all : List TextLexeme = cut_text false written in
    ap (λ t. inward r (flat_map without_long (cond t (Note b ∷ cut_text true written) (cond (begins_word b) (joined_to_word b all) (Byte b ∷ all))))) hash
    ∙ ap (then_rest (b ∷ [])) (rest r c)

-- a byte of a comment
pub reads_note : (C : Inward → Type 0) (b : ℕ) (written read : List ℕ) → (b == 10) ≡ false → Reads true C written read → Reads true C (b ∷ written) (b ∷ read)
reads_note C b written read line rest = λ r c.
    ap (λ t. inward r (flat_map without_long (cond t (Byte b ∷ cut_text false written) (Note b ∷ cut_text true written)))) line
    ∙ ap (then_rest (b ∷ [])) (rest r c)

-- the byte at which it ends
pub reads_line : (C D : Inward → Type 0) (b : ℕ) (written read : List ℕ) → (b == 10) ≡ true → ((r : Inward) → C r → D (after_byte r b))
    → Reads false D written read → Reads true C (b ∷ written) (b ∷ read)
reads_line C D b written read line on rest = λ r c.
    ap (λ t. inward r (flat_map without_long (cond t (Byte b ∷ cut_text false written) (Note b ∷ cut_text true written)))) line
    ∙ ap (then_rest (b ∷ [])) (rest (after_byte r b) (on r c))

-- a word that is read as these bytes
pub reads_word : (C D : Inward → Type 0) (w v written read : List ℕ) → IsWordFront w → length w ≤ longest_word → StopsAt is_run_byte written
    → ((r : Inward) → C r → (word_in r w ≡ Ok v) × D (after_word r w))
    → Reads false D written read → Reads false C (w ++ written) (v ++ read)
reads_word C D w v written read front le stops on rest = λ r c.
    let h = on r c in
    ap (λ ls. inward r (flat_map without_long ls)) (front_cut w written front stops)
    ∙ ap (inward r) (short_word w (cut_text false written) le)
    ∙ ap (λ said. with_word w r.line said (inward (after_word r w) (flat_map without_long (cut_text false written)))) h.0
    ∙ ap (then_rest v) (rest (after_word r w) h.1)

-- what is known after bytes outside words
abbrev pub after_bytes : Inward → List ℕ → Inward
after_bytes r [] = r
after_bytes r (b ∷ w) = after_bytes (after_byte r b) w

pub inward_bytes : (r : Inward) (w : List ℕ) (ls : List TextLexeme) → inward r (map Byte w ++ ls) ≡ then_rest w (inward (after_bytes r w) ls)
inward_bytes r [] ls = refl
inward_bytes r (b ∷ w) ls = ap (then_rest (b ∷ [])) (inward_bytes (after_byte r b) w ls)

-- a word that is too long stays
pub reads_long : (C D : Inward → Type 0) (w written read : List ℕ) → IsWordFront w → longest_word < length w → StopsAt is_run_byte written
    → ((r : Inward) → C r → D (after_bytes r w))
    → Reads false D written read → Reads false C (w ++ written) (w ++ read)
reads_long C D w written read front lt stops on rest = λ r c.
    ap (λ ls. inward r (flat_map without_long ls)) (front_cut w written front stops)
    ∙ ap (inward r) (long_word w (cut_text false written) lt)
    ∙ inward_bytes r w (flat_map without_long (cut_text false written))
    ∙ ap (then_rest w) (rest (after_bytes r w) (on r c))
