-- How a text is cut where a word begins it.
use Rattle.std.proofs.Common.{◌≡◌, ◌<◌, ◌≤◌, ◌==◌, ◌&&◌, ◌||◌, ℕ, Bool, true, false, cond, List, [], ◌∷◌, ◌++◌, length, map, refl, sym, ap, subst, ◌∙◌, arith, append_assoc, length-append}
use Rattle.std.proofs.lemmas.Bool.{false≢true}
use Rattle.std.proofs.lemmas.Bool.Decides.{nat_tests}
use Rattle.std.proofs.lemmas.List.{map-append}
use Rattle.std.proofs.lemmas.List.Folds.{list_all-append}
use Rattle.std.specs.Prelude.{flat_map, nat_le, nat_lt}
use Rattle.std.specs.List.{list_all}
use Rattle.nk_lex.proofs.Digits.{StopsAt, both_pass}
use Rattle.std.specs.Prelude.{Ok, Err}
use Rattle.std.specs.declared.result.Result.{Result}
use Rattle.nk_notation.specs.Cutting.{has_no_bytes, is_held, is_word_front, long_rest}
use Rattle.nk_notation.specs.Translation.{TranslationGoesOn, Translated, then_rest}
use Rattle.nk_notation.specs.declared.cutter.Open.{Open}
use Rattle.nk_number_forms.specs.declared.fault.Stop.{Stop}
use Rattle.nk_number_forms.specs.declared.fault.Stop.TheVariants as stop
use Rattle.nk_notation.specs.declared.cutter.Open.TheVariants as is_open
use Rattle.nk_notation.specs.Lexemes.{TextLexeme, Word, Byte, Note, begins_word, cut_text, is_run_byte, joined_to_word, lexemes_of, longest_word, without_long}

-- the bytes begin as a word does and go on as one
abbrev pub IsWordFront : List ℕ → Type 0
IsWordFront [] = ⊥
IsWordFront (b ∷ bs) = (begins_word b ≡ true) × (list_all is_run_byte bs ≡ true)

front_is : (w : List ℕ) → is_word_front w ≡ true → IsWordFront w
front_is [] e = absurd (false≢true e)
front_is (b ∷ bs) e = both_pass (begins_word b) (list_all is_run_byte bs) e

-- what is held of a word
pub held_word : (w : List ℕ) → is_held is_open.Word w ≡ true → IsWordFront w × (length w ≤ longest_word)
held_word w e =
    let parts = both_pass (is_word_front w) (nat_le (length w) longest_word) e in
    let le : nat_le (length w) longest_word ≡ true = parts.1 in
    (front_is w parts.0, grind (arith, nat_tests))

-- so it is where a word is open
pub open_word : (s : Open) (w : List ℕ) → s ≡ is_open.Word → is_held s w ≡ true → IsWordFront w × (length w ≤ longest_word)
open_word s w e h = held_word w (subst (λ o. is_held o w ≡ true) e h)

empty_is : (w : List ℕ) → has_no_bytes w ≡ true → w ≡ []
empty_is [] e = refl
empty_is (b ∷ bs) e = absurd (false≢true e)

-- nothing is held between words
pub nothing_held : (s : Open) (w : List ℕ) → s ≡ is_open.Between → is_held s w ≡ true → w ≡ []
nothing_held s w e h = empty_is w (subst (λ o. is_held o w ≡ true) e h)

-- the first byte of a word is held
pub begun : (w : List ℕ) (b : ℕ) → w ≡ b ∷ [] → begins_word b ≡ true → is_held is_open.Word w ≡ true
begun w b e begins = ap (is_held is_open.Word) e ∙ ap (λ t. (t && true) && true) begins

front_to : (w : List ℕ) → IsWordFront w → is_word_front w ≡ true
front_to [] f = absurd f
front_to (b ∷ bs) f = ap (λ t. t && list_all is_run_byte bs) f.0 ∙ ap (λ t. true && t) f.1

-- a test that passes at a byte and fails at a number tells both apart
pub not_that : (p : ℕ → Bool) (n b : ℕ) → p n ≡ false → p b ≡ true → (b == n) ≡ false
not_that p n b fails passes = let apart : b ≡ n → ⊥ = λ e. false≢true (sym fails ∙ ap p (sym e) ∙ passes) in grind (arith, nat_tests, apart)

-- the word that a byte begins
joined_word : (b : ℕ) (ls : List TextLexeme) → (w : List ℕ) × (rest : List TextLexeme) × (joined_to_word b ls ≡ Word (b ∷ w) ∷ rest)
joined_word b [] = ([], [], refl)
joined_word b (Word [] ∷ ls) = ([], Word [] ∷ ls, refl)
joined_word b (Word (c ∷ w) ∷ ls) =
    elim (c == 61) as (λ t. (v : List ℕ) × (rest : List TextLexeme) × (cond t (Word (b ∷ []) ∷ Word (c ∷ w) ∷ ls) (Word (b ∷ c ∷ w) ∷ ls) ≡ Word (b ∷ v) ∷ rest)) [
      | true ↦ ([], Word (c ∷ w) ∷ ls, refl)
      | false ↦ (c ∷ w, ls, refl)
    ]
joined_word b (Byte c ∷ ls) = ([], Byte c ∷ ls, refl)
joined_word b (Note c ∷ ls) = ([], Note c ∷ ls, refl)

-- a word that begins with `=` is joined to nothing before it
joined_equals : (x b : ℕ) (w : List ℕ) (ls : List TextLexeme) → (b == 61) ≡ true → joined_to_word x (Word (b ∷ w) ∷ ls) ≡ Word (x ∷ []) ∷ Word (b ∷ w) ∷ ls
joined_equals x b w ls e = ap (λ t. cond t (Word (x ∷ []) ∷ Word (b ∷ w) ∷ ls) (Word (x ∷ b ∷ w) ∷ ls)) e

-- any other is
joined_run : (x b : ℕ) (w : List ℕ) (ls : List TextLexeme) → (b == 61) ≡ false → joined_to_word x (Word (b ∷ w) ∷ ls) ≡ Word (x ∷ b ∷ w) ∷ ls
joined_run x b w ls e = ap (λ t. cond t (Word (x ∷ []) ∷ Word (b ∷ w) ∷ ls) (Word (x ∷ b ∷ w) ∷ ls)) e

-- a byte that begins a word
cut_begins : (b : ℕ) (bs : List ℕ) → begins_word b ≡ true → cut_text false (b ∷ bs) ≡ joined_to_word b (cut_text false bs)
cut_begins b bs h =
    ap (λ t. cond t (Note b ∷ cut_text true bs) (cond (begins_word b) (joined_to_word b (cut_text false bs)) (Byte b ∷ cut_text false bs))) (not_that begins_word 35 b refl h)
    ∙ ap (λ t. cond t (joined_to_word b (cut_text false bs)) (Byte b ∷ cut_text false bs)) h

-- what ends a run is not joined to it
apart_by : (x b : ℕ) (bs : List ℕ) (eq run noted : Bool) → (b == 61) ≡ eq → run ≡ false
    → joined_to_word x (cond noted (Note b ∷ cut_text true bs) (cond (run || eq) (joined_to_word b (cut_text false bs)) (Byte b ∷ cut_text false bs)))
    ≡ Word (x ∷ []) ∷ cond noted (Note b ∷ cut_text true bs) (cond (run || eq) (joined_to_word b (cut_text false bs)) (Byte b ∷ cut_text false bs))
apart_by x b bs eq run true e r = refl
apart_by x b bs eq true false e r = absurd (false≢true (sym r))
apart_by x b bs false false false e r = refl
apart_by x b bs true false false e r =
    let j = joined_word b (cut_text false bs) in
    ap (joined_to_word x) j.2 ∙ joined_equals x b j.0 j.1 e ∙ ap (λ l. Word (x ∷ []) ∷ l) (sym j.2)

ends_run : (x : ℕ) (rest : List ℕ) → StopsAt is_run_byte rest → joined_to_word x (cut_text false rest) ≡ Word (x ∷ []) ∷ cut_text false rest
ends_run x [] s = refl
ends_run x (b ∷ bs) s = apart_by x b bs (b == 61) (is_run_byte b) (b == 35) refl s

begins_by_run : (b : ℕ) → is_run_byte b ≡ true → begins_word b ≡ true
begins_by_run b h = ap (λ t. t || b == 61) h

-- a word at the front of a text
pub word_cut : (x : ℕ) (xs rest : List ℕ) → begins_word x ≡ true → list_all is_run_byte xs ≡ true → StopsAt is_run_byte rest
    → cut_text false (x ∷ xs ++ rest) ≡ Word (x ∷ xs) ∷ cut_text false rest
word_cut x [] rest begins all stops = cut_begins x rest begins ∙ ends_run x rest stops
word_cut x (y ∷ ys) rest begins all stops =
    let parts = both_pass (is_run_byte y) (list_all is_run_byte ys) all in
    cut_begins x (y ∷ ys ++ rest) begins
    ∙ ap (joined_to_word x) (word_cut y ys rest (begins_by_run y parts.0) parts.1 stops)
    ∙ joined_run x y ys (cut_text false rest) (not_that is_run_byte 61 y refl parts.0)

pub front_cut : (w rest : List ℕ) → IsWordFront w → StopsAt is_run_byte rest → cut_text false (w ++ rest) ≡ Word w ∷ cut_text false rest
front_cut [] rest front stops = absurd front
front_cut (x ∷ xs) rest front stops = word_cut x xs rest front.0 front.1 stops

-- a word that is short enough stays one
pub short_word : (w : List ℕ) (ls : List TextLexeme) → length w ≤ longest_word → flat_map without_long (Word w ∷ ls) ≡ Word w ∷ flat_map without_long ls
short_word w ls le =
    let e : nat_lt longest_word (length w) ≡ false = grind (arith, nat_tests) in
    ap (λ t. cond t (map Byte w) (Word w ∷ []) ++ flat_map without_long ls) e

-- a longer one is its bytes
pub long_word : (w : List ℕ) (ls : List TextLexeme) → longest_word < length w → flat_map without_long (Word w ∷ ls) ≡ map Byte w ++ flat_map without_long ls
long_word w ls lt =
    let e : nat_lt longest_word (length w) ≡ true = grind (arith, nat_tests) in
    ap (λ t. cond t (map Byte w) (Word w ∷ []) ++ flat_map without_long ls) e

-- the lexemes where a word ends
pub word_ends : (w : List ℕ) (b : ℕ) (more : List ℕ) → IsWordFront w → length w ≤ longest_word → is_run_byte b ≡ false
    → lexemes_of (w ++ b ∷ more) ≡ Word w ∷ lexemes_of (b ∷ more)
word_ends w b more front le stops =
    ap (flat_map without_long) (front_cut w (b ∷ more) front stops) ∙ short_word w (cut_text false (b ∷ more)) le

-- and where the text ends
pub text_ends : (w : List ℕ) → IsWordFront w → length w ≤ longest_word → lexemes_of (w ++ []) ≡ Word w ∷ []
text_ends w front le = ap (flat_map without_long) (front_cut w [] front tt) ∙ short_word w [] le

-- a word with one more byte
pub front_more : (w : List ℕ) (b : ℕ) → IsWordFront w → is_run_byte b ≡ true → IsWordFront (w ++ b ∷ [])
front_more [] b front run = absurd front
front_more (x ∷ xs) b front run =
    (front.0, list_all-append is_run_byte xs (b ∷ []) ∙ ap (λ t. t && list_all is_run_byte (b ∷ [])) front.1 ∙ ap (λ t. t && true) run)

-- the lexemes of a run that is too long
pub long_left : (w more : List ℕ) → IsWordFront w → longest_word < length w → lexemes_of (w ++ more) ≡ map Byte w ++ long_rest more
long_left w [] front lt = ap (flat_map without_long) (front_cut w [] front tt) ∙ long_word w [] lt
long_left w (b ∷ more) front lt =
    (elim (is_run_byte b) as (λ t. is_run_byte b ≡ t → lexemes_of (w ++ b ∷ more) ≡ map Byte w ++ cond t (Byte b ∷ long_rest more) (lexemes_of (b ∷ more))) [
      | false ↦ λ e. ap (flat_map without_long) (front_cut w (b ∷ more) front e) ∙ long_word w (cut_text false (b ∷ more)) lt
      | true ↦ λ e.
          ap lexemes_of (sym (append_assoc w (b ∷ []) more))
          ∙ long_left (w ++ b ∷ []) more (front_more w b front e) (omega (arith, length-append w (b ∷ [])))
          ∙ ap (λ l. l ++ long_rest more) (map-append Byte w (b ∷ []))
          ∙ append_assoc (map Byte w) (Byte b ∷ []) (long_rest more)
    ]) refl

-- one more byte of a word is held
pub held_more : (s : Open) (w v : List ℕ) (b : ℕ) → s ≡ is_open.Word → is_held s w ≡ true → v ≡ w ++ b ∷ [] → length w < longest_word
    → is_run_byte b ≡ true → is_held s v ≡ true
held_more s w v b e h is_more room run =
    let word = open_word s w e h in
    let fits : nat_le (length (w ++ b ∷ [])) longest_word ≡ true = grind (arith, nat_tests, length-append w (b ∷ [])) in
    subst (λ o. is_held o v ≡ true) (sym e)
    (ap (is_held is_open.Word) is_more
    ∙ ap (λ t. t && nat_le (length (w ++ b ∷ [])) longest_word) (front_to (w ++ b ∷ []) (front_more w b word.0 run))
    ∙ ap (λ t. true && t) fits)

-- so it is after a push that may fail
pub held_after : (ok : Bool) (s : Open) (w v : List ℕ) (b : ℕ) → s ≡ is_open.Word → is_held s w ≡ true → v ≡ cond ok (w ++ b ∷ []) w
    → length w < longest_word → is_run_byte b ≡ true → is_held s v ≡ true
held_after true s w v b e h is_more room run = held_more s w v b e h is_more room run
held_after false s w v b e h same room run = subst (λ l. is_held s l ≡ true) (sym same) h

-- two steps one after the other
pub two_steps : {X : Type 0} (r : Result X Stop) (whole mid rest : Translated) (old between new : List ℕ)
    → then_rest old whole ≡ then_rest between mid → TranslationGoesOn r mid rest between new → TranslationGoesOn r whole rest old new
two_steps (Ok x) whole mid rest old between new a b = a ∙ b
two_steps (Err (stop.Refused f)) whole mid rest old between new a b = a ∙ b
two_steps (Err stop.NoMemory) whole mid rest old between new a b = tt

-- where the translation ends, nothing is left
pub ended : (X : Type 0) (e : Stop) (whole rest other : Translated) (old new : List ℕ)
    → TranslationGoesOn {X = X} (Err e) whole rest old new → TranslationGoesOn {X = X} (Err e) whole other old new
ended X (stop.Refused f) whole rest other old new h = h
ended X stop.NoMemory whole rest other old new h = tt

-- a word ends, and what comes after it begins
pub word_passed : {X : Type 0} (r : Result X Stop) (made later : List TextLexeme → Translated) (w : List ℕ) (b : ℕ) (more : List ℕ) (rest : Translated) (old between new : List ℕ)
    → IsWordFront w × (length w ≤ longest_word) → is_run_byte b ≡ false
    → then_rest old (made (Word w ∷ lexemes_of (b ∷ more))) ≡ then_rest between (later (lexemes_of (b ∷ more)))
    → TranslationGoesOn r (later (lexemes_of (b ∷ more))) rest between new → TranslationGoesOn r (made (lexemes_of (w ++ b ∷ more))) rest old new
word_passed r made later w b more rest old between new held stops passed on =
    two_steps r (made (lexemes_of (w ++ b ∷ more))) (later (lexemes_of (b ∷ more))) rest old between new
    (ap (λ ls. then_rest old (made ls)) (word_ends w b more held.0 held.1 stops) ∙ passed) on

-- the translation ends at a word
pub word_stopped : (X : Type 0) (e : Stop) (made : List TextLexeme → Translated) (w : List ℕ) (b : ℕ) (more : List ℕ) (rest other : Translated) (old new : List ℕ)
    → IsWordFront w × (length w ≤ longest_word) → is_run_byte b ≡ false
    → TranslationGoesOn {X = X} (Err e) (made (Word w ∷ lexemes_of (b ∷ more))) rest old new
    → TranslationGoesOn {X = X} (Err e) (made (lexemes_of (w ++ b ∷ more))) other old new
word_stopped X e made w b more rest other old new held stops h =
    subst (λ ls. TranslationGoesOn {X = X} (Err e) (made ls) other old new) (sym (word_ends w b more held.0 held.1 stops))
    (ended X e (made (Word w ∷ lexemes_of (b ∷ more))) rest other old new h)

-- the lexemes of a word that is too long with one more byte
long_more : (w : List ℕ) (b : ℕ) (more : List ℕ) → IsWordFront w → longest_word ≤ length w → is_run_byte b ≡ true
    → lexemes_of (w ++ b ∷ more) ≡ map Byte w ++ (Byte b ∷ long_rest more)
long_more w b more front le run =
    ap lexemes_of (sym (append_assoc w (b ∷ []) more))
    ∙ long_left (w ++ b ∷ []) more (front_more w b front run) (omega (arith, length-append w (b ∷ [])))
    ∙ ap (λ l. l ++ long_rest more) (map-append Byte w (b ∷ []))
    ∙ append_assoc (map Byte w) (Byte b ∷ []) (long_rest more)

-- a word is too long
pub word_broken : {X : Type 0} (r : Result X Stop) (made later : List TextLexeme → Translated) (w : List ℕ) (b : ℕ) (more : List ℕ) (rest : Translated) (old between new : List ℕ)
    → IsWordFront w → longest_word ≤ length w → is_run_byte b ≡ true
    → then_rest old (made (map Byte w ++ (Byte b ∷ long_rest more))) ≡ then_rest between (later (Byte b ∷ long_rest more))
    → TranslationGoesOn r (later (Byte b ∷ long_rest more)) rest between new → TranslationGoesOn r (made (lexemes_of (w ++ b ∷ more))) rest old new
word_broken r made later w b more rest old between new front le run passed on =
    two_steps r (made (lexemes_of (w ++ b ∷ more))) (later (Byte b ∷ long_rest more)) rest old between new
    (ap (λ ls. then_rest old (made ls)) (long_more w b more front le run) ∙ passed) on

pub broken_stopped : (X : Type 0) (e : Stop) (made : List TextLexeme → Translated) (w : List ℕ) (b : ℕ) (more : List ℕ) (rest other : Translated) (old new : List ℕ)
    → IsWordFront w → longest_word ≤ length w → is_run_byte b ≡ true
    → TranslationGoesOn {X = X} (Err e) (made (map Byte w ++ (Byte b ∷ long_rest more))) rest old new
    → TranslationGoesOn {X = X} (Err e) (made (lexemes_of (w ++ b ∷ more))) other old new
broken_stopped X e made w b more rest other old new front le run h =
    subst (λ ls. TranslationGoesOn {X = X} (Err e) (made ls) other old new) (sym (long_more w b more front le run))
    (ended X e (made (map Byte w ++ (Byte b ∷ long_rest more))) rest other old new h)

-- the text ends at a word
pub last_word : {X : Type 0} (r : Result X Stop) (made later : List TextLexeme → Translated) (w : List ℕ) (rest : Translated) (old between new : List ℕ)
    → IsWordFront w × (length w ≤ longest_word)
    → then_rest old (made (Word w ∷ [])) ≡ then_rest between (later [])
    → TranslationGoesOn r (later []) rest between new → TranslationGoesOn r (made (lexemes_of (w ++ []))) rest old new
last_word r made later w rest old between new held passed on =
    two_steps r (made (lexemes_of (w ++ []))) (later []) rest old between new
    (ap (λ ls. then_rest old (made ls)) (text_ends w held.0 held.1) ∙ passed) on

pub last_stopped : (X : Type 0) (e : Stop) (made : List TextLexeme → Translated) (w : List ℕ) (rest other : Translated) (old new : List ℕ)
    → IsWordFront w × (length w ≤ longest_word)
    → TranslationGoesOn {X = X} (Err e) (made (Word w ∷ [])) rest old new
    → TranslationGoesOn {X = X} (Err e) (made (lexemes_of (w ++ []))) other old new
last_stopped X e made w rest other old new held h =
    subst (λ ls. TranslationGoesOn {X = X} (Err e) (made ls) other old new) (sym (text_ends w held.0 held.1))
    (ended X e (made (Word w ∷ [])) rest other old new h)
