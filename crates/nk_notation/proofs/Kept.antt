-- The lexemes of a text are its bytes.
use Rattle.std.proofs.Common.{◌≡◌, ◌==◌, ℕ, Bool, true, false, cond, List, [], ◌∷◌, ◌++◌, length, map, refl, ap, ◌∙◌}
use Rattle.std.specs.Prelude.{flat_map, nat_lt, None}
use Rattle.nk_notation.specs.declared.inward.Inward.{Inward}
use Rattle.nk_notation.specs.Answer.{inward_text}
use Rattle.nk_notation.specs.Inward.{after_byte, after_word, inward, text_start, with_word}
use Rattle.nk_notation.specs.Lexemes.{TextLexeme, Word, Byte, Note, begins_word, cut_text, joined_to_word, lexemes_of, longest_word, without_long}
use Rattle.nk_notation.specs.Laws.{AllKept, lexeme_bytes}
use Rattle.nk_notation.specs.Translation.{then_rest}

bytes_joined : (b : ℕ) (ls : List TextLexeme) → lexeme_bytes (joined_to_word b ls) ≡ b ∷ lexeme_bytes ls
bytes_joined b (Word (c ∷ w) ∷ ls) =
    elim (c == 61) as (λ t. lexeme_bytes (cond t (Word (b ∷ []) ∷ Word (c ∷ w) ∷ ls) (Word (b ∷ c ∷ w) ∷ ls)) ≡ b ∷ c ∷ w ++ lexeme_bytes ls) [
      | true ↦ refl
      | false ↦ refl
    ]
bytes_joined b ls = refl

pub bytes_cut : (noted : Bool) (bs : List ℕ) → lexeme_bytes (cut_text noted bs) ≡ bs
bytes_cut noted [] = refl
bytes_cut true (b ∷ bs) =
    elim (b == 10) as (λ t. lexeme_bytes (cond t (Byte b ∷ cut_text false bs) (Note b ∷ cut_text true bs)) ≡ b ∷ bs) [
      | true ↦ ap (λ l. b ∷ l) (bytes_cut false bs)
      | false ↦ ap (λ l. b ∷ l) (bytes_cut true bs)
    ]
bytes_cut false (b ∷ bs) =
    elim (b == 35) as (λ t. lexeme_bytes (cond t (Note b ∷ cut_text true bs) (cond (begins_word b) (joined_to_word b (cut_text false bs)) (Byte b ∷ cut_text false bs))) ≡ b ∷ bs) [
      | true ↦ ap (λ l. b ∷ l) (bytes_cut true bs)
      | false ↦ elim (begins_word b) as (λ t. lexeme_bytes (cond t (joined_to_word b (cut_text false bs)) (Byte b ∷ cut_text false bs)) ≡ b ∷ bs) [
        | true ↦ bytes_joined b (cut_text false bs) ∙ ap (λ l. b ∷ l) (bytes_cut false bs)
        | false ↦ ap (λ l. b ∷ l) (bytes_cut false bs)
      ]
    ]

bytes_apart : (w : List ℕ) (ls : List TextLexeme) → lexeme_bytes (map Byte w ++ ls) ≡ w ++ lexeme_bytes ls
bytes_apart [] ls = refl
bytes_apart (b ∷ w) ls = ap (λ l. b ∷ l) (bytes_apart w ls)

bytes_short : (ls : List TextLexeme) → lexeme_bytes (flat_map without_long ls) ≡ lexeme_bytes ls
bytes_short [] = refl
bytes_short (Word w ∷ ls) =
    elim (nat_lt longest_word (length w)) as (λ t. lexeme_bytes (cond t (map Byte w) (Word w ∷ []) ++ flat_map without_long ls) ≡ w ++ lexeme_bytes ls) [
      | true ↦ bytes_apart w (flat_map without_long ls) ∙ ap (λ l. w ++ l) (bytes_short ls)
      | false ↦ ap (λ l. w ++ l) (bytes_short ls)
    ]
bytes_short (Byte b ∷ ls) = ap (λ l. b ∷ l) (bytes_short ls)
bytes_short (Note b ∷ ls) = ap (λ l. b ∷ l) (bytes_short ls)

-- the lexemes of a text are its bytes
pub bytes_same : (text : List ℕ) → lexeme_bytes (lexemes_of text) ≡ text
bytes_same text = bytes_short (cut_text false text) ∙ bytes_cut false text

-- a translation that keeps each word keeps the text
pub all_kept : (r : Inward) (ls : List TextLexeme) → AllKept r ls → inward r ls ≡ record { bytes = lexeme_bytes ls; fault = None }
all_kept r [] h = refl
all_kept r (Word w ∷ ls) h =
    ap (λ said. with_word w r.line said (inward (after_word r w) ls)) h.0
    ∙ ap (then_rest w) (all_kept (after_word r w) ls h.1)
all_kept r (Byte b ∷ ls) h = ap (then_rest (b ∷ [])) (all_kept (after_byte r b) ls h)
all_kept r (Note b ∷ ls) h = ap (then_rest (b ∷ [])) (all_kept r ls h)

pub text_kept : (text : List ℕ) → AllKept text_start (lexemes_of text) → inward_text text ≡ record { bytes = text; fault = None }
text_kept text h = all_kept text_start (lexemes_of text) h ∙ ap (λ l. record { bytes = l; fault = None }) (bytes_same text)
