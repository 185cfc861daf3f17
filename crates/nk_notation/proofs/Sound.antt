-- What is open can go on so that no word is malformed.
use Rattle.std.proofs.Common.{◌≡◌, ◌<◌, ◌&&◌, ℕ, true, List, [], ◌∷◌, ◌++◌, length, map, refl, sym, ap, ◌∙◌, arith, append-nil, length-append}
use Rattle.std.proofs.lemmas.List.Folds.{list_all-append}
use Rattle.std.specs.Prelude.{None, replicate}
use Rattle.std.specs.List.{list_all}
use Rattle.nk_notation.specs.Cutting.{is_held, lexemes_left}
use Rattle.nk_notation.specs.Lexemes.{TextLexeme, Byte, is_run_byte, lexemes_of, longest_word}
use Rattle.nk_notation.specs.Run.{IsSoundSoFar}
use Rattle.nk_notation.specs.Translation.{Translated}
use Rattle.nk_notation.specs.declared.cutter.Open.{Open}
use Rattle.nk_notation.specs.declared.cutter.Open.TheVariants as is_open
use Rattle.nk_notation.proofs.Cuts.{IsWordFront, held_word, long_left}

-- a word with more bytes of a run
front_run : (w v : List ℕ) → IsWordFront w → list_all is_run_byte v ≡ true → IsWordFront (w ++ v)
front_run [] v front run = absurd front
front_run (x ∷ xs) v front run =
    (front.0, list_all-append is_run_byte xs v ∙ ap (λ t. t && list_all is_run_byte v) front.1 ∙ ap (λ t. true && t) run)

-- more bytes of a run than a word has
long_run : List ℕ
long_run = replicate 65 97

is_long : (length long_run ≡ 65) × (list_all is_run_byte long_run ≡ true)
unfolding long_run
is_long = (refl, refl)

-- each byte of a word that goes on so stands for itself
word_lost : (w : List ℕ) → IsWordFront w → lexemes_of (w ++ long_run) ≡ map Byte (w ++ long_run)
word_lost w front =
    let v = w ++ long_run in
    let long : longest_word < length v = omega (arith, is_long.0, length-append w long_run) in
    ap lexemes_of (sym (append-nil v)) ∙ long_left v [] (front_run w long_run front is_long.1) long ∙ append-nil (map Byte v)

-- the bytes to come can be such that no word is malformed
pub sound_rest : {A : Type 0} (made : A → List TextLexeme → Translated) → ((n : A) (bs : List ℕ) → (made n (map Byte bs)).fault ≡ None)
    → (n : A) (s : Open) (held : List ℕ) → is_held s held ≡ true → IsSoundSoFar (λ more. made n (lexemes_left s held more)) []
sound_rest made sound n is_open.Word held h =
    (long_run, ap (λ ls. (made n ls).fault) (word_lost held (held_word held h).0) ∙ sound n (held ++ long_run))
sound_rest made sound n s held h = ([], sound n [])
