-- A text that `in` leaves as it is has none of the forms.
use Rattle.std.proofs.Common.{◌≡◌, ℕ, Bool, true, false, cond, List, [], ◌∷◌, ◌++◌, length, map, drop, refl, sym, ap, ◌∙◌, arith}
use Rattle.std.specs.Prelude.{flat_map, None, Ok, Err, nat_lt}
use Rattle.std.specs.declared.result.Result.{Result}
use Rattle.nk_lex.proofs.Digits.{StopsAt}
use Rattle.nk_number_forms.specs.declared.fault.Cause.{Cause}
use Rattle.nk_number_forms.specs.Forms.{first_byte}
use Rattle.nk_notation.specs.declared.inward.Inward.{Inward}
use Rattle.nk_notation.specs.declared.inward.Place.{Place}
use Rattle.nk_notation.specs.Inward.{after_byte, after_word, inward, with_word, word_in}
use Rattle.nk_notation.specs.Laws.{AllKept, lexeme_bytes}
use Rattle.nk_notation.specs.Lexemes.{TextLexeme, Word, Byte, Note, cut_text, is_run_byte, longest_word, without_long}
use Rattle.nk_notation.specs.Translation.{Translated, then_rest}
use Rattle.nk_notation.proofs.Cuts.{IsWordFront, front_cut}
use Rattle.nk_notation_laws.proofs.ReadAgain.{in_stops}
use Rattle.nk_notation_laws.proofs.ReadsWords.{IsCut, after_bytes, inward_bytes}
use Rattle.nk_notation_laws.proofs.WordsAgain.{WordComes, one, range, range_is, word_comes}

first_word : List TextLexeme → List ℕ
first_word (Word w ∷ ls) = w
first_word r = []

-- one text begins with one word alone
same_front : (v w x y : List ℕ) → IsWordFront v → IsWordFront w → StopsAt is_run_byte x → StopsAt is_run_byte y → v ++ x ≡ w ++ y → v ≡ w
unfolding first_word
same_front v w x y fv fw sx sy e = ap first_word (sym (front_cut v x fv sx) ∙ ap (cut_text false) e ∙ front_cut w y fw sy)

same_after : (w : List ℕ) (s t : Translated) → then_rest w s ≡ then_rest w t → s ≡ t
same_after [] s t e = e
same_after (b ∷ w) s t e = same_after w s t (ap (λ u. record { bytes = drop 1 u.bytes; fault = u.fault }) e)

-- these bytes, and no fault
abbrev pub whole : List ℕ → Translated
whole w = record { bytes = w; fault = None }

kept_bytes : (r : Inward) (w : List ℕ) (ls : List TextLexeme) → AllKept (after_bytes r w) ls → AllKept r (map Byte w ++ ls)
kept_bytes r [] ls h = h
kept_bytes r (b ∷ w) ls h = kept_bytes (after_byte r b) w ls h

word_same : (p : Place) (w t : List ℕ) (rest : Translated) (read : List ℕ) → IsWordFront w → StopsAt is_run_byte rest.bytes → StopsAt is_run_byte read → WordComes p w t
    → then_rest t rest ≡ whole (w ++ read) → t ≡ w
unfolding first_byte
word_same p w t rest read front sr st (one ft stops step) e = same_front t w rest.bytes read ft front sr st (ap (λ u. u.bytes) e)
word_same p [] t rest read front sr st (range n m ln lm b is) e = absurd front
word_same p (x ∷ w) t rest read front sr st (range n m ln lm b is) e =
    let apart : 32 ≡ x = ap first_byte (ap (λ v. v ++ rest.bytes) (sym (is ∙ range_is n m)) ∙ ap (λ u. u.bytes) e) in
    let equals : x ≡ 61 = b in absurd (omega (arith, apart, equals))

said_kept : (r : Inward) (w : List ℕ) (ls : List TextLexeme) (read : List ℕ) → IsWordFront w → StopsAt is_run_byte (inward (after_word r w) ls).bytes → StopsAt is_run_byte read
    → (inward (after_word r w) ls ≡ whole read → AllKept (after_word r w) ls) → (said : Result (List ℕ) Cause) → word_in r w ≡ said
    → with_word w r.line said (inward (after_word r w) ls) ≡ whole (w ++ read) → (word_in r w ≡ Ok w) × AllKept (after_word r w) ls
said_kept r w ls read front sr st next (Err c) e h = let wrong = ap (λ u. u.fault) h in absurd cc
said_kept r w ls read front sr st next (Ok t) e h =
    let same : t ≡ w = word_same r.place w t (inward (after_word r w) ls) read front sr st (word_comes r w t front e) h in (
      e ∙ ap Ok same,
      next (same_after w (inward (after_word r w) ls) (whole read) (ap (λ v. then_rest v (inward (after_word r w) ls)) (sym same) ∙ h)),
    )

length_kept : (r : Inward) (w : List ℕ) (ls : List TextLexeme) (read : List ℕ) → IsWordFront w → StopsAt is_run_byte (inward (after_word r w) ls).bytes → StopsAt is_run_byte read
    → ((q : Inward) → inward q ls ≡ whole read → AllKept q ls) → (t : Bool) → inward r (cond t (map Byte w) (Word w ∷ []) ++ ls) ≡ whole (w ++ read)
    → AllKept r (cond t (map Byte w) (Word w ∷ []) ++ ls)
length_kept r w ls read front sr st next true h =
    kept_bytes r w ls (next (after_bytes r w) (same_after w (inward (after_bytes r w) ls) (whole read) (sym (inward_bytes r w ls) ∙ h)))
length_kept r w ls read front sr st next false h = said_kept r w ls read front sr st (next (after_word r w)) (word_in r w) refl h

pub kept_if : (noted : Bool) (r : Inward) (ls : List TextLexeme) → IsCut noted ls → inward r (flat_map without_long ls) ≡ whole (lexeme_bytes ls) → AllKept r (flat_map without_long ls)
kept_if noted r [] cut h = tt
kept_if true r (Word w ∷ ls) cut h = absurd cut
kept_if true r (Byte b ∷ ls) cut h =
    kept_if false (after_byte r b) ls cut.1 (same_after (b ∷ []) (inward (after_byte r b) (flat_map without_long ls)) (whole (lexeme_bytes ls)) h)
kept_if true r (Note b ∷ ls) cut h = kept_if true r ls cut.1 (same_after (b ∷ []) (inward r (flat_map without_long ls)) (whole (lexeme_bytes ls)) h)
kept_if false r (Byte b ∷ ls) cut h =
    kept_if false (after_byte r b) ls cut.2 (same_after (b ∷ []) (inward (after_byte r b) (flat_map without_long ls)) (whole (lexeme_bytes ls)) h)
kept_if false r (Note b ∷ ls) cut h = kept_if true r ls cut.1 (same_after (b ∷ []) (inward r (flat_map without_long ls)) (whole (lexeme_bytes ls)) h)
kept_if false r (Word w ∷ ls) cut h =
    length_kept r w (flat_map without_long ls) (lexeme_bytes ls) cut.0 (in_stops (after_word r w) ls cut.2 cut.1) cut.1 (λ q e. kept_if false q ls cut.2 e) (nat_lt longest_word (length w)) h
