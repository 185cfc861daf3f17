-- What `in` makes of a text, it leaves as it is; and a text that it leaves has none of the forms.
use Rattle.std.proofs.Common.{◌≡◌, inl, ℕ, Bool, true, false, cond, List, [], ◌∷◌, ◌++◌, length, map, refl, sym, subst, ◌∙◌}
use Rattle.std.proofs.lemmas.Bool.{ltb-false, ltb-true}
use Rattle.std.specs.Prelude.{flat_map, None, Ok, Err, nat_lt}
use Rattle.std.specs.declared.result.Result.{Result}
use Rattle.nk_lex.proofs.Digits.{StopsAt}
use Rattle.nk_number_forms.specs.declared.fault.Cause.{Cause}
use Rattle.nk_notation.specs.declared.inward.Inward.{Inward}
use Rattle.nk_notation.specs.declared.inward.Place.{Place}
use Rattle.nk_notation.specs.Inward.{after_byte, after_word, inward, place_after, with_word, word_in}
use Rattle.nk_notation.specs.Laws.{lexeme_bytes}
use Rattle.nk_notation.specs.Lexemes.{TextLexeme, Word, Byte, Note, is_run_byte, longest_word, without_long}
use Rattle.nk_notation.specs.Translation.{Translated}
use Rattle.nk_notation.proofs.Cuts.{IsWordFront}
use Rattle.nk_notation_laws.proofs.Places.{Follows, after_long, follows_byte}
use Rattle.nk_notation_laws.proofs.ReadsWords.{IsCut, Reads, after_bytes, inward_bytes, reads_byte, reads_hash, reads_line, reads_long, reads_note, reads_nothing, reads_word}
use Rattle.nk_notation_laws.proofs.WordsAgain.{WordComes, one, range, range_elsewhere, range_is, reads_range, word_comes}

-- in the text that is read no more sizes are due than at this place
abbrev pub At : Place → Inward → Type 0
At p r = Follows p r.place

pub at_byte : (r q : Inward) (b : ℕ) → At r.place q → At (after_byte r b).place (after_byte q b)
unfolding after_byte
at_byte r q b f = follows_byte r.place q.place b f

-- what stands after a word ends it
pub stops_word : (v rest : List ℕ) → IsWordFront v → StopsAt is_run_byte v → StopsAt is_run_byte (v ++ rest)
stops_word [] rest front s = absurd front
stops_word (b ∷ v) rest front s = s

pub word_stops : (v rest : List ℕ) → IsWordFront v → StopsAt is_run_byte (v ++ rest) → StopsAt is_run_byte v
word_stops [] rest front s = absurd front
word_stops (b ∷ v) rest front s = s

comes_stops : (p : Place) (w t rest : List ℕ) → StopsAt is_run_byte w → WordComes p w t → StopsAt is_run_byte (t ++ rest)
comes_stops p w t rest s (one front stops step) = stops_word t rest front (stops s)
comes_stops p w t rest s (range n m ln lm e is) = subst (λ v. StopsAt is_run_byte (v ++ rest)) (sym (is ∙ range_is n m)) refl

said_stops : (r : Inward) (w : List ℕ) (rest : Translated) → IsWordFront w → StopsAt is_run_byte w → (said : Result (List ℕ) Cause) → word_in r w ≡ said
    → StopsAt is_run_byte (with_word w r.line said rest).bytes
said_stops r w rest front s (Err c) e = s
said_stops r w rest front s (Ok t) e = comes_stops r.place w t rest.bytes s (word_comes r w t front e)

length_stops : (r : Inward) (w : List ℕ) (ls : List TextLexeme) → IsWordFront w → StopsAt is_run_byte w → (t : Bool)
    → StopsAt is_run_byte (inward r (cond t (map Byte w) (Word w ∷ []) ++ ls)).bytes
length_stops r w ls front s true =
    subst (λ t. StopsAt is_run_byte t.bytes) (sym (inward_bytes r w ls)) (stops_word w (inward (after_bytes r w) ls).bytes front s)
length_stops r w ls front s false = said_stops r w (inward (after_word r w) ls) front s (word_in r w) refl

-- so does what `in` makes of it
pub in_stops : (r : Inward) (ls : List TextLexeme) → IsCut false ls → StopsAt is_run_byte (lexeme_bytes ls) → StopsAt is_run_byte (inward r (flat_map without_long ls)).bytes
in_stops r [] cut s = tt
in_stops r (Byte b ∷ ls) cut s = s
in_stops r (Note b ∷ ls) cut s = s
in_stops r (Word w ∷ ls) cut s = length_stops r w (flat_map without_long ls) cut.0 (word_stops w (lexeme_bytes ls) cut.0 s) (nat_lt longest_word (length w))

-- what `in` makes of these lexemes is read as it is
abbrev pub ReadsItself : Inward → Translated → Type 0
ReadsItself r t = t.fault ≡ None → Reads false (At r.place) t.bytes t.bytes

again_front : (r : Inward) (w t : List ℕ) (rest : Translated) → IsWordFront t → StopsAt is_run_byte rest.bytes
    → ((q : Inward) → Follows r.place q.place → (word_in q t ≡ Ok t) × Follows (place_after r.place w) (place_after q.place t))
    → Reads false (At (after_word r w).place) rest.bytes rest.bytes → (u : Bool) → nat_lt longest_word (length t) ≡ u → Reads false (At r.place) (t ++ rest.bytes) (t ++ rest.bytes)
unfolding after_word
again_front r w t rest front stops step next true e =
    reads_long (At r.place) (At (after_word r w).place) t rest.bytes rest.bytes front (ltb-true longest_word (length t) e) stops (λ q c. inl (after_long q t front)) next
again_front r w t rest front stops step next false e =
    reads_word (At r.place) (At (after_word r w).place) t t rest.bytes rest.bytes front (ltb-false longest_word (length t) e) stops (λ q c. step q c) next

again_word : (r : Inward) (w t : List ℕ) (rest : Translated) → WordComes r.place w t → StopsAt is_run_byte rest.bytes
    → Reads false (At (after_word r w).place) rest.bytes rest.bytes → Reads false (At r.place) (t ++ rest.bytes) (t ++ rest.bytes)
again_word r w t rest (one front stop step) stops next = again_front r w t rest front stops step next (nat_lt longest_word (length t)) refl
again_word r w t rest (range n m ln lm e is) stops next =
    subst (λ v. Reads false (At r.place) (v ++ rest.bytes) (v ++ rest.bytes)) (sym (is ∙ range_is n m))
    (reads_range (At r.place) (At (after_word r w).place) n m rest.bytes rest.bytes ln lm stops (λ q c. inl (range_elsewhere q n m)) next)

again_said : (r : Inward) (w : List ℕ) (rest : Translated) → IsWordFront w → StopsAt is_run_byte rest.bytes → ReadsItself (after_word r w) rest
    → (said : Result (List ℕ) Cause) → word_in r w ≡ said → ReadsItself r (with_word w r.line said rest)
again_said r w rest front stops next (Err c) e = λ ok. absurd cc
again_said r w rest front stops next (Ok t) e = λ ok. again_word r w t rest (word_comes r w t front e) stops (next ok)

again_length : (r : Inward) (w : List ℕ) (ls : List TextLexeme) → IsWordFront w → ((q : Inward) → StopsAt is_run_byte (inward q ls).bytes)
    → ((q : Inward) → ReadsItself q (inward q ls)) → (t : Bool) → nat_lt longest_word (length w) ≡ t → ReadsItself r (inward r (cond t (map Byte w) (Word w ∷ []) ++ ls))
again_length r w ls front stops next true e =
    let rest : Translated = inward (after_bytes r w) ls in
    subst (ReadsItself r) (sym (inward_bytes r w ls))
    (λ ok. reads_long (At r.place) (At (after_bytes r w).place) w rest.bytes rest.bytes front (ltb-true longest_word (length w) e) (stops (after_bytes r w))
    (λ q c. inl (after_long q w front)) (next (after_bytes r w) ok))
again_length r w ls front stops next false e = again_said r w (inward (after_word r w) ls) front (stops (after_word r w)) (next (after_word r w)) (word_in r w) refl

-- each text
pub again : (noted : Bool) (r : Inward) (ls : List TextLexeme) → IsCut noted ls → (inward r (flat_map without_long ls)).fault ≡ None
    → Reads noted (At r.place) (inward r (flat_map without_long ls)).bytes (inward r (flat_map without_long ls)).bytes
again noted r [] cut ok = reads_nothing noted (At r.place)
again true r (Word w ∷ ls) cut ok = absurd cut
again true r (Byte b ∷ ls) cut ok =
    let rest : List ℕ = (inward (after_byte r b) (flat_map without_long ls)).bytes in
    reads_line (At r.place) (At (after_byte r b).place) b rest rest cut.0 (λ q c. at_byte r q b c) (again false (after_byte r b) ls cut.1 ok)
again true r (Note b ∷ ls) cut ok =
    let rest : List ℕ = (inward r (flat_map without_long ls)).bytes in
    reads_note (At r.place) b rest rest cut.0 (again true r ls cut.1 ok)
again false r (Byte b ∷ ls) cut ok =
    let rest : List ℕ = (inward (after_byte r b) (flat_map without_long ls)).bytes in
    reads_byte (At r.place) (At (after_byte r b).place) b rest rest cut.0 cut.1 (λ q c. at_byte r q b c) (again false (after_byte r b) ls cut.2 ok)
again false r (Note b ∷ ls) cut ok =
    let rest : List ℕ = (inward r (flat_map without_long ls)).bytes in
    reads_hash (At r.place) b rest rest cut.0 (again true r ls cut.1 ok)
again false r (Word w ∷ ls) cut ok =
    again_length r w (flat_map without_long ls) cut.0 (λ q. in_stops q ls cut.2 cut.1) (λ q. λ h. again false q ls cut.2 h) (nat_lt longest_word (length w)) refl ok
