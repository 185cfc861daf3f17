-- `in` gives back the text of which `out` writes.
use Rattle.std.proofs.Common.{◌≡◌, ◌≤◌, ◌==◌, inl, ℕ, Bool, true, false, cond, List, [], ◌∷◌, ◌++◌, length, map, drop, refl, sym, ap, subst, ◌∙◌, arith, append_assoc, append-nil}
use Rattle.std.proofs.lemmas.Bool.{eqb-true, ltb-false, ltb-true}
use Rattle.std.proofs.lemmas.Slice.Eq.{bytes_eq-Decides}
use Rattle.std.specs.Prelude.{flat_map, Ok, bytes_eq, codes, nat_lt}
use Rattle.std.specs.List.{list_all}
use Rattle.nk_lex.proofs.Digits.{StopsAt}
use Rattle.nk_number_forms.specs.Forms.{first_byte}
use Rattle.nk_notation.specs.declared.context.TextKind.{TextKind}
use Rattle.nk_notation.specs.declared.inward.Inward.{Inward}
use Rattle.nk_notation.specs.declared.outward.Form.{Form}
use Rattle.nk_notation.specs.declared.outward.Spot.{Spot}
use Rattle.nk_notation.specs.declared.outward.Spot.TheVariants as spot
use Rattle.nk_notation.specs.Inward.{after_byte, after_word, is_tables, kind_after, kind_beyond, word_in}
use Rattle.nk_notation.specs.Laws.{AllKept, lexeme_bytes}
use Rattle.nk_notation.specs.Lexemes.{TextLexeme, Word, Byte, Note, begins_word, is_run_byte, longest_word, without_long}
use Rattle.nk_notation.specs.Outward.{NamedForms, byte_out, held, named_spot, number_out, outward, spot_after, spot_beyond, value_out, word_out}
use Rattle.nk_notation.proofs.Cuts.{IsWordFront}
use Rattle.nk_notation_laws.proofs.ReadAgain.{stops_word, word_stops}
use Rattle.nk_notation_laws.proofs.Emitted.{emit_kept, emit_range, emit_value}
use Rattle.nk_notation_laws.proofs.Held.{HeldStops, IsOut, bare_stops, held_stops, reads_held}
use Rattle.nk_notation_laws.proofs.Places.{after_long, follows_byte, follows_word}
use Rattle.nk_notation_laws.proofs.ReadsWords.{IsCut, Reads, after_bytes, reads_byte, reads_hash, reads_line, reads_long, reads_note, reads_nothing, reads_under}
use Rattle.nk_notation_laws.proofs.Spots.{AreNames, IsBare, IsKnown, IsSpotKnown, after_known, bare_held, byte_beyond, byte_held, kind_past, known_byte, known_word, named_bare, out_long, out_stops, spot_known}
use Rattle.nk_notation_laws.proofs.ValuesBack.{ComesBack, number_back, value_back, value_still}

-- what is read of what `out` makes of the lexemes that are left
abbrev pub Next : NamedForms → TextKind → Spot → Inward → (ls : List TextLexeme) → (read : List ℕ) → Type 0
Next fields k s r ls read = Reads false (IsOut k s r.place) (outward fields k s ls).bytes (held s ++ read)

-- a byte outside words, before which nothing more is held than comes with it
at_byte : (k : TextKind) (r0 : Inward) (b : ℕ) (r : Inward) → IsOut k spot.Nothing r0.place r → IsOut (kind_beyond k b) spot.Nothing (after_byte r0 b).place (after_byte r b)
unfolding after_byte
at_byte k r0 b r o = record { follows = follows_byte r0.place r.place b o.follows; kind = ap (λ x. kind_beyond x b) o.kind; last = tt }

byte_plain : (fields : NamedForms) (k : TextKind) (s : Spot) (r0 : Inward) (b : ℕ) (ls : List TextLexeme) (read : List ℕ)
    → (b == 35) ≡ false → begins_word b ≡ false → byte_out s b ≡ held s ++ b ∷ [] → spot_beyond s b ≡ spot.Nothing → IsSpotKnown s k → HeldStops s (b ∷ read)
    → Next fields (kind_beyond k b) spot.Nothing (after_byte r0 b) ls read → Next fields k s r0 (Byte b ∷ ls) (b ∷ read)
unfolding held
byte_plain fields k s r0 b ls read hash begins out beyond known stops next =
    let rest : List ℕ = (outward fields (kind_beyond k b) spot.Nothing ls).bytes in
    let C : Inward → Type 0 = IsOut k s r0.place in
    subst (λ t. Reads false C (byte_out s b ++ (outward fields (kind_beyond k b) t ls).bytes) (held s ++ b ∷ read)) (sym beyond)
    (subst (λ v. Reads false C (v ++ rest) (held s ++ b ∷ read)) (sym out)
    (subst (λ v. Reads false C v (held s ++ b ∷ read)) (sym (append_assoc (held s) (b ∷ []) rest))
    (reads_held k s r0.place (b ∷ rest) (b ∷ read) (held_stops s (b ∷ read) (b ∷ rest) (λ h. h) stops) known
    (reads_byte (IsOut k spot.Nothing r0.place) (IsOut (kind_beyond k b) spot.Nothing (after_byte r0 b).place) b rest read hash begins (λ r o. at_byte k r0 b r o) next))))

-- a space
abbrev NextAt : NamedForms → TextKind → Inward → (b : ℕ) → (ls : List TextLexeme) → (read : List ℕ) → Type 0
NextAt fields k r0 b ls read = (s : Spot) → HeldStops s read → IsSpotKnown s (kind_beyond k b) → Next fields (kind_beyond k b) s (after_byte r0 b) ls read

byte_space : (fields : NamedForms) (k : TextKind) (s : Spot) (r0 : Inward) (ls : List TextLexeme) (read : List ℕ) → IsSpotKnown s k → HeldStops s (32 ∷ read)
    → NextAt fields k r0 32 ls read → Next fields k s r0 (Byte 32 ∷ ls) (32 ∷ read)
unfolding byte_out spot_beyond held after_byte
byte_space fields k spot.Nothing r0 ls read known stops next = byte_plain fields k spot.Nothing r0 32 ls read refl refl refl refl known stops (next spot.Nothing tt tt)
byte_space fields k (spot.Assigned f) r0 ls read known stops next = byte_plain fields k (spot.Assigned f) r0 32 ls read refl refl refl refl known stops (next spot.Nothing tt tt)
byte_space fields k (spot.Blank f) r0 ls read known stops next = byte_plain fields k (spot.Blank f) r0 32 ls read refl refl refl refl known stops (next spot.Nothing tt tt)
byte_space fields k (spot.Range f) r0 ls read known stops next = byte_plain fields k (spot.Range f) r0 32 ls read refl refl refl refl known stops (next spot.Nothing tt tt)
byte_space fields k (spot.Name f) r0 ls read known stops next =
    reads_under false (IsOut k (spot.Name f) r0.place) (IsOut (kind_beyond k 32) (spot.Blank f) r0.place) (outward fields (kind_beyond k 32) (spot.Blank f) ls).bytes (32 ∷ read)
    (λ r o. record { follows = o.follows; kind = o.kind ∙ sym (known_byte k 32 known); last = o.last })
    (next (spot.Blank f) tt (subst IsKnown (sym (known_byte k 32 known)) known))
byte_space fields k (spot.In f) r0 ls read known stops next =
    reads_under false (IsOut k (spot.In f) r0.place) (IsOut (kind_beyond k 32) (spot.Range f) r0.place) (outward fields (kind_beyond k 32) (spot.Range f) ls).bytes (32 ∷ 105 ∷ 110 ∷ 32 ∷ read)
    (λ r o. record { follows = o.follows; kind = o.kind ∙ sym (known_byte k 32 known); last = o.last })
    (next (spot.Range f) tt (subst IsKnown (sym (known_byte k 32 known)) known))

-- any byte
byte_by : (fields : NamedForms) (k : TextKind) (s : Spot) (r0 : Inward) (b : ℕ) (ls : List TextLexeme) (read : List ℕ) → (b == 35) ≡ false → begins_word b ≡ false
    → IsSpotKnown s k → HeldStops s (b ∷ read) → NextAt fields k r0 b ls read → (t : Bool) → (b == 32) ≡ t → Next fields k s r0 (Byte b ∷ ls) (b ∷ read)
byte_by fields k s r0 b ls read hash begins known stops next false e =
    byte_plain fields k s r0 b ls read hash begins (byte_held s b e) (byte_beyond s b e) known stops (next spot.Nothing tt tt)
byte_by fields k s r0 b ls read hash begins known stops next true e =
    let is : b ≡ 32 = eqb-true b 32 e in
    subst (λ x. HeldStops s (x ∷ read) → NextAt fields k r0 x ls read → Next fields k s r0 (Byte x ∷ ls) (x ∷ read)) (sym is)
    (λ st n. byte_space fields k s r0 ls read known st n) stops next

-- a byte that begins a comment
note_plain : (fields : NamedForms) (k : TextKind) (s : Spot) (r0 : Inward) (b : ℕ) (ls : List TextLexeme) (read : List ℕ) → (b == 35) ≡ true → IsSpotKnown s k → HeldStops s (b ∷ read)
    → Reads true (IsOut k spot.Nothing r0.place) (outward fields k spot.Nothing ls).bytes read → Next fields k s r0 (Note b ∷ ls) (b ∷ read)
note_plain fields k s r0 b ls read hash known stops next =
    let rest : List ℕ = (outward fields k spot.Nothing ls).bytes in
    subst (λ v. Reads false (IsOut k s r0.place) v (held s ++ b ∷ read)) (sym (append_assoc (held s) (b ∷ []) rest))
    (reads_held k s r0.place (b ∷ rest) (b ∷ read) (held_stops s (b ∷ read) (b ∷ rest) (λ h. h) stops) known (reads_hash (IsOut k spot.Nothing r0.place) b rest read hash next))

-- a word that is too long
past_kind : (r : Inward) (w : List ℕ) → (after_bytes r w).kind ≡ kind_past r.kind w
unfolding after_byte
past_kind r [] = refl
past_kind r (b ∷ w) = past_kind (after_byte r b) w

long_stops : (w written read : List ℕ) → IsWordFront w → StopsAt is_run_byte (w ++ read) → StopsAt is_run_byte (w ++ written)
long_stops w written read front s = stops_word w written front (word_stops w read front s)

word_long : (fields : NamedForms) (k : TextKind) (s : Spot) (r0 : Inward) (w : List ℕ) (ls : List TextLexeme) (read : List ℕ) → IsWordFront w → nat_lt longest_word (length w) ≡ true
    → IsSpotKnown s k → HeldStops s (w ++ read) → StopsAt is_run_byte (outward fields (kind_past k w) spot.Nothing ls).bytes
    → Next fields (kind_past k w) spot.Nothing (after_bytes r0 w) ls read → Next fields k s r0 (map Byte w ++ ls) (w ++ read)
unfolding held
word_long fields k s r0 w ls read front long known stops ends next =
    let rest : List ℕ = (outward fields (kind_past k w) spot.Nothing ls).bytes in
    subst (λ t. Reads false (IsOut k s r0.place) t.bytes (held s ++ (w ++ read))) (sym (out_long fields k s w ls front))
    (subst (λ v. Reads false (IsOut k s r0.place) v (held s ++ (w ++ read))) (sym (append_assoc (held s) w rest))
    (reads_held k s r0.place (w ++ rest) (w ++ read) (held_stops s (w ++ read) (w ++ rest) (long_stops w rest read front) stops) known
    (reads_long (IsOut k spot.Nothing r0.place) (IsOut (kind_past k w) spot.Nothing (after_bytes r0 w).place) w rest read front (ltb-true longest_word (length w) long) ends
    (λ r o. record { follows = inl (after_long r w front); kind = past_kind r w ∙ ap (λ x. kind_past x w) o.kind; last = tt }) next)))

-- a word
abbrev AfterWord : NamedForms → TextKind → Inward → (w : List ℕ) → (ls : List TextLexeme) → (read : List ℕ) → Type 0
AfterWord fields k r0 w ls read = (s : Spot) → HeldStops s read → Next fields (kind_after k w) s (after_word r0 w) ls read

-- what is known of a word that `in` leaves, and of what stands after it
record IsShort (fields : NamedForms) (k : TextKind) (s : Spot) (r0 : Inward) (w : List ℕ) (ls : List TextLexeme) (read : List ℕ) : Type 0 where
  names : AreNames fields
  known : IsSpotKnown s k
  front : IsWordFront w
  short : length w ≤ longest_word
  kept : word_in r0 w ≡ Ok w
  stops : HeldStops s (w ++ read)
  ends : StopsAt is_run_byte (outward fields (kind_after k w) (named_spot fields w) ls).bytes
  ends_read : StopsAt is_run_byte read
  next : AfterWord fields k r0 w ls read

bare_next : (fields : NamedForms) (k : TextKind) (r0 : Inward) (w : List ℕ) (ls : List TextLexeme) (read : List ℕ) → AfterWord fields k r0 w ls read
    → Reads false (IsOut (kind_after k w) (named_spot fields w) (after_word r0 w).place) (outward fields (kind_after k w) (named_spot fields w) ls).bytes read
bare_next fields k r0 w ls read next =
    let N = named_spot fields w in
    let bare = named_bare fields w in
    subst (λ h. Reads false (IsOut (kind_after k w) N (after_word r0 w).place) (outward fields (kind_after k w) N ls).bytes (h ++ read)) (bare_held N bare) (next N (bare_stops N read bare))

-- the word stays
word_stays : (fields : NamedForms) (k : TextKind) (s : Spot) (r0 : Inward) (w : List ℕ) (ls : List TextLexeme) (read : List ℕ) → IsShort fields k s r0 w ls read
    → Reads false (IsOut k s r0.place) (held s ++ (w ++ (outward fields (kind_after k w) (named_spot fields w) ls).bytes)) (held s ++ (w ++ read))
word_stays fields k s r0 w ls read h =
    let rest : List ℕ = (outward fields (kind_after k w) (named_spot fields w) ls).bytes in
    emit_kept fields k s r0 w rest read h.front h.short h.kept h.ends (held_stops s (w ++ read) (w ++ rest) (long_stops w rest read h.front) h.stops) h.known
    (bare_next fields k r0 w ls read h.next)

-- an `=` after a name
equals_by : (fields : NamedForms) (k : TextKind) (s : Spot) (r0 : Inward) (w : List ℕ) (ls : List TextLexeme) (read : List ℕ) (out : List ℕ → List ℕ)
    → IsKnown k → held s ≡ [] → IsShort fields k s r0 w ls read
    → ((v : List ℕ) → list_all is_run_byte v ≡ true → length v ≤ 63 → word_in r0 (61 ∷ v) ≡ Ok (61 ∷ v) → ComesBack (is_tables k) (out v) v) → (t : Bool) → (first_byte w == 61) ≡ t
    → Reads false (IsOut k s r0.place) (cond t (codes "=" ++ out (drop 1 w)) w ++ (outward fields (kind_after k w) (named_spot fields w) ls).bytes) (w ++ read)
unfolding first_byte
equals_by fields k s r0 w ls read out known bare h back false e =
    let rest : List ℕ = (outward fields (kind_after k w) (named_spot fields w) ls).bytes in
    subst (λ x. Reads false (IsOut k s r0.place) (x ++ (w ++ rest)) (x ++ (w ++ read))) bare (word_stays fields k s r0 w ls read h)
equals_by fields k s r0 [] ls read out known bare h back true e = absurd h.front
equals_by fields k s r0 (x ∷ w) ls read out known bare h back true e =
    let is : x ≡ 61 = eqb-true x 61 e in
    subst (λ b. IsShort fields k s r0 (b ∷ w) ls read
    → Reads false (IsOut k s r0.place) (61 ∷ out w ++ (outward fields (kind_after k (b ∷ w)) (named_spot fields (b ∷ w)) ls).bytes) (b ∷ w ++ read)) (sym is)
    (λ g. emit_value fields k s r0 (out w) w (outward fields (kind_after k (61 ∷ w)) (named_spot fields (61 ∷ w)) ls).bytes read g.names known
    (back w g.front.1 (omega (arith, g.short)) g.kept) g.ends (bare_next fields k r0 (61 ∷ w) ls read g.next)) h

-- the word `in` after a name
in_by : (fields : NamedForms) (k : TextKind) (f : Form) (r0 : Inward) (w : List ℕ) (ls : List TextLexeme) (read : List ℕ) → IsShort fields k (spot.Blank f) r0 w ls read
    → (t : Bool) → bytes_eq w (codes "in") ≡ t
    → Reads false (IsOut k (spot.Blank f) r0.place)
    (cond t [] (codes " " ++ w) ++ (outward fields (kind_after k w) (cond t (spot.In f) (named_spot fields w)) ls).bytes) (32 ∷ w ++ read)
unfolding held after_word
in_by fields k f r0 w ls read h false e = word_stays fields k (spot.Blank f) r0 w ls read h
in_by fields k f r0 w ls read h true e =
    let is : w ≡ codes "in" = (bytes_eq-Decides w (codes "in")).0 e in
    subst (λ v. IsShort fields k (spot.Blank f) r0 v ls read → Reads false (IsOut k (spot.Blank f) r0.place) (outward fields (kind_after k v) (spot.In f) ls).bytes (32 ∷ v ++ read)) (sym is)
    (λ g.
    reads_under false (IsOut k (spot.Blank f) r0.place) (IsOut (kind_after k (codes "in")) (spot.In f) (after_word r0 (codes "in")).place)
    (outward fields (kind_after k (codes "in")) (spot.In f) ls).bytes (32 ∷ 105 ∷ 110 ∷ read)
    (λ r o. record {
      follows = follows_word r0.place r.place (codes "in") o.follows;
      kind = o.kind ∙ sym (known_word k (codes "in") g.known);
      last = o.last;
    })
    (g.next (spot.In f) g.ends_read)) h

word_short : (fields : NamedForms) (k : TextKind) (s : Spot) (r0 : Inward) (w : List ℕ) (ls : List TextLexeme) (read : List ℕ) → IsShort fields k s r0 w ls read
    → Next fields k s r0 (Word w ∷ ls) (w ++ read)
unfolding word_out spot_after held
word_short fields k spot.Nothing r0 w ls read h = word_stays fields k spot.Nothing r0 w ls read h
word_short fields k (spot.In f) r0 w ls read h = word_stays fields k (spot.In f) r0 w ls read h
word_short fields k (spot.Blank f) r0 w ls read h = in_by fields k f r0 w ls read h (bytes_eq w (codes "in")) refl
word_short fields k (spot.Name f) r0 w ls read h =
    equals_by fields k (spot.Name f) r0 w ls read (value_out (is_tables k) f) h.known refl h
    (λ v runs short kept. value_back (is_tables k) f v runs short (value_still r0 v runs kept)) (first_byte w == 61) refl
word_short fields k (spot.Assigned f) r0 w ls read h =
    equals_by fields k (spot.Assigned f) r0 w ls read (number_out f) h.known refl h
    (λ v runs short kept. number_back (is_tables k) f v runs short (value_still r0 v runs kept)) (first_byte w == 61) refl
word_short fields k (spot.Range f) r0 w ls read h =
    emit_range fields k f r0 w (outward fields (kind_after k w) (named_spot fields w) ls).bytes read h.names h.known h.front h.short h.kept h.ends (bare_next fields k r0 w ls read h.next)

-- the words that are left stay after one that is too long
kept_past : (r : Inward) (w : List ℕ) (ls : List TextLexeme) → AllKept r (map Byte w ++ ls) → AllKept (after_bytes r w) ls
kept_past r [] ls h = h
kept_past r (b ∷ w) ls h = kept_past (after_byte r b) w ls h

-- for each spot, what is read of the lexemes that are left
abbrev ReadsLeft : NamedForms → List TextLexeme → List ℕ → Type 0
ReadsLeft fields ls read = (k : TextKind) (s : Spot) (r : Inward) → IsSpotKnown s k → HeldStops s read → AllKept r ls → Next fields k s r ls read

word_by : (fields : NamedForms) (k : TextKind) (s : Spot) (r0 : Inward) (w : List ℕ) (ls : List TextLexeme) (read : List ℕ) → AreNames fields → IsSpotKnown s k → IsWordFront w
    → HeldStops s (w ++ read) → StopsAt is_run_byte read → ((j : TextKind) (z : Spot) → IsBare z → StopsAt is_run_byte (outward fields j z ls).bytes) → ReadsLeft fields ls read
    → (t : Bool) → nat_lt longest_word (length w) ≡ t → AllKept r0 (cond t (map Byte w) (Word w ∷ []) ++ ls) → Next fields k s r0 (cond t (map Byte w) (Word w ∷ []) ++ ls) (w ++ read)
word_by fields k s r0 w ls read names known front stops ends_read ends left true e kept =
    word_long fields k s r0 w ls read front e known stops (ends (kind_past k w) spot.Nothing tt) (left (kind_past k w) spot.Nothing (after_bytes r0 w) tt tt (kept_past r0 w ls kept))
word_by fields k s r0 w ls read names known front stops ends_read ends left false e kept =
    word_short fields k s r0 w ls read (record {
      names = names;
      known = known;
      front = front;
      short = ltb-false longest_word (length w) e;
      kept = kept.0;
      stops = stops;
      ends = ends (kind_after k w) (named_spot fields w) (named_bare fields w);
      ends_read = ends_read;
      next = λ z st. left (kind_after k w) z (after_word r0 w) (spot_known z (kind_after k w) (after_known k w)) st kept.1;
    })

-- the end of a text
end_held : (fields : NamedForms) (k : TextKind) (s : Spot) (r : Inward) → IsSpotKnown s k → HeldStops s [] → Next fields k s r [] []
end_held fields k s r known stops =
    subst (λ v. Reads false (IsOut k s r.place) v (held s ++ [])) (append-nil (held s)) (reads_held k s r.place [] [] stops known (reads_nothing false (IsOut k spot.Nothing r.place)))

-- what is read of the lexemes that are left of a text that may begin within a comment
abbrev pub Backs : Bool → NamedForms → List TextLexeme → List ℕ → Type 0
Backs false fields ls read = ReadsLeft fields ls read
Backs true fields ls read = (k : TextKind) (r : Inward) → AllKept r ls → Reads true (IsOut k spot.Nothing r.place) (outward fields k spot.Nothing ls).bytes read

-- all lexemes
pub back : (fields : NamedForms) → AreNames fields → (noted : Bool) (ls : List TextLexeme) → IsCut noted ls → Backs noted fields (flat_map without_long ls) (lexeme_bytes ls)
unfolding held byte_out spot_beyond
back fields names false [] cut = λ k s r known stops kept. end_held fields k s r known stops
back fields names true [] cut = λ k r kept. reads_nothing true (IsOut k spot.Nothing r.place)
back fields names true (Word w ∷ ls) cut = absurd cut
back fields names true (Byte b ∷ ls) cut = λ k r kept.
    reads_line (IsOut k spot.Nothing r.place) (IsOut (kind_beyond k b) spot.Nothing (after_byte r b).place) b
    (outward fields (kind_beyond k b) spot.Nothing (flat_map without_long ls)).bytes (lexeme_bytes ls) cut.0 (λ q o. at_byte k r b q o)
    (back fields names false ls cut.1 (kind_beyond k b) spot.Nothing (after_byte r b) tt tt kept)
back fields names true (Note b ∷ ls) cut = λ k r kept.
    reads_note (IsOut k spot.Nothing r.place) b (outward fields k spot.Nothing (flat_map without_long ls)).bytes (lexeme_bytes ls) cut.0 (back fields names true ls cut.1 k r kept)
back fields names false (Byte b ∷ ls) cut = λ k s r known stops kept.
    byte_by fields k s r b (flat_map without_long ls) (lexeme_bytes ls) cut.0 cut.1 known stops
    (λ z st kn. back fields names false ls cut.2 (kind_beyond k b) z (after_byte r b) kn st kept) (b == 32) refl
back fields names false (Note b ∷ ls) cut = λ k s r known stops kept.
    note_plain fields k s r b (flat_map without_long ls) (lexeme_bytes ls) cut.0 known stops (back fields names true ls cut.1 k r kept)
back fields names false (Word w ∷ ls) cut = λ k s r known stops kept.
    word_by fields k s r w (flat_map without_long ls) (lexeme_bytes ls) names known cut.0 stops cut.1 (λ j z bare. out_stops fields j z ls bare cut.2 cut.1) (back fields names false ls cut.2)
    (nat_lt longest_word (length w)) refl kept
