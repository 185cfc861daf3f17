-- What `out` knows of the words before, and how what it writes begins.
use Rattle.std.proofs.Common.{◌≡◌, ◌+◌, ◌-◌, ◌==◌, ◌&&◌, ◌||◌, ℕ, Bool, true, false, not, cond, List, [], ◌∷◌, ◌++◌, length, map, take, drop, refl, sym, ap, subst, ◌∙◌, arith, append_assoc}
use Rattle.std.proofs.lemmas.Bool.{false≢true}
use Rattle.std.proofs.lemmas.Bool.Decides.{nat_tests}
use Rattle.std.specs.Prelude.{flat_map, Option, None, Some, bytes_eq, codes, nat_lt}
use Rattle.std.specs.List.{list_all, list_any}
use Rattle.nk_lex.specs.Classes.{is_digit, is_name_byte, is_name_start}
use Rattle.nk_lex.proofs.Digits.{StopsAt, both_pass}
use Rattle.nk_number_forms.specs.Forms.{first_byte, has_dots, last_byte, place_of_dots}
use Rattle.nk_number_forms.specs.Numbers.{number_within}
use Rattle.nk_notation.specs.declared.context.TextKind.{TextKind}
use Rattle.nk_notation.specs.declared.context.TextKind.TheVariants as text
use Rattle.nk_notation.specs.declared.outward.Form.{Form}
use Rattle.nk_notation.specs.declared.outward.Spot.{Spot}
use Rattle.nk_notation.specs.declared.outward.Spot.TheVariants as spot
use Rattle.nk_notation.specs.Inward.{is_tables, kind_after, kind_beyond}
use Rattle.nk_notation.specs.Laws.{lexeme_bytes}
use Rattle.nk_notation.specs.Lexemes.{TextLexeme, Word, Byte, Note, begins_word, is_run_byte, longest_word, without_long}
use Rattle.nk_notation.specs.Outward.{NamedForms, assigned_spot, byte_out, ends_out, form_of, held, interval_out, largest_in_form, length_of, name_spot, named_spot, outward, range_out, spot_after, number_out, spot_beyond, value_out, word_out}
use Rattle.nk_notation.specs.Translation.{then_rest}
use Rattle.nk_notation.specs.Words.{is_name}
use Rattle.nk_notation.proofs.Cuts.{IsWordFront, not_that}
use Rattle.nk_notation_laws.proofs.ReadAgain.{stops_word, word_stops}
use Rattle.nk_notation_laws.proofs.Places.{differ}
use Rattle.nk_notation_laws.proofs.ReadsWords.{IsCut, no_run}
use Rattle.nk_notation_laws.proofs.RunsAgain.{is_nameless}

-- the kind of the text is known
abbrev pub IsKnown : TextKind → Type 0
IsKnown text.Unknown = ⊥
IsKnown text.Tables = Unit {0}
IsKnown text.Other = Unit {0}

pub known_word : (k : TextKind) (w : List ℕ) → IsKnown k → kind_after k w ≡ k
unfolding kind_after
known_word text.Unknown w h = absurd h
known_word text.Tables w h = refl
known_word text.Other w h = refl

pub known_byte : (k : TextKind) (b : ℕ) → IsKnown k → kind_beyond k b ≡ k
unfolding kind_beyond
known_byte text.Unknown b h = absurd h
known_byte text.Tables b h = refl
known_byte text.Other b h = refl

-- it is after a word
pub after_known : (k : TextKind) (w : List ℕ) → IsKnown (kind_after k w)
unfolding kind_after
after_known text.Unknown w = elim (bytes_eq w (codes "tables")) as (λ t. IsKnown (cond t text.Tables text.Other)) [
  | true ↦ tt
  | false ↦ tt
]
after_known text.Tables w = tt
after_known text.Other w = tt

-- it is where a field's name stands before
abbrev pub IsSpotKnown : Spot → TextKind → Type 0
IsSpotKnown spot.Nothing k = Unit {0}
IsSpotKnown s k = IsKnown k

pub spot_known : (s : Spot) (k : TextKind) → IsKnown k → IsSpotKnown s k
spot_known spot.Nothing k h = tt
spot_known s k h = h

-- the fields have names
abbrev pub AreNames : NamedForms → Type 0
AreNames [] = Unit {0}
AreNames (f ∷ fs) = (is_name f.0 ≡ true) × AreNames fs

no_dot_named : (w : List ℕ) → list_all is_name_byte w ≡ true → list_any (λ b. b == 46) w ≡ false
no_dot_named [] h = refl
no_dot_named (b ∷ w) h =
    let parts = both_pass (is_name_byte b) (list_all is_name_byte w) h in
    ap (λ t. t || list_any (λ x. x == 46) w) (not_that is_name_byte 46 b refl parts.0) ∙ no_dot_named w parts.1

start_no_digit : (b : ℕ) → is_name_start b ≡ true → is_digit b ≡ false
start_no_digit b h = grind (arith, nat_tests)

name_by : (w : List ℕ) → is_nameless w ≡ true → (t : Bool) → (is_name_start (first_byte w) && list_all is_name_byte w) ≡ t → t ≡ false
name_by w odd true e =
    let parts = both_pass (is_name_start (first_byte w)) (list_all is_name_byte w) e in
    let none : is_nameless w ≡ false =
    ap (λ t. t || (is_digit (first_byte w) || list_any (λ b. b == 46) w)) (not_that is_name_start 61 (first_byte w) refl parts.0)
    ∙ ap (λ t. t || list_any (λ b. b == 46) w) (start_no_digit (first_byte w) parts.0) ∙ no_dot_named w parts.1 in
    absurd (false≢true (sym none ∙ odd))
name_by w odd false e = refl

no_name : (w : List ℕ) → is_nameless w ≡ true → is_name w ≡ false
unfolding is_name
no_name w odd = name_by w odd (is_name_start (first_byte w) && list_all is_name_byte w) refl

unnamed : (fields : NamedForms) (w : List ℕ) → AreNames fields → is_name w ≡ false → form_of fields w ≡ None
unfolding form_of
unnamed [] w names h = refl
unnamed (f ∷ fs) w names h =
    ap (λ t. cond t (Some f.1) (form_of fs w)) (differ (λ v. not (is_name v)) w f.0 (ap not h) (ap not names.0)) ∙ unnamed fs w names.1 h

-- the byte before is no `:`, where a name stands before
abbrev pub IsLastFit : Spot → ℕ → Type 0
IsLastFit spot.Nothing b = Unit {0}
IsLastFit (spot.Assigned f) b = Unit {0}
IsLastFit s b = (b == 58) ≡ false

last_by : (w : List ℕ) (o p : Option Form) (t : Bool) → (last_byte w == 58) ≡ t → IsLastFit (cond t (assigned_spot o) (name_spot p)) (last_byte w)
unfolding assigned_spot name_spot
last_by w None p true e = tt
last_by w (Some f) p true e = tt
last_by w o None false e = tt
last_by w o (Some f) false e = e

pub last_fits : (fields : NamedForms) (w : List ℕ) → IsLastFit (named_spot fields w) (last_byte w)
unfolding named_spot
last_fits fields w = last_by w (form_of fields (take (length w - 1) w)) (form_of fields w) (last_byte w == 58) refl

odd_by : (b : ℕ) (o p : Option Form) (t : Bool) → p ≡ None → IsLastFit (cond t (assigned_spot o) (name_spot p)) b
unfolding assigned_spot name_spot
odd_by b None p true e = tt
odd_by b (Some f) p true e = tt
odd_by b o p false e = subst (λ x. IsLastFit (name_spot x) b) (sym e) tt

-- after what is no name, any byte may stand
pub nameless_fits : (fields : NamedForms) (w : List ℕ) (b : ℕ) → AreNames fields → is_nameless w ≡ true → IsLastFit (named_spot fields w) b
unfolding named_spot
nameless_fits fields w b names odd = odd_by b (form_of fields (take (length w - 1) w)) (form_of fields w) (last_byte w == 58) (unnamed fields w names (no_name w odd))

-- nothing is held after a word that may be a name
abbrev pub IsBare : Spot → Type 0
IsBare (spot.Blank f) = ⊥
IsBare (spot.In f) = ⊥
IsBare (spot.Range f) = ⊥
IsBare s = Unit {0}

bare_by : (o p : Option Form) (t : Bool) → IsBare (cond t (assigned_spot o) (name_spot p))
unfolding assigned_spot name_spot
bare_by None p true = tt
bare_by (Some f) p true = tt
bare_by o None false = tt
bare_by o (Some f) false = tt

pub named_bare : (fields : NamedForms) (w : List ℕ) → IsBare (named_spot fields w)
unfolding named_spot
named_bare fields w = bare_by (form_of fields (take (length w - 1) w)) (form_of fields w) (last_byte w == 58)

pub bare_held : (s : Spot) → IsBare s → held s ≡ []
unfolding held
bare_held (spot.Blank f) h = absurd h
bare_held (spot.In f) h = absurd h
bare_held (spot.Range f) h = absurd h
bare_held s h = refl

-- what `out` writes of a byte that is no space
pub byte_held : (s : Spot) (b : ℕ) → (b == 32) ≡ false → byte_out s b ≡ held s ++ b ∷ []
unfolding byte_out held
byte_held (spot.Name f) b e = ap (λ t. cond t [] (b ∷ [])) e
byte_held (spot.In f) b e = ap (λ t. cond t [] (codes " in" ++ b ∷ [])) e
byte_held s b e = refl

pub byte_beyond : (s : Spot) (b : ℕ) → (b == 32) ≡ false → spot_beyond s b ≡ spot.Nothing
unfolding spot_beyond
byte_beyond (spot.Name f) b e = ap (λ t. cond t (spot.Blank f) spot.Nothing) e
byte_beyond (spot.In f) b e = ap (λ t. cond t (spot.Range f) spot.Nothing) e
byte_beyond s b e = refl

-- the kind of a text after bytes outside words
abbrev pub kind_past : TextKind → List ℕ → TextKind
kind_past k [] = k
kind_past k (b ∷ w) = kind_past (kind_beyond k b) w

out_bytes : (fields : NamedForms) (k : TextKind) (w : List ℕ) (ls : List TextLexeme)
    → outward fields k spot.Nothing (map Byte w ++ ls) ≡ then_rest w (outward fields (kind_past k w) spot.Nothing ls)
unfolding byte_out held spot_beyond
out_bytes fields k [] ls = refl
out_bytes fields k (b ∷ w) ls = ap (then_rest (b ∷ [])) (out_bytes fields (kind_beyond k b) w ls)

-- a word that is too long
pub out_long : (fields : NamedForms) (k : TextKind) (s : Spot) (w : List ℕ) (ls : List TextLexeme) → IsWordFront w
    → outward fields k s (map Byte w ++ ls) ≡ then_rest (held s ++ w) (outward fields (kind_past k w) spot.Nothing ls)
out_long fields k s [] ls front = absurd front
out_long fields k s (b ∷ w) ls front =
    let other : (b == 32) ≡ false = not_that begins_word 32 b refl front.0 in
    let rest = outward fields (kind_past (kind_beyond k b) w) spot.Nothing ls in
    ap (λ t. then_rest (byte_out s b) (outward fields (kind_beyond k b) t (map Byte w ++ ls))) (byte_beyond s b other)
    ∙ ap (λ x. then_rest x (outward fields (kind_beyond k b) spot.Nothing (map Byte w ++ ls))) (byte_held s b other)
    ∙ ap (then_rest (held s ++ b ∷ [])) (out_bytes fields (kind_beyond k b) w ls)
    ∙ ap (λ x. record { bytes = x; fault = rest.fault }) (sym (append_assoc (held s ++ b ∷ []) w rest.bytes) ∙ ap (λ x. x ++ rest.bytes) (append_assoc (held s) (b ∷ []) w))

-- how what `out` writes begins: after a field's name, by a space or `=`
interval_stops : (f : Form) (x y : ℕ) (o : Option ℕ) (rest : List ℕ) → StopsAt is_run_byte (interval_out f x y o ++ rest)
unfolding interval_out
interval_stops f x y None rest = refl
interval_stops f x y (Some k) rest = refl

ends_stop : (tables : Bool) (f : Form) (w : List ℕ) (o p : Option ℕ) (rest : List ℕ) → StopsAt is_run_byte (ends_out tables f w o p ++ rest)
unfolding ends_out
ends_stop tables f w None None rest = refl
ends_stop tables f w None (Some y) rest = refl
ends_stop tables f w (Some x) None rest = refl
ends_stop tables f w (Some x) (Some y) rest = interval_stops f x y (length_of tables f x y) rest

range_stops : (tables : Bool) (f : Form) (w rest : List ℕ) → StopsAt is_run_byte (range_out tables f w ++ rest)
unfolding range_out
range_stops tables f w rest =
    let a = number_within (largest_in_form f) (take (place_of_dots w) w) in
    let b = number_within (largest_in_form f) (drop (place_of_dots w + 2) w) in
    elim (has_dots w) as (λ t. StopsAt is_run_byte (cond t (ends_out tables f w a b) (codes " in " ++ w) ++ rest)) [
      | true ↦ ends_stop tables f w a b rest
      | false ↦ refl
    ]

at_range : (fields : NamedForms) (k : TextKind) (f : Form) (ls : List TextLexeme) → StopsAt is_run_byte (outward fields k (spot.Range f) ls).bytes
unfolding held word_out byte_out
at_range fields k f (Word w ∷ ls) = range_stops (is_tables k) f w (outward fields (kind_after k w) (spot_after fields (spot.Range f) w) ls).bytes
at_range fields k f ls = refl

at_in : (fields : NamedForms) (k : TextKind) (f : Form) (ls : List TextLexeme) → StopsAt is_run_byte (outward fields k (spot.In f) ls).bytes
unfolding held word_out byte_out spot_beyond
at_in fields k f (Byte b ∷ ls) =
    elim (b == 32) as (λ t. StopsAt is_run_byte (cond t [] (codes " in" ++ b ∷ []) ++ (outward fields (kind_beyond k b) (cond t (spot.Range f) spot.Nothing) ls).bytes)) [
      | true ↦ at_range fields (kind_beyond k b) f ls
      | false ↦ refl
    ]
at_in fields k f ls = refl

at_blank : (fields : NamedForms) (k : TextKind) (f : Form) (ls : List TextLexeme) → StopsAt is_run_byte (outward fields k (spot.Blank f) ls).bytes
unfolding held word_out byte_out spot_after
at_blank fields k f (Word w ∷ ls) =
    elim (bytes_eq w (codes "in")) as (λ t. StopsAt is_run_byte (cond t [] (codes " " ++ w) ++ (outward fields (kind_after k w) (cond t (spot.In f) (named_spot fields w)) ls).bytes)) [
      | true ↦ at_in fields (kind_after k w) f ls
      | false ↦ refl
    ]
at_blank fields k f ls = refl

at_name : (fields : NamedForms) (k : TextKind) (f : Form) (b : ℕ) (ls : List TextLexeme) → is_run_byte b ≡ false → StopsAt is_run_byte (outward fields k (spot.Name f) (Byte b ∷ ls)).bytes
unfolding byte_out spot_beyond
at_name fields k f b ls s =
    elim (b == 32) as (λ t. StopsAt is_run_byte (cond t [] (b ∷ []) ++ (outward fields (kind_beyond k b) (cond t (spot.Blank f) spot.Nothing) ls).bytes)) [
      | true ↦ at_blank fields (kind_beyond k b) f ls
      | false ↦ s
    ]

equals_stops : (t : Bool) (v w rest : List ℕ) → IsWordFront w → StopsAt is_run_byte w → StopsAt is_run_byte (cond t (codes "=" ++ v) w ++ rest)
equals_stops true v w rest front s = refl
equals_stops false v w rest front s = stops_word w rest front s

word_stop : (fields : NamedForms) (k : TextKind) (s : Spot) (w : List ℕ) (ls : List TextLexeme) → IsBare s → IsWordFront w → StopsAt is_run_byte w → (t : Bool)
    → StopsAt is_run_byte (outward fields k s (cond t (map Byte w) (Word w ∷ []) ++ ls)).bytes
unfolding word_out held
word_stop fields k s w ls bare front st true =
    let rest : List ℕ = (outward fields (kind_past k w) spot.Nothing ls).bytes in
    subst (λ t. StopsAt is_run_byte t.bytes) (sym (out_long fields k s w ls front))
    (subst (λ h. StopsAt is_run_byte ((h ++ w) ++ rest)) (sym (bare_held s bare)) (stops_word w rest front st))
word_stop fields k spot.Nothing w ls bare front st false = stops_word w (outward fields (kind_after k w) (spot_after fields spot.Nothing w) ls).bytes front st
word_stop fields k (spot.Name f) w ls bare front st false =
    equals_stops (first_byte w == 61) (value_out (is_tables k) f (drop 1 w)) w (outward fields (kind_after k w) (spot_after fields (spot.Name f) w) ls).bytes front st
word_stop fields k (spot.Assigned f) w ls bare front st false =
    equals_stops (first_byte w == 61) (number_out f (drop 1 w)) w (outward fields (kind_after k w) (spot_after fields (spot.Assigned f) w) ls).bytes front st
word_stop fields k s w ls bare front st false = absurd bare

byte_stop : (fields : NamedForms) (k : TextKind) (s : Spot) (b : ℕ) (ls : List TextLexeme) → IsBare s → is_run_byte b ≡ false → StopsAt is_run_byte (outward fields k s (Byte b ∷ ls)).bytes
unfolding byte_out held
byte_stop fields k spot.Nothing b ls bare st = st
byte_stop fields k (spot.Name f) b ls bare st = at_name fields k f b ls st
byte_stop fields k (spot.Assigned f) b ls bare st = st
byte_stop fields k s b ls bare st = absurd bare

-- what `out` writes ends a word where the text ends it
pub out_stops : (fields : NamedForms) (k : TextKind) (s : Spot) (ls : List TextLexeme) → IsBare s → IsCut false ls → StopsAt is_run_byte (lexeme_bytes ls)
    → StopsAt is_run_byte (outward fields k s (flat_map without_long ls)).bytes
out_stops fields k s [] bare cut st = subst (StopsAt is_run_byte) (sym (bare_held s bare)) tt
out_stops fields k s (Word w ∷ ls) bare cut st = word_stop fields k s w (flat_map without_long ls) bare cut.0 (word_stops w (lexeme_bytes ls) cut.0 st) (nat_lt longest_word (length w))
out_stops fields k s (Byte b ∷ ls) bare cut st = byte_stop fields k s b (flat_map without_long ls) bare (no_run b cut.1)
out_stops fields k s (Note b ∷ ls) bare cut st =
    subst (λ h. StopsAt is_run_byte ((h ++ b ∷ []) ++ (outward fields k spot.Nothing (flat_map without_long ls)).bytes)) (sym (bare_held s bare)) st
