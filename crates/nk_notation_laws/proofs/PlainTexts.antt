-- Texts that nk's lexemes make are left by `in`.
use Rattle.std.proofs.Common.{◌≡◌, ◌≤◌, ◌+◌, ◌==◌, ◌&&◌, ◌||◌, ◌⊎◌, inl, inr, ℕ, Bool, true, false, not, cond, List, [], ◌∷◌, ◌++◌, length, drop, decimal, refl, sym, ap, subst, ◌∙◌, arith, append_assoc, append-nil, get_or}
use Rattle.std.proofs.lemmas.Bool.{false≢true, ltb-false, ltb-true}
use Rattle.std.proofs.lemmas.Bool.Decides.{nat_tests}
use Rattle.std.specs.Prelude.{None, Ok, bytes_eq, codes, count_by, nat_lt}
use Rattle.std.specs.List.{list_all}
use Rattle.nk_lex.specs.Classes.{is_digit, is_name_byte, is_name_start, is_white}
use Rattle.nk_lex.specs.Lex.{largest}
use Rattle.nk_lex.specs.Spelling.{IsWord, Lexeme, Sign, numeral, sign, sign_bytes, space, line_feed, text_of, word, plus, semicolon, star, tilde, open_parenthesis, close_parenthesis, becomes, arrow, colon, comma, slash, dots, open_bracket, close_bracket}
use Rattle.nk_lex.proofs.Digits.{StopsAt, both_pass, digits_of}
use Rattle.nk_number_forms.specs.declared.forms.Atom.TheVariants as atom
use Rattle.nk_number_forms.specs.declared.fault.Cause.TheVariants as cause
use Rattle.nk_number_forms.specs.Forms.{address_of, atom_of, first_byte, hardware_of, hexadecimal_of, is_coloned, is_hex_or_colon, is_hexadecimal, last_byte, number_or}
use Rattle.nk_number_forms.specs.Numbers.{is_hex}
use Rattle.nk_names.proofs.Printed.{text_append}
use Rattle.nk_notation.specs.declared.inward.Inward.{Inward}
use Rattle.nk_notation.specs.declared.inward.Place.TheVariants as place
use Rattle.nk_notation.specs.Inward.{after_byte, after_word, both_atoms, name_place, place_after, size_at, spelled, text_start, word_in}
use Rattle.nk_notation.specs.Lexemes.{begins_word, is_run_byte, longest_word}
use Rattle.nk_notation.proofs.Cuts.{IsWordFront, not_that}
use Rattle.nk_notation.proofs.WrittenForms.{all_cons, and_false, decimal_all, decimal_passes, digit_other, is_other, last_after, no_dots, no_place, none_counted, not_coloned, not_dotted, passes_both, passes_run, un_not}
use Rattle.nk_notation.proofs.WrittenHardware.{colon_counts, other_counts}
use Rattle.nk_notation_laws.specs.Laws.{IsLeftByIn}
use Rattle.nk_notation_laws.specs.PlainLexemes.{ArePlain, EndsRun, ends, blank, ended, mark, named, number, interval, port, assigned, tested, prefixed, divided, equals, declared, linked, makes_no_word, joins, is_blank, AreBlanks}
use Rattle.nk_notation_laws.proofs.Places.{after_long, after_name, after_other, differ, equals_nameless, no_field, no_size}
use Rattle.nk_notation_laws.proofs.ReadsWords.{Reads, reads_byte, reads_long, reads_nothing, reads_word}
use Rattle.nk_notation_laws.proofs.RunsAgain.{all_two, decimal_run, decimal_still, is_nameless, number_nameless, number_slashed, range_still}
use Rattle.nk_notation_laws.proofs.Shapes.{IsStill, run_alone}
use Rattle.nk_notation_laws.proofs.ValuesBack.{plain_length}
use Rattle.nk_notation_laws.proofs.WordsAgain.{decimal_short, equals_kept, field_still, nameless_front, plain_word, range_runs, run_apart, run_kept}

-- no size is due
abbrev pub Bare : Inward → Type 0
Bare r = r.place ≡ place.Elsewhere

-- a run with none of the bytes `.` and `/`, that is no form
pub alone_still : (w : List ℕ) → list_all (is_other 46) w ≡ true → list_all (is_other 47) w ≡ true → is_coloned w ≡ false → is_hexadecimal w ≡ false → IsStill w
unfolding atom_of both_atoms spelled
alone_still w dot slashes colons hex = λ tables tests lead.
    run_alone w (no_dots w (passes_run w dot)) (no_place 47 w slashes) tables tests lead
    ∙ ap (λ a. both_atoms lead a w [] atom.Kept [])
    (ap (λ t. cond t (number_or cause.Address (address_of w)) (cond (is_coloned w) (number_or cause.HardwareAddress (hardware_of w)) (cond (is_hexadecimal w) (hexadecimal_of (drop 2 w)) atom.Kept))) (not_dotted w dot)
    ∙ ap (λ t. cond t (number_or cause.HardwareAddress (hardware_of w)) (cond (is_hexadecimal w) (hexadecimal_of (drop 2 w)) atom.Kept)) colons
    ∙ ap (λ t. cond t (hexadecimal_of (drop 2 w)) atom.Kept) hex)
    ∙ ap Ok (append-nil (lead ++ w ++ []) ∙ append-nil (lead ++ w))

-- the bytes of names
name_other : (c : ℕ) → is_name_byte c ≡ false → (w : List ℕ) → list_all is_name_byte w ≡ true → list_all (is_other c) w ≡ true
name_other c fails [] h = refl
name_other c fails (b ∷ w) h =
    let parts = both_pass (is_name_byte b) (list_all is_name_byte w) h in
    all_cons (is_other c) b w (ap not (not_that is_name_byte c b fails parts.0)) (name_other c fails w parts.1)

start_byte : (b : ℕ) → is_name_start b ≡ true → is_name_byte b ≡ true
start_byte b h = ap (λ t. t || is_digit b) h

word_bytes : (w : List ℕ) → IsWord w → list_all is_name_byte w ≡ true
word_bytes [] h = absurd h
word_bytes (b ∷ w) h = all_cons is_name_byte b w (start_byte b h.0) h.1

name_run : (b : ℕ) → is_name_byte b ≡ true → is_run_byte b ≡ true
name_run b h = ap (λ t. t || b == 46 || b == 58 || b == 47) h

names_run : (w : List ℕ) → list_all is_name_byte w ≡ true → list_all is_run_byte w ≡ true
names_run [] h = refl
names_run (b ∷ w) h =
    let parts = both_pass (is_name_byte b) (list_all is_name_byte w) h in
    all_cons is_run_byte b w (name_run b parts.0) (names_run w parts.1)

run_front : (w : List ℕ) → IsWord w → (v : List ℕ) → list_all is_run_byte v ≡ true → IsWordFront (w ++ v)
run_front [] h v runs = absurd h
run_front (b ∷ w) h v runs = (ap (λ t. t || b == 61) (name_run b (start_byte b h.0)), all_two is_run_byte w v (names_run w h.1) runs)

name_hex : (w : List ℕ) → IsWord w → (v : List ℕ) → is_hexadecimal (w ++ v) ≡ false
unfolding is_hexadecimal
name_hex [] h v = absurd h
name_hex (b ∷ w) h v = ap (λ t. t && (get_or (b ∷ w ++ v) 1 0 == 120)) (not_that is_name_start 48 b refl h.0)

pub name_still : (w : List ℕ) → IsWord w → IsStill w
name_still w h =
    let all = word_bytes w h in
    alone_still w (name_other 46 refl w all) (name_other 47 refl w all) (not_coloned w (name_other 58 refl w all)) (subst (λ v. is_hexadecimal v ≡ false) (append-nil w) (name_hex w h []))

-- a name and `:`
colon_hex : (b : ℕ) → (b == 58) ≡ true → is_hex b ≡ false
unfolding is_hex
colon_hex b e = grind (arith, nat_tests, e)

colon_last : (w : List ℕ) → is_coloned (w ++ 58 ∷ []) ≡ false
unfolding is_coloned
colon_last w =
    let v = w ++ 58 ∷ [] in
    let last : (last_byte v == 58) ≡ true = last_after (λ b. b == 58) w 58 [] refl in
    and_false (list_all is_hex_or_colon v && nat_lt 1 (count_by (λ b. b == 58) v) && is_hex (first_byte v)) (is_hex (last_byte v)) (colon_hex (last_byte v) last)

assigned_still : (w : List ℕ) → IsWord w → IsStill (w ++ 58 ∷ [])
assigned_still w h =
    let all = word_bytes w h in
    alone_still (w ++ 58 ∷ []) (all_two (is_other 46) w (58 ∷ []) (name_other 46 refl w all) refl) (all_two (is_other 47) w (58 ∷ []) (name_other 47 refl w all) refl)
    (colon_last w) (name_hex w h (58 ∷ []))

colon_still : IsStill (58 ∷ [])
unfolding is_hexadecimal
colon_still = alone_still (58 ∷ []) refl refl (colon_last []) refl

pub nothing_still : IsStill []
unfolding is_coloned is_hexadecimal first_byte last_byte is_hex
nothing_still = alone_still [] refl refl refl refl

-- two numbers with `:` between them
count_past : (v w : List ℕ) → list_all (is_other 58) v ≡ true → count_by (λ b. b == 58) (v ++ w) ≡ count_by (λ b. b == 58) w
count_past [] w h = refl
count_past (b ∷ v) w h =
    let parts = both_pass (is_other 58 b) (list_all (is_other 58) v) h in
    other_counts b (v ++ w) (un_not (b == 58) parts.0) ∙ count_past v w parts.1

abbrev pub port_run : (a b : ℕ) → List ℕ
port_run a b = decimal a ++ 58 ∷ decimal b

port_coloned : (a b : ℕ) → a ≤ largest → b ≤ largest → is_coloned (port_run a b) ≡ false
unfolding is_coloned
port_coloned a b la lb =
    let v = port_run a b in
    let others : (n : ℕ) → n ≤ largest → list_all (is_other 58) (decimal n) ≡ true = λ n le. decimal_all (is_other 58) (λ x digit. digit_other 58 x refl digit) n le in
    let one : count_by (λ x. x == 58) v ≡ 1 =
    count_past (decimal a) (58 ∷ decimal b) (others a la) ∙ colon_counts 58 (decimal b) refl ∙ ap (λ n. n + 1) (none_counted 58 (decimal b) (others b lb)) in
    ap (λ t. t && is_hex (first_byte v) && is_hex (last_byte v)) (and_false (list_all is_hex_or_colon v) (nat_lt 1 (count_by (λ x. x == 58) v)) (ap (nat_lt 1) one))

digits_hex : (d : ℕ) (ds v : List ℕ) → list_all is_digit ds ≡ true → is_hexadecimal (d ∷ ds ++ 58 ∷ v) ≡ false
unfolding is_hexadecimal
digits_hex d [] v h = and_false (d == 48) false refl
digits_hex d (e ∷ ds) v h = and_false (d == 48) (e == 120) (not_that is_digit 120 e refl (both_pass (is_digit e) (list_all is_digit ds) h).0)

pub port_still : (a b : ℕ) → a ≤ largest → b ≤ largest → IsStill (port_run a b)
port_still a b la lb =
    let others : (c : ℕ) → is_digit c ≡ false → (n : ℕ) → n ≤ largest → list_all (is_other c) (decimal n) ≡ true = λ c fails n le. decimal_all (is_other c) (λ x digit. digit_other c x fails digit) n le in
    let d = digits_of a la in
    alone_still (port_run a b)
    (all_two (is_other 46) (decimal a) (58 ∷ decimal b) (others 46 refl a la) (all_cons (is_other 46) 58 (decimal b) refl (others 46 refl b lb)))
    (all_two (is_other 47) (decimal a) (58 ∷ decimal b) (others 47 refl a la) (all_cons (is_other 47) 58 (decimal b) refl (others 47 refl b lb)))
    (port_coloned a b la lb)
    (ap (λ v. is_hexadecimal (v ++ 58 ∷ decimal b)) d.are ∙ digits_hex d.first d.rest (decimal b) d.digits)

-- a number and a length
abbrev prefix_run : (a b : ℕ) → List ℕ
prefix_run a b = decimal a ++ 47 ∷ decimal b

prefix_still : (a b : ℕ) → a ≤ largest → b ≤ largest → IsStill (prefix_run a b)
prefix_still a b la lb = number_slashed a la (decimal a) (decimal b) (no_dots (prefix_run a b) (passes_both (decimal a) (47 ∷ decimal b) (decimal_passes a la) (plain_length b lb)))

-- two numbers with a byte between them
pair_runs : (a b c : ℕ) → a ≤ largest → b ≤ largest → is_run_byte c ≡ true → list_all is_run_byte (decimal a ++ c ∷ decimal b) ≡ true
pair_runs a b c la lb run = all_two is_run_byte (decimal a) (c ∷ decimal b) (decimal_run a la) (all_cons is_run_byte c (decimal b) run (decimal_run b lb))

-- a word that is read where no size is due
bare_size : (r : Inward) (w : List ℕ) → Bare r → size_at r.place w ≡ None
unfolding size_at
bare_size r w e = ap (λ p. size_at p w) e

bare_after : (r : Inward) (w : List ℕ) → bytes_eq w (codes "field") ≡ false → Bare r → Bare (after_word r w)
unfolding after_word name_place
bare_after r w other e = after_other r.place w other ∙ ap (λ p. name_place p w) e

pub bare_byte : (r : Inward) (b : ℕ) → Bare r → Bare (after_byte r b)
unfolding after_byte
bare_byte r b e = elim (is_white b) as (λ t. cond t r.place place.Elsewhere ≡ place.Elsewhere) [
  | true ↦ e
  | false ↦ refl
]

-- bytes that `in` leaves
abbrev pub Left : List ℕ → Type 0
Left w = Reads false Bare w w

pub left_byte : (b : ℕ) (rest : List ℕ) → (b == 35) ≡ false → begins_word b ≡ false → Left rest → Left (b ∷ rest)
left_byte b rest hash begins next = reads_byte Bare Bare b rest rest hash begins (λ r e. bare_byte r b e) next

left_by : (w rest : List ℕ) → IsWordFront w → bytes_eq w (codes "field") ≡ false → ((r : Inward) → Bare r → word_in r w ≡ Ok w) → StopsAt is_run_byte rest → Left rest
    → (t : Bool) → nat_lt longest_word (length w) ≡ t → Left (w ++ rest)
left_by w rest front other is stops next true e = reads_long Bare Bare w rest rest front (ltb-true longest_word (length w) e) stops (λ r c. after_long r w front) next
left_by w rest front other is stops next false e =
    reads_word Bare Bare w w rest rest front (ltb-false longest_word (length w) e) stops (λ r c. (is r c, bare_after r w other c)) next

left_word : (w rest : List ℕ) → IsWordFront w → bytes_eq w (codes "field") ≡ false → ((r : Inward) → Bare r → word_in r w ≡ Ok w) → StopsAt is_run_byte rest → Left rest → Left (w ++ rest)
left_word w rest front other is stops next = left_by w rest front other is stops next (nat_lt longest_word (length w)) refl

-- a run, and a run after `=`
pub left_run : (w rest : List ℕ) → IsWordFront w → list_all is_run_byte w ≡ true → bytes_eq w (codes "field") ≡ false → IsStill w → StopsAt is_run_byte rest → Left rest → Left (w ++ rest)
left_run w rest front runs other still stops next = left_word w rest front other (λ r c. plain_word r w w (bare_size r w c) (run_kept w runs still r)) stops next

pub left_equals : (w rest : List ℕ) → list_all is_run_byte w ≡ true → IsStill w → StopsAt is_run_byte rest → Left rest → Left (61 ∷ w ++ rest)
left_equals w rest runs still stops next =
    left_word (61 ∷ w) rest (refl, runs) (no_field (61 ∷ w) (equals_nameless w))
    (λ r c. plain_word r (61 ∷ w) (61 ∷ w) (no_size r.place (61 ∷ w) (equals_nameless w)) (equals_kept w still r)) stops next

-- a run that begins with a number
pub left_number : (n : ℕ) (v rest : List ℕ) → n ≤ largest → list_all is_run_byte (decimal n ++ v) ≡ true → IsStill (decimal n ++ v) → StopsAt is_run_byte rest → Left rest
    → Left ((decimal n ++ v) ++ rest)
left_number n v rest le runs still stops next =
    let odd = number_nameless n le v in
    left_run (decimal n ++ v) rest (nameless_front (decimal n ++ v) runs odd) runs (no_field (decimal n ++ v) odd) still stops next

pub left_decimal : (n : ℕ) (rest : List ℕ) → n ≤ largest → StopsAt is_run_byte rest → Left rest → Left (decimal n ++ rest)
left_decimal n rest le stops next =
    subst (λ v. Left (v ++ rest)) (append-nil (decimal n))
    (left_number n [] rest le (all_two is_run_byte (decimal n) [] (decimal_run n le) refl) (subst IsStill (sym (append-nil (decimal n))) (decimal_still n le)) stops next)

pub word_run : (w : List ℕ) → IsWord w → list_all is_run_byte w ≡ true
word_run w h = names_run w (word_bytes w h)

pub word_front : (w : List ℕ) → IsWord w → IsWordFront w
word_front w h = subst IsWordFront (append-nil w) (run_front w h [] refl)

-- a number
pub decimal_odd : (n : ℕ) → n ≤ largest → is_nameless (decimal n) ≡ true
decimal_odd n le = subst (λ v. is_nameless v ≡ true) (append-nil (decimal n)) (number_nameless n le [])

pub decimal_front : (n : ℕ) → n ≤ largest → IsWordFront (decimal n)
decimal_front n le = nameless_front (decimal n) (decimal_run n le) (decimal_odd n le)

-- a name
pub left_name : (w rest : List ℕ) → IsWord w → bytes_eq w (codes "field") ≡ false → StopsAt is_run_byte rest → Left rest → Left (w ++ rest)
left_name w rest h other stops next =
    left_run w rest (word_front w h) (word_run w h) other (name_still w h) stops next

pub left_nothing : Left []
left_nothing = reads_nothing false Bare

-- a name with `:`, which is not the word `field`
colon_field : (w : List ℕ) → bytes_eq (w ++ 58 ∷ []) (codes "field") ≡ false
unfolding last_byte
colon_field w = differ (λ v. last_byte v == 58) (w ++ 58 ∷ []) (codes "field") (last_after (λ b. b == 58) w 58 [] refl) refl

-- what ends a run
sign_stops : (s : Sign) (rest : List ℕ) → joins s ≡ false → StopsAt is_run_byte (sign_bytes s ++ rest)
sign_stops becomes rest h = absurd (false≢true (sym h))
sign_stops colon rest h = absurd (false≢true (sym h))
sign_stops slash rest h = absurd (false≢true (sym h))
sign_stops dots rest h = absurd (false≢true (sym h))
sign_stops s rest h = refl

run_stops : (xs : List Lexeme) → EndsRun xs → StopsAt is_run_byte (text_of xs)
run_stops [] h = tt
run_stops (space ∷ xs) h = refl
run_stops (line_feed ∷ xs) h = refl
run_stops (word w ∷ xs) h = absurd h
run_stops (numeral n ∷ xs) h = absurd h
run_stops (sign s ∷ xs) h = sign_stops s (text_of xs) h

left_mark : (s : Sign) (rest : List ℕ) → makes_no_word s ≡ true → Left rest → Left (sign_bytes s ++ rest)
left_mark plus rest h next = left_byte 43 rest refl refl next
left_mark semicolon rest h next = left_byte 59 rest refl refl next
left_mark star rest h next = left_byte 42 rest refl refl next
left_mark tilde rest h next = left_byte 126 rest refl refl next
left_mark open_parenthesis rest h next = left_byte 40 rest refl refl next
left_mark close_parenthesis rest h next = left_byte 41 rest refl refl next
left_mark arrow rest h next = left_byte 45 (62 ∷ rest) refl refl (left_byte 62 rest refl refl next)
left_mark comma rest h next = left_byte 44 rest refl refl next
left_mark open_bracket rest h next = left_byte 91 rest refl refl next
left_mark close_bracket rest h next = left_byte 93 rest refl refl next
left_mark s rest h next = absurd (false≢true h)

pub left_pair : (a b c : ℕ) (rest : List ℕ) → a ≤ largest → b ≤ largest → is_run_byte c ≡ true → IsStill (decimal a ++ c ∷ decimal b) → StopsAt is_run_byte rest → Left rest
    → Left (decimal a ++ c ∷ (decimal b ++ rest))
left_pair a b c rest la lb run still stops next =
    subst Left (append_assoc (decimal a) (c ∷ decimal b) rest) (left_number a (c ∷ decimal b) rest la (pair_runs a b c la lb run) still stops next)

-- an assignment, a prefix and `:`
pub left_assigned : (w : List ℕ) (n : ℕ) (rest : List ℕ) → IsWord w → n ≤ largest → StopsAt is_run_byte rest → Left rest → Left (w ++ 58 ∷ 61 ∷ (decimal n ++ rest))
left_assigned w n rest h le stops next =
    subst Left (append_assoc w (58 ∷ []) (61 ∷ decimal n ++ rest))
    (left_run (w ++ 58 ∷ []) (61 ∷ decimal n ++ rest) (run_front w h (58 ∷ []) refl) (all_two is_run_byte w (58 ∷ []) (word_run w h) refl) (colon_field w) (assigned_still w h) refl
    (left_equals (decimal n) rest (decimal_run n le) (decimal_still n le) stops next))

-- a name with `:` after it, and a space
pub left_label : (w rest : List ℕ) → IsWord w → Left rest → Left (w ++ 58 ∷ 32 ∷ rest)
left_label w rest h next =
    subst Left (append_assoc w (58 ∷ []) (32 ∷ rest))
    (left_run (w ++ 58 ∷ []) (32 ∷ rest) (run_front w h (58 ∷ []) refl) (all_two is_run_byte w (58 ∷ []) (word_run w h) refl) (colon_field w) (assigned_still w h) refl
    (left_byte 32 rest refl refl next))

pub left_prefix : (a b : ℕ) (rest : List ℕ) → a ≤ largest → b ≤ largest → StopsAt is_run_byte rest → Left rest → Left (61 ∷ (decimal a ++ 47 ∷ (decimal b ++ rest)))
left_prefix a b rest la lb stops next =
    subst (λ v. Left (61 ∷ v)) (append_assoc (decimal a) (47 ∷ decimal b) rest)
    (left_equals (prefix_run a b) rest (pair_runs a b 47 la lb refl) (prefix_still a b la lb) stops next)

pub left_colon : (rest : List ℕ) → StopsAt is_run_byte rest → Left rest → Left (58 ∷ rest)
left_colon rest stops next = left_run (58 ∷ []) rest (refl, refl) refl refl colon_still stops next

-- after the word `field` a name may stand, and after the name the size of the field
abbrev AtField : Inward → Type 0
AtField r = r.place ≡ place.Field

abbrev AtName : Inward → Type 0
AtName r = (r.place ≡ place.Elsewhere) ⊎ (r.place ≡ place.Name)

word_here : (w : List ℕ) → IsWord w → (r : Inward) → AtField r → word_in r w ≡ Ok w
unfolding size_at
word_here w h r c = plain_word r w w (ap (λ p. size_at p w) c) (run_kept w (word_run w h) (name_still w h) r)

name_after : (w : List ℕ) → IsWord w → bytes_eq w (codes "field") ≡ false → (r : Inward) → AtField r → AtName (after_word r w)
unfolding after_word name_place
name_after w h other r c =
    inr (after_other r.place w other ∙ ap (λ p. name_place p w) c ∙ ap (λ t. cond t place.Elsewhere place.Name) (run_apart w (word_run w h)))

name_by : (w rest : List ℕ) → IsWord w → bytes_eq w (codes "field") ≡ false → StopsAt is_run_byte rest → Reads false AtName rest rest
    → (t : Bool) → nat_lt longest_word (length w) ≡ t → Reads false AtField (w ++ rest) (w ++ rest)
name_by w rest h other stops next true e = reads_long AtField AtName w rest rest (word_front w h) (ltb-true longest_word (length w) e) stops (λ r c. inl (after_long r w (word_front w h))) next
name_by w rest h other stops next false e = reads_word AtField AtName w w rest rest (word_front w h) (ltb-false longest_word (length w) e) stops (λ r c. (word_here w h r c, name_after w h other r c)) next

number_by : (n : ℕ) (rest : List ℕ) → n ≤ largest → StopsAt is_run_byte rest → Left rest → Reads false AtName (decimal n ++ rest) (decimal n ++ rest)
unfolding after_word
number_by n rest le stops next =
    reads_word AtName Bare (decimal n) (decimal n) rest rest (decimal_front n le) (omega (arith, decimal_short n le)) stops
    (λ r c. (
      plain_word r (decimal n) (decimal n) (no_size r.place (decimal n) (decimal_odd n le)) (run_kept (decimal n) (decimal_run n le) (decimal_still n le) r),
      after_name r.place (decimal n) c (no_field (decimal n) (decimal_odd n le)),
    ))
    next

field_by : (rest : List ℕ) → StopsAt is_run_byte rest → Reads false AtField rest rest → Left (codes "field" ++ rest)
unfolding after_word place_after size_at
field_by rest stops next =
    reads_word Bare AtField (codes "field") (codes "field") rest rest (refl, refl) (omega arith) stops
    (λ r c. (plain_word r (codes "field") (codes "field") (ap (λ p. size_at p (codes "field")) c) (run_kept (codes "field") refl field_still r), refl)) next

-- blanks, after which as much is known as before them
spaced : (C : Inward → Type 0) → ((r : Inward) → C r → C (after_byte r 32)) → ((r : Inward) → C r → C (after_byte r 10))
    → (xs : List Lexeme) → list_all is_blank xs ≡ true → (rest : List ℕ) → Reads false C rest rest → Reads false C (text_of xs ++ rest) (text_of xs ++ rest)
spaced C on under [] h rest next = next
spaced C on under (space ∷ xs) h rest next = reads_byte C C 32 (text_of xs ++ rest) (text_of xs ++ rest) refl refl on (spaced C on under xs h rest next)
spaced C on under (line_feed ∷ xs) h rest next = reads_byte C C 10 (text_of xs ++ rest) (text_of xs ++ rest) refl refl under (spaced C on under xs h rest next)
spaced C on under xs h rest next = absurd (false≢true h)

all_blank : (xs : List Lexeme) → AreBlanks xs → list_all is_blank xs ≡ true
all_blank [] h = absurd h
all_blank (x ∷ xs) h = all_first (is_blank x) (list_all is_blank xs) h.0 h.1
  where
    all_first : (t u : Bool) → t ≡ true → u ≡ true → (t && u) ≡ true
    all_first t u e f = ap (λ v. v && u) e ∙ f

blanks_stop : (xs : List Lexeme) → AreBlanks xs → (rest : List ℕ) → StopsAt is_run_byte (text_of xs ++ rest)
blanks_stop [] h rest = absurd h
blanks_stop (space ∷ xs) h rest = refl
blanks_stop (line_feed ∷ xs) h rest = refl
blanks_stop xs h rest = absurd (false≢true h.0)

-- a declared field whose largest value is a number
pub left_declared : (first : List Lexeme) (w : List ℕ) (second : List Lexeme) (n : ℕ) (rest : List ℕ) → AreBlanks first → IsWord w → bytes_eq w (codes "field") ≡ false → AreBlanks second
    → n ≤ largest → StopsAt is_run_byte rest → Left rest → Left (codes "field" ++ (text_of first ++ (w ++ (text_of second ++ (decimal n ++ rest)))))
unfolding after_byte
left_declared first w second n rest b h other c le stops next =
    let number : List ℕ = decimal n ++ rest in
    let named : List ℕ = w ++ (text_of second ++ number) in
    field_by (text_of first ++ named) (blanks_stop first b named)
    (spaced AtField (λ r e. e) (λ r e. e) first (all_blank first b) named
    (name_by w (text_of second ++ number) h other (blanks_stop second c number)
    (spaced AtName (λ r e. e) (λ r e. e) second (all_blank second c) number (number_by n rest le stops next))
    (nat_lt longest_word (length w)) refl))

declared_text : (first : List Lexeme) (w : List ℕ) (second : List Lexeme) (n : ℕ) (xs : List Lexeme)
    → text_of (word (codes "field") ∷ (first ++ (word w ∷ (second ++ (numeral n ∷ xs))))) ≡ codes "field" ++ (text_of first ++ (w ++ (text_of second ++ (decimal n ++ text_of xs))))
declared_text first w second n xs =
    ap (λ v. codes "field" ++ v) (text_append first (word w ∷ (second ++ (numeral n ∷ xs))) ∙ ap (λ v. text_of first ++ (w ++ v)) (text_append second (numeral n ∷ xs)))

-- the text of lexemes with plain numbers
left_text : (xs : List Lexeme) → ArePlain xs → Left (text_of xs)
left_text xs ends = left_nothing
left_text xs (blank ys p) = left_byte 32 (text_of ys) refl refl (left_text ys p)
left_text xs (ended ys p) = left_byte 10 (text_of ys) refl refl (left_text ys p)
left_text xs (mark s ys h p) = left_mark s (text_of ys) h (left_text ys p)
left_text xs (named w ys h other e p) =
    left_name w (text_of ys) h other (run_stops ys e) (left_text ys p)
left_text xs (number n ys le e p) = left_decimal n (text_of ys) le (run_stops ys e) (left_text ys p)
left_text xs (interval a b ys la lb e p) =
    subst Left (append_assoc (decimal a) (46 ∷ 46 ∷ decimal b) (text_of ys))
    (left_number a (46 ∷ 46 ∷ decimal b) (text_of ys) la (range_runs a b la lb) (range_still a b la lb) (run_stops ys e) (left_text ys p))
left_text xs (port a b ys la lb e p) = left_pair a b 58 (text_of ys) la lb refl (port_still a b la lb) (run_stops ys e) (left_text ys p)
left_text xs (assigned w n ys h le e p) = left_assigned w n (text_of ys) h le (run_stops ys e) (left_text ys p)
left_text xs (tested n ys le e p) = left_equals (decimal n) (text_of ys) (decimal_run n le) (decimal_still n le) (run_stops ys e) (left_text ys p)
left_text xs (prefixed a b ys la lb e p) = left_prefix a b (text_of ys) la lb (run_stops ys e) (left_text ys p)
left_text xs (divided ys e p) = left_colon (text_of ys) (run_stops ys e) (left_text ys p)
left_text xs (equals ys e p) = left_equals [] (text_of ys) refl nothing_still (run_stops ys e) (left_text ys p)
left_text xs (declared first w second n ys b h other c le e p) =
    subst Left (sym (declared_text first w second n ys)) (left_declared first w second n (text_of ys) b h other c le (run_stops ys e) (left_text ys p))
left_text xs (linked ys p) = left_equals [] (62 ∷ text_of ys) refl nothing_still refl (left_byte 62 (text_of ys) refl refl (left_text ys p))

pub plain_left : (xs : List Lexeme) → ArePlain xs → IsLeftByIn (text_of xs)
plain_left xs p = left_text xs p text_start refl
