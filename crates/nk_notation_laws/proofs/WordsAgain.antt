-- What `in` makes of a word is left as it is.
use Rattle.std.proofs.Common.{◌≡◌, ◌≤◌, ◌<◌, ◌==◌, ◌||◌, inl, inr, ℕ, Bool, true, false, not, cond, List, [], ◌∷◌, ◌++◌, length, drop, decimal, refl, sym, ap, subst, ◌∙◌, arith, append-nil, length-append}
use Rattle.std.proofs.lemmas.Bool.{false≢true, eqb-true}
use Rattle.std.proofs.lemmas.Fmt.{length-decimal-le}
use Rattle.std.proofs.lemmas.Slice.Eq.{bytes_eq-Decides}
use Rattle.std.specs.Prelude.{Option, None, Some, Ok, bytes_eq, codes}
use Rattle.std.specs.List.{list_all, list_any}
use Rattle.nk_lex.specs.Classes.{is_digit}
use Rattle.nk_lex.specs.Lex.{largest}
use Rattle.nk_lex.proofs.Digits.{StopsAt, both_pass}
use Rattle.nk_number_forms.specs.Forms.{atom_of, first_byte, first_place, is_coloned, is_digit_or_dot, is_dotted, is_hex_or_colon, is_hexadecimal, last_byte, place_of_dots}
use Rattle.nk_number_forms.specs.Numbers.{is_hex}
use Rattle.nk_notation.specs.declared.inward.Inward.{Inward}
use Rattle.nk_notation.specs.declared.inward.Place.{Place}
use Rattle.nk_notation.specs.declared.inward.Place.TheVariants as place
use Rattle.nk_notation.specs.Inward.{after_byte, after_word, both_atoms, is_tables, place_after, plain_in, range_in, run_in, size_at, size_of_kind, sized_in, slash_in, small_size, spelled, word_in}
use Rattle.nk_notation.specs.Lexemes.{is_run_byte, longest_word}
use Rattle.nk_notation.proofs.Cuts.{IsWordFront, not_that}
use Rattle.nk_notation.proofs.WrittenForms.{all_cons}
use Rattle.nk_notation_laws.proofs.Bounds.{Below, below_is}
use Rattle.nk_notation_laws.proofs.Places.{Follows, after_equals, after_name, after_two, equals_nameless, follows_other, follows_word, no_field, no_size}
use Rattle.nk_notation_laws.proofs.ReadsWords.{Reads, reads_byte, reads_word, run_begins}
use Rattle.nk_notation_laws.proofs.RunsAgain.{Comes, changed, kept, ranged, all_two, decimal_run, decimal_still, dot_nameless, is_nameless, number_nameless, range_still, run_comes, same_text}
use Rattle.nk_notation_laws.proofs.Shapes.{IsStill, joined}

-- a word where no size is due
pub plain_word : (r : Inward) (w t : List ℕ) → size_at r.place w ≡ None → plain_in r w ≡ Ok t → word_in r w ≡ Ok t
unfolding word_in
plain_word r w t e h = ap (λ o. sized_in o (plain_in r w)) e ∙ h

-- a run of bytes that is no name is a word
pub nameless_front : (w : List ℕ) → list_all is_run_byte w ≡ true → is_nameless w ≡ true → IsWordFront w
unfolding first_byte
nameless_front [] runs h = absurd (false≢true h)
nameless_front (b ∷ w) runs h =
    let parts = both_pass (is_run_byte b) (list_all is_run_byte w) runs in
    (ap (λ t. t || b == 61) parts.0, parts.1)

pub run_apart : (w : List ℕ) → list_all is_run_byte w ≡ true → (first_byte w == 61) ≡ false
unfolding first_byte
run_apart [] runs = refl
run_apart (b ∷ w) runs = not_that is_run_byte 61 b refl (both_pass (is_run_byte b) (list_all is_run_byte w) runs).0

-- a word that doesn't begin with `=`, and one that does
pub plain_run : (r : Inward) (w : List ℕ) → (first_byte w == 61) ≡ false → plain_in r w ≡ run_in (is_tables r.kind) false [] w
unfolding plain_in
plain_run r w e = ap (λ t. cond t (run_in (is_tables r.kind) (not (r.last == 58)) (codes "=") (drop 1 w)) (run_in (is_tables r.kind) false [] w)) e

pub plain_equals : (r : Inward) (w : List ℕ) → plain_in r (61 ∷ w) ≡ run_in (is_tables r.kind) (not (r.last == 58)) (codes "=") w
unfolding plain_in first_byte
plain_equals r w = refl

-- words that `in` leaves as they are
pub run_kept : (w : List ℕ) → list_all is_run_byte w ≡ true → IsStill w → (r : Inward) → plain_in r w ≡ Ok w
run_kept w runs still r = plain_run r w (run_apart w runs) ∙ still (is_tables r.kind) false []

pub equals_kept : (w : List ℕ) → IsStill w → (r : Inward) → plain_in r (61 ∷ w) ≡ Ok (61 ∷ w)
equals_kept w still r = plain_equals r w ∙ still (is_tables r.kind) (not (r.last == 58)) (codes "=")

pub field_still : IsStill (codes "field")
unfolding run_in range_in slash_in both_atoms spelled atom_of is_dotted is_coloned is_hexadecimal is_digit_or_dot is_hex_or_colon is_hex first_byte last_byte first_place place_of_dots
field_still = λ tables tests lead. ap Ok (append-nil (lead ++ codes "field" ++ []) ∙ append-nil (lead ++ codes "field"))

in_still : IsStill (codes "in")
unfolding run_in range_in slash_in both_atoms spelled atom_of is_dotted is_coloned is_hexadecimal is_digit_or_dot is_hex_or_colon is_hex first_byte last_byte first_place place_of_dots
in_still = λ tables tests lead. ap Ok (append-nil (lead ++ codes "in" ++ []) ∙ append-nil (lead ++ codes "in"))

-- what a word becomes: a word that stays, or the range of a prefix's addresses
pub data WordComes (p : Place) (w t : List ℕ) : Type 0 where
  one : IsWordFront t → (StopsAt is_run_byte w → StopsAt is_run_byte t) → ((r : Inward) → Follows p r.place → (word_in r t ≡ Ok t) × Follows (place_after p w) (place_after r.place t)) → WordComes p w t
  range : (n m : ℕ) → n ≤ largest → m ≤ largest → first_byte w ≡ 61 → t ≡ codes " in " ++ decimal n ++ codes ".." ++ decimal m → WordComes p w t

-- what is no name isn't made of the word `field`
field_by : (r : Inward) (w t : List ℕ) → plain_in r w ≡ Ok t → is_nameless t ≡ true → (u : Bool) → bytes_eq w (codes "field") ≡ u → u ≡ false
unfolding first_byte
field_by r w t h odd true e =
    let same : w ≡ codes "field" = (bytes_eq-Decides w (codes "field")).0 e in
    let there : codes "field" ≡ t = same_text (codes "field") t (sym (run_kept (codes "field") refl field_still r) ∙ ap (plain_in r) (sym same) ∙ h) in
    absurd (false≢true (ap is_nameless there ∙ odd))
field_by r w t h odd false e = refl

not_field : (r : Inward) (w t : List ℕ) → plain_in r w ≡ Ok t → is_nameless t ≡ true → bytes_eq w (codes "field") ≡ false
not_field r w t h odd = field_by r w t h odd (bytes_eq w (codes "field")) refl

-- a word that begins with `=`
one_equals : (p : Place) (w v : List ℕ) → list_all is_run_byte v ≡ true → IsStill v → WordComes p (61 ∷ w) (61 ∷ v)
one_equals p w v runs still =
    one (refl, runs) (λ s. refl)
    (λ r f. (plain_word r (61 ∷ v) (61 ∷ v) (no_size r.place (61 ∷ v) (equals_nameless v)) (equals_kept v still r), inl (after_equals r.place v)))

equals_come : (p : Place) (r : Inward) (w t : List ℕ) → list_all is_run_byte w ≡ true → Comes (not (r.last == 58)) (codes "=") w t → WordComes p (61 ∷ w) t
unfolding first_byte
equals_come p r w t runs (kept e still) = subst (WordComes p (61 ∷ w)) (sym e) (one_equals p w w runs still)
equals_come p r w t runs (changed to e still all odd) = subst (WordComes p (61 ∷ w)) (sym e) (one_equals p w to all still)
equals_come p r w t runs (ranged n m ln lm tests e) = range n m ln lm refl e

-- a word that doesn't
size_follows : (p q : Place) (w : List ℕ) → Follows p q → size_at p w ≡ None → size_at q w ≡ None
unfolding size_at
size_follows p q w (inl e) h = ap (λ x. size_at x w) e
size_follows p q w (inr e) h = ap (λ x. size_at x w) e ∙ h

run_front : (x : ℕ) (w : List ℕ) → list_all is_run_byte (x ∷ w) ≡ true → IsWordFront (x ∷ w)
run_front x w runs =
    let parts = both_pass (is_run_byte x) (list_all is_run_byte w) runs in
    (ap (λ t. t || x == 61) parts.0, parts.1)

no_stop : (x : ℕ) (w t : List ℕ) → list_all is_run_byte (x ∷ w) ≡ true → is_run_byte x ≡ false → StopsAt is_run_byte t
no_stop x w t runs stops = absurd (false≢true (sym stops ∙ (both_pass (is_run_byte x) (list_all is_run_byte w) runs).0))

run_come : (p : Place) (r0 : Inward) (x : ℕ) (w t : List ℕ) → list_all is_run_byte (x ∷ w) ≡ true → size_at p (x ∷ w) ≡ None → plain_in r0 (x ∷ w) ≡ Ok t
    → Comes false [] (x ∷ w) t → WordComes p (x ∷ w) t
run_come p r0 x w t runs none h (kept e still) =
    subst (WordComes p (x ∷ w)) (sym e)
    (one (run_front x w runs) (λ s. no_stop x w (x ∷ w) runs s)
    (λ r f. (plain_word r (x ∷ w) (x ∷ w) (size_follows p r.place (x ∷ w) f none) (run_kept (x ∷ w) runs still r), follows_word p r.place (x ∷ w) f)))
run_come p r0 x w t runs none h (changed to e still all odd) =
    let away = not_field r0 (x ∷ w) to (subst (λ v. plain_in r0 (x ∷ w) ≡ Ok v) e h) odd in
    subst (WordComes p (x ∷ w)) (sym e)
    (one (nameless_front to all odd) (λ s. no_stop x w to runs s)
    (λ r f. (plain_word r to to (no_size r.place to odd) (run_kept to all still r), follows_other p r.place (x ∷ w) to f (run_apart (x ∷ w) runs) (run_apart to all) away (no_field to odd))))
run_come p r0 x w t runs none h (ranged n m ln lm tests e) = absurd (false≢true tests)

plain_by : (r : Inward) (x : ℕ) (w t : List ℕ) → IsWordFront (x ∷ w) → size_at r.place (x ∷ w) ≡ None → plain_in r (x ∷ w) ≡ Ok t → (u : Bool) → (x == 61) ≡ u → WordComes r.place (x ∷ w) t
plain_by r x w t front none h true e =
    let is : x ≡ 61 = eqb-true x 61 e in
    subst (λ b. WordComes r.place (b ∷ w) t) (sym is)
    (equals_come r.place r w t front.1 (run_comes (is_tables r.kind) (not (r.last == 58)) (codes "=") w t front.1
    (sym (plain_equals r w) ∙ ap (λ b. plain_in r (b ∷ w)) (sym is) ∙ h)))
plain_by r x w t front none h false e =
    let runs : list_all is_run_byte (x ∷ w) ≡ true = all_cons is_run_byte x w (run_begins x front.0 e) front.1 in
    run_come r.place r x w t runs none h (run_comes (is_tables r.kind) false [] (x ∷ w) t runs (sym (plain_run r (x ∷ w) (run_apart (x ∷ w) runs)) ∙ h))

-- a size
below_if : (t : Bool) (n : ℕ) (o : Option ℕ) → n < 281474976710656 → Below 281474976710656 o → Below 281474976710656 (cond t (Some n) o)
below_if true n o lt h = lt
below_if false n o lt h = h

size_below : (w : List ℕ) → Below 281474976710656 (size_of_kind w)
unfolding size_of_kind small_size
size_below w =
    let last : Option ℕ = cond (bytes_eq w (codes "bit")) (Some 1) None in
    let fourth : Option ℕ = cond (bytes_eq w (codes "byte")) (Some 255) last in
    let third : Option ℕ = cond (bytes_eq w (codes "vlan")) (Some 4095) fourth in
    let second : Option ℕ = cond (bytes_eq w (codes "ethertype") || bytes_eq w (codes "port")) (Some 65535) third in
    below_if (bytes_eq w (codes "ipv4")) 4294967295 (cond (bytes_eq w (codes "mac")) (Some 281474976710655) second) (omega arith)
    (below_if (bytes_eq w (codes "mac")) 281474976710655 second (omega arith)
    (below_if (bytes_eq w (codes "ethertype") || bytes_eq w (codes "port")) 65535 third (omega arith)
    (below_if (bytes_eq w (codes "vlan")) 4095 fourth (omega arith)
    (below_if (bytes_eq w (codes "byte")) 255 last (omega arith)
    (below_if (bytes_eq w (codes "bit")) 1 None (omega arith) tt)))))

equals_by : (x : ℕ) (w : List ℕ) (p : Place) (n : ℕ) → size_at p (x ∷ w) ≡ Some n → (u : Bool) → (x == 61) ≡ u → u ≡ false
unfolding first_byte
equals_by x w p n h true e =
    let odd : is_nameless (x ∷ w) ≡ true = ap (λ t. t || (is_digit x || list_any (λ b. b == 46) (x ∷ w))) e in
    let none : None ≡ Some n = sym (no_size p (x ∷ w) odd) ∙ h in absurd cc
equals_by x w p n h false e = refl

sized_come : (p : Place) (x : ℕ) (w : List ℕ) (n : ℕ) → IsWordFront (x ∷ w) → size_at p (x ∷ w) ≡ Some n → WordComes p (x ∷ w) (decimal n)
unfolding size_at
sized_come place.Field x w n front h = absurd cc
sized_come place.Elsewhere x w n front h = absurd cc
sized_come place.Name x w n front h =
    let lt : n < 281474976710656 = below_is 281474976710656 n (size_of_kind (x ∷ w)) h (size_below (x ∷ w)) in
    let le : n ≤ largest = omega (arith, lt) in
    let odd : is_nameless (decimal n) ≡ true = subst (λ v. is_nameless v ≡ true) (append-nil (decimal n)) (number_nameless n le []) in
    let run : is_run_byte x ≡ true = run_begins x front.0 (equals_by x w place.Name n h (x == 61) refl) in
    one (nameless_front (decimal n) (decimal_run n le) odd) (λ s. absurd (false≢true (sym s ∙ run)))
    (λ r f. (plain_word r (decimal n) (decimal n) (no_size r.place (decimal n) odd) (run_kept (decimal n) (decimal_run n le) (decimal_still n le) r), inl (after_name r.place (decimal n) f (no_field (decimal n) odd))))

word_by : (r : Inward) (x : ℕ) (w t : List ℕ) → IsWordFront (x ∷ w) → (o : Option ℕ) → size_at r.place (x ∷ w) ≡ o → sized_in o (plain_in r (x ∷ w)) ≡ Ok t → WordComes r.place (x ∷ w) t
word_by r x w t front None e h = plain_by r x w t front e h (x == 61) refl
word_by r x w t front (Some n) e h = subst (WordComes r.place (x ∷ w)) (same_text (decimal n) t h) (sized_come r.place x w n front e)

-- what `in` makes of a word
pub word_comes : (r : Inward) (w t : List ℕ) → IsWordFront w → word_in r w ≡ Ok t → WordComes r.place w t
unfolding word_in
word_comes r [] t front h = absurd front
word_comes r (x ∷ w) t front h = word_by r x w t front (size_at r.place (x ∷ w)) refl h

-- the word `in`
in_size : (p : Place) → size_at p (codes "in") ≡ None
unfolding size_at size_of_kind small_size
in_size place.Name = refl
in_size place.Field = refl
in_size place.Elsewhere = refl

pub in_word : (r : Inward) → word_in r (codes "in") ≡ Ok (codes "in")
in_word r = plain_word r (codes "in") (codes "in") (in_size r.place) (run_kept (codes "in") refl in_still r)

-- a range of numbers
abbrev pub range_run : (n m : ℕ) → List ℕ
range_run n m = decimal n ++ 46 ∷ 46 ∷ decimal m

pub range_is : (n m : ℕ) → codes " in " ++ decimal n ++ codes ".." ++ decimal m ≡ 32 ∷ 105 ∷ 110 ∷ 32 ∷ range_run n m
range_is n m = joined (codes " in ") (decimal n) (codes "..") (decimal m)

pub range_runs : (n m : ℕ) → n ≤ largest → m ≤ largest → list_all is_run_byte (range_run n m) ≡ true
range_runs n m ln lm =
    all_two is_run_byte (decimal n) (46 ∷ 46 ∷ decimal m) (decimal_run n ln) (all_cons is_run_byte 46 (46 ∷ decimal m) refl (all_cons is_run_byte 46 (decimal m) refl (decimal_run m lm)))

pub decimal_short : (n : ℕ) → n ≤ largest → length (decimal n) ≤ 15
decimal_short n le = length-decimal-le 15 n (omega arith) (omega (arith, le)) (omega (arith, le))

range_short : (n m : ℕ) → n ≤ largest → m ≤ largest → length (range_run n m) ≤ longest_word
range_short n m ln lm = omega (arith, length-append (decimal n) (46 ∷ 46 ∷ decimal m), decimal_short n ln, decimal_short m lm)

range_word : (n m : ℕ) → n ≤ largest → m ≤ largest → (r : Inward) → word_in r (range_run n m) ≡ Ok (range_run n m)
range_word n m ln lm r =
    let odd = dot_nameless (decimal n) (46 ∷ decimal m) in
    plain_word r (range_run n m) (range_run n m) (no_size r.place (range_run n m) odd) (run_kept (range_run n m) (range_runs n m ln lm) (range_still n m ln lm) r)

-- what is known after a range
abbrev pub after_range : Inward → (n m : ℕ) → Inward
after_range r n m = after_word (after_byte (after_word (after_byte r 32) (codes "in")) 32) (range_run n m)

pub range_elsewhere : (r : Inward) (n m : ℕ) → (after_range r n m).place ≡ place.Elsewhere
unfolding after_byte after_word
range_elsewhere r n m = after_two r.place (codes "in") (range_run n m) refl (no_field (range_run n m) (dot_nameless (decimal n) (46 ∷ decimal m)))

pub reads_range : (C D : Inward → Type 0) (n m : ℕ) (written read : List ℕ) → n ≤ largest → m ≤ largest → StopsAt is_run_byte written
    → ((r : Inward) → C r → D (after_range r n m))
    → Reads false D written read → Reads false C (32 ∷ 105 ∷ 110 ∷ 32 ∷ range_run n m ++ written) (32 ∷ 105 ∷ 110 ∷ 32 ∷ range_run n m ++ read)
reads_range C D n m written read ln lm stops on rest =
    let run = range_run n m in
    let E : Inward → Type 0 = λ r. D (after_word r run) in
    let F : Inward → Type 0 = λ r. E (after_byte r 32) in
    let G : Inward → Type 0 = λ r. F (after_word r (codes "in")) in
    reads_byte C G 32 (105 ∷ 110 ∷ 32 ∷ run ++ written) (105 ∷ 110 ∷ 32 ∷ run ++ read) refl refl on
    (reads_word G F (codes "in") (codes "in") (32 ∷ run ++ written) (32 ∷ run ++ read) (refl, refl) (omega arith) refl (λ r c. (in_word r, c))
    (reads_byte F E 32 (run ++ written) (run ++ read) refl refl (λ r c. c)
    (reads_word E D run run written read (nameless_front run (range_runs n m ln lm) (dot_nameless (decimal n) (46 ∷ decimal m))) (range_short n m ln lm) stops
    (λ r c. (range_word n m ln lm r, c)) rest)))
