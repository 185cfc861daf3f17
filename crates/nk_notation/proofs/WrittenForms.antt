-- Numbers in a form, as they are read.
use Rattle.std.proofs.Common.{◌≡◌, ◌<◌, ◌≤◌, ◌+◌, ◌-◌, ◌/◌, ◌%◌, ◌^◌, ◌==◌, ◌&&◌, ◌||◌, ℕ, suc, Bool, true, false, not, cond, List, [], ◌∷◌, ◌++◌, length, drop, decimal, refl, sym, ap, subst, ◌∙◌, arith, zero-add, append_assoc, append-nil, length-append}
use Rattle.std.proofs.lemmas.Bool.{false≢true}
use Rattle.std.proofs.lemmas.Bool.Decides.{nat_tests}
use Rattle.std.proofs.lemmas.List.Folds.{list_all-append, list_any-append}
use Rattle.std.specs.Prelude.{nat_lt, count_by, take_while, get_or}
use Rattle.std.specs.List.{list_all, list_any}
use Rattle.nk_lex.specs.Classes.{is_digit}
use Rattle.nk_lex.specs.Lex.{largest}
use Rattle.nk_lex.proofs.Digits.{both_pass, digits_of, run_is}
use Rattle.nk_number_forms.specs.declared.forms.Atom.TheVariants as atom
use Rattle.nk_number_forms.specs.declared.fault.Cause.TheVariants as cause
use Rattle.nk_number_forms.specs.Forms.{address_of, address_text, atom_of, first_byte, first_place, hardware_of, has_dots, hexadecimal_of, is_coloned, is_digit_or_dot, is_dotted, is_hex_or_colon, is_hexadecimal, last_byte, number_or, place_of_dots}
use Rattle.nk_number_forms.specs.Numbers.{is_hex}
use Rattle.nk_notation.proofs.Addresses.{decimal_digits, read_back}
use Rattle.nk_notation.proofs.Cuts.{not_that}

-- any byte but this one
abbrev pub is_other : ℕ → ℕ → Bool
is_other c b = not (b == c)

pub un_not : (t : Bool) → not t ≡ true → t ≡ false
un_not true h = absurd (false≢true h)
un_not false h = refl

or_true : (t : Bool) → (t || true) ≡ true
or_true true = refl
or_true false = refl

pub and_false : (t u : Bool) → u ≡ false → (t && u) ≡ false
and_false true u h = h
and_false false u h = refl

all_both : (p : ℕ → Bool) (v w : List ℕ) → list_all p v ≡ true → list_all p w ≡ true → list_all p (v ++ w) ≡ true
all_both p v w hv hw = list_all-append p v w ∙ ap (λ t. t && list_all p w) hv ∙ hw

pub all_cons : (p : ℕ → Bool) (b : ℕ) (w : List ℕ) → p b ≡ true → list_all p w ≡ true → list_all p (b ∷ w) ≡ true
all_cons p b w hb hw = ap (λ t. t && list_all p w) hb ∙ hw

pub all_weaken : (p q : ℕ → Bool) → ((b : ℕ) → p b ≡ true → q b ≡ true) → (w : List ℕ) → list_all p w ≡ true → list_all q w ≡ true
all_weaken p q imp [] h = refl
all_weaken p q imp (b ∷ w) h =
    let parts = both_pass (p b) (list_all p w) h in
    all_cons q b w (imp b parts.0) (all_weaken p q imp w parts.1)

-- the bytes begin no `..`, whatever comes after them
abbrev pub Passes : List ℕ → Type 0
Passes w = (x : List ℕ) → place_of_dots (w ++ x) ≡ length w + place_of_dots x

place_step : (b : ℕ) (w : List ℕ) → (b == 46) ≡ false → place_of_dots (b ∷ w) ≡ place_of_dots w + 1
unfolding place_of_dots
place_step b w e = ap (λ t. cond (t && (first_byte w == 46)) 0 (place_of_dots w + 1)) e

place_dot : (b : ℕ) (w : List ℕ) → (b == 46) ≡ false → place_of_dots (46 ∷ b ∷ w) ≡ place_of_dots (b ∷ w) + 1
unfolding place_of_dots first_byte
place_dot b w e = ap (λ t. cond t 0 (place_of_dots (b ∷ w) + 1)) e

pub place_dots : (w : List ℕ) → place_of_dots (46 ∷ 46 ∷ w) ≡ 0
unfolding place_of_dots first_byte
place_dots w = refl

pub passes_run : (w : List ℕ) → list_all (is_other 46) w ≡ true → Passes w
passes_run [] h = λ x. sym (zero-add (place_of_dots x))
passes_run (b ∷ w) h = λ x.
    let parts = both_pass (is_other 46 b) (list_all (is_other 46) w) h in
    let step : place_of_dots (b ∷ w ++ x) ≡ place_of_dots (w ++ x) + 1 = place_step b (w ++ x) (un_not (b == 46) parts.0) in
    let rest : place_of_dots (w ++ x) ≡ length w + place_of_dots x = passes_run w parts.1 x in
    omega arith

pub passes_both : (v w : List ℕ) → Passes v → Passes w → Passes (v ++ w)
passes_both v w pv pw = λ x.
    let one : place_of_dots (v ++ w ++ x) ≡ place_of_dots (v ++ (w ++ x)) = ap place_of_dots (append_assoc v w x) in
    let two : place_of_dots (v ++ (w ++ x)) ≡ length v + place_of_dots (w ++ x) = pv (w ++ x) in
    let three : place_of_dots (w ++ x) ≡ length w + place_of_dots x = pw x in
    let four : length (v ++ w) ≡ length v + length w = length-append v w in
    omega arith

pub digit_other : (c b : ℕ) → is_digit c ≡ false → is_digit b ≡ true → is_other c b ≡ true
digit_other c b fails passes = ap not (not_that is_digit c b fails passes)

digits_other : (c : ℕ) → is_digit c ≡ false → (w : List ℕ) → list_all is_digit w ≡ true → list_all (is_other c) w ≡ true
digits_other c fails w h = all_weaken is_digit (is_other c) (λ b passes. digit_other c b fails passes) w h

passes_digits : (w : List ℕ) → list_all is_digit w ≡ true → Passes w
passes_digits w h = passes_run w (digits_other 46 refl w h)

passes_dot : (b : ℕ) (w : List ℕ) → is_digit b ≡ true → list_all is_digit w ≡ true → Passes (46 ∷ b ∷ w)
passes_dot b w hb hw = λ x.
    let step : place_of_dots (46 ∷ b ∷ w ++ x) ≡ place_of_dots (b ∷ w ++ x) + 1 = place_dot b (w ++ x) (not_that is_digit 46 b refl hb) in
    let rest : place_of_dots (b ∷ w ++ x) ≡ suc (length w) + place_of_dots x = passes_digits (b ∷ w) (all_cons is_digit b w hb hw) x in
    omega arith

pub decimal_passes : (n : ℕ) → n ≤ largest → Passes (decimal n)
decimal_passes n le = passes_digits (decimal n) (decimal_digits n le)

dot_passes : (n : ℕ) → n ≤ largest → Passes (46 ∷ decimal n)
dot_passes n le =
    let d = digits_of n le in
    subst (λ w. Passes (46 ∷ w)) (sym d.are) (passes_dot d.first d.rest d.first_digit d.digits)

last_more : (b c : ℕ) (w : List ℕ) → last_byte (b ∷ c ∷ w) ≡ last_byte (c ∷ w)
unfolding last_byte
last_more b c w =
    let e : suc (suc (length w)) - 1 ≡ suc (length w) = omega arith in
    let f : suc (length w) - 1 ≡ length w = omega arith in
    ap (λ k. get_or (b ∷ c ∷ w) k 0) e ∙ sym (ap (λ k. get_or (c ∷ w) k 0) f)

-- the last byte is one of those at the end
last_of_run : (p : ℕ → Bool) (b : ℕ) (w : List ℕ) → list_all p (b ∷ w) ≡ true → p (last_byte (b ∷ w)) ≡ true
unfolding last_byte
last_of_run p b [] h = (both_pass (p b) true h).0
last_of_run p b (c ∷ w) h = ap p (last_more b c w) ∙ last_of_run p c w (both_pass (p b) (list_all p (c ∷ w)) h).1

pub last_after : (p : ℕ → Bool) (v : List ℕ) (b : ℕ) (w : List ℕ) → list_all p (b ∷ w) ≡ true → p (last_byte (v ++ b ∷ w)) ≡ true
last_after p [] b w h = last_of_run p b w h
last_after p (a ∷ []) b w h = ap p (last_more a b w) ∙ last_of_run p b w h
last_after p (a ∷ c ∷ v) b w h = ap p (last_more a c (v ++ b ∷ w)) ∙ last_after p (c ∷ v) b w h

last_digit : (v : List ℕ) (c n : ℕ) → n ≤ largest → is_digit (last_byte (v ++ c ∷ decimal n)) ≡ true
last_digit v c n le =
    let d = digits_of n le in
    let all = all_cons is_digit d.first d.rest d.first_digit d.digits in
    ap (λ w. is_digit (last_byte (v ++ c ∷ w))) d.are
    ∙ ap (λ w. is_digit (last_byte w)) (sym (append_assoc v (c ∷ []) (d.first ∷ d.rest)))
    ∙ last_after is_digit (v ++ c ∷ []) d.first d.rest all

-- without a `..` to its end
pub no_dots : (w : List ℕ) → Passes w → has_dots w ≡ false
unfolding place_of_dots
no_dots w p =
    let e : place_of_dots (w ++ []) ≡ length w + 0 = p [] in
    let same : place_of_dots (w ++ []) ≡ place_of_dots w = ap place_of_dots (append-nil w) in
    grind (arith, nat_tests)

-- without this byte to its end
pub no_place : (c : ℕ) (w : List ℕ) → list_all (is_other c) w ≡ true → nat_lt (first_place c w) (length w) ≡ false
unfolding first_place
no_place c w h =
    let e : take_while (is_other c) (w ++ []) ≡ w = run_is (is_other c) w [] h tt in
    let same : first_place c w ≡ length w = ap (λ v. length (take_while (is_other c) v)) (sym (append-nil w)) ∙ ap length e in
    grind (arith, nat_tests)

-- an address
octet_all : (q : ℕ → Bool) → ((b : ℕ) → is_digit b ≡ true → q b ≡ true) → q 46 ≡ true → (n : ℕ) → n ≤ largest → list_all q (46 ∷ decimal n) ≡ true
octet_all q imp dot n le = all_cons q 46 (decimal n) dot (all_weaken is_digit q imp (decimal n) (decimal_digits n le))

pub address_all : (q : ℕ → Bool) → ((b : ℕ) → is_digit b ≡ true → q b ≡ true) → q 46 ≡ true → (n : ℕ) → n ≤ largest → list_all q (address_text n) ≡ true
address_all q imp dot n le =
    let a = decimal (n / 16777216) in
    let b = 46 ∷ decimal (n / 65536 % 256) in
    let c = 46 ∷ decimal (n / 256 % 256) in
    let d = 46 ∷ decimal (n % 256) in
    let ha = all_weaken is_digit q imp a (decimal_digits (n / 16777216) (omega arith)) in
    let hb = octet_all q imp dot (n / 65536 % 256) (omega arith) in
    let hc = octet_all q imp dot (n / 256 % 256) (omega arith) in
    let hd = octet_all q imp dot (n % 256) (omega arith) in
    all_both q (a ++ b ++ c) d (all_both q (a ++ b) c (all_both q a b ha hb) hc) hd

pub address_passes : (n : ℕ) → n ≤ largest → Passes (address_text n)
address_passes n le =
    let a = decimal (n / 16777216) in
    let b = 46 ∷ decimal (n / 65536 % 256) in
    let c = 46 ∷ decimal (n / 256 % 256) in
    let d = 46 ∷ decimal (n % 256) in
    passes_both (a ++ b ++ c) d
    (passes_both (a ++ b) c
    (passes_both a b (decimal_passes (n / 16777216) (omega arith)) (dot_passes (n / 65536 % 256) (omega arith)))
    (dot_passes (n / 256 % 256) (omega arith)))
    (dot_passes (n % 256) (omega arith))

first_digit : (n : ℕ) (x y z : List ℕ) → n ≤ largest → is_digit (first_byte (decimal n ++ x ++ y ++ z)) ≡ true
unfolding first_byte
first_digit n x y z le =
    let d = digits_of n le in
    ap (λ w. is_digit (first_byte (w ++ x ++ y ++ z))) d.are ∙ d.first_digit

has_dot : (v w : List ℕ) → list_any (λ b. b == 46) (v ++ 46 ∷ w) ≡ true
has_dot v w = list_any-append (λ b. b == 46) v (46 ∷ w) ∙ or_true (list_any (λ b. b == 46) v)

digit_or_dot : (b : ℕ) → is_digit b ≡ true → is_digit_or_dot b ≡ true
unfolding is_digit_or_dot
digit_or_dot b h = ap (λ t. t || b == 46) h

dot_too : is_digit_or_dot 46 ≡ true
unfolding is_digit_or_dot
dot_too = refl

pub address_dotted : (n : ℕ) → n ≤ largest → is_dotted (address_text n) ≡ true
unfolding is_dotted
address_dotted n le =
    let a = decimal (n / 16777216) in
    let b = 46 ∷ decimal (n / 65536 % 256) in
    let c = 46 ∷ decimal (n / 256 % 256) in
    let d = decimal (n % 256) in
    let w = address_text n in
    ap (λ t. t && list_any (λ b. b == 46) w && is_digit (first_byte w) && is_digit (last_byte w)) (address_all is_digit_or_dot digit_or_dot dot_too n le)
    ∙ ap (λ t. t && is_digit (first_byte w) && is_digit (last_byte w)) (has_dot (a ++ b ++ c) d)
    ∙ ap (λ t. t && is_digit (last_byte w)) (first_digit (n / 16777216) b c (46 ∷ d) (omega arith))
    ∙ last_digit (a ++ b ++ c) 46 (n % 256) (omega arith)

pub address_atom : (n : ℕ) → n < 2 ^ 32 → atom_of (address_text n) ≡ atom.Number n
unfolding atom_of
address_atom n lt =
    let w = address_text n in
    ap (λ t. cond t (number_or cause.Address (address_of w)) (cond (is_coloned w) (number_or cause.HardwareAddress (hardware_of w)) (cond (is_hexadecimal w) (hexadecimal_of (drop 2 w)) atom.Kept))) (address_dotted n (omega arith))
    ∙ ap (number_or cause.Address) (read_back n lt)

-- decimal digits
pub decimal_all : (q : ℕ → Bool) → ((b : ℕ) → is_digit b ≡ true → q b ≡ true) → (n : ℕ) → n ≤ largest → list_all q (decimal n) ≡ true
decimal_all q imp n le = all_weaken is_digit q imp (decimal n) (decimal_digits n le)

none_of : (p : ℕ → Bool) (c : ℕ) (w : List ℕ) → list_all (is_other c) w ≡ true → list_any (λ b. b == c) w ≡ false
none_of p c [] h = refl
none_of p c (b ∷ w) h =
    let parts = both_pass (is_other c b) (list_all (is_other c) w) h in
    ap (λ t. t || list_any (λ x. x == c) w) (un_not (b == c) parts.0) ∙ none_of p c w parts.1

pub not_dotted : (w : List ℕ) → list_all (is_other 46) w ≡ true → is_dotted w ≡ false
unfolding is_dotted
not_dotted w h =
    ap (λ t. t && is_digit (first_byte w) && is_digit (last_byte w)) (and_false (list_all is_digit_or_dot w) (list_any (λ b. b == 46) w) (none_of is_digit 46 w h))

pub none_counted : (c : ℕ) (w : List ℕ) → list_all (is_other c) w ≡ true → count_by (λ b. b == c) w ≡ 0
none_counted c [] h = refl
none_counted c (b ∷ w) h =
    let parts = both_pass (is_other c b) (list_all (is_other c) w) h in
    let e : (b == c) ≡ false = un_not (b == c) parts.0 in
    let rest : count_by (λ x. x == c) w ≡ 0 = none_counted c w parts.1 in
    grind (arith, e, rest)

pub not_coloned : (w : List ℕ) → list_all (is_other 58) w ≡ true → is_coloned w ≡ false
unfolding is_coloned
not_coloned w h =
    let none : nat_lt 1 (count_by (λ b. b == 58) w) ≡ false = ap (nat_lt 1) (none_counted 58 w h) in
    ap (λ t. t && is_hex (first_byte w) && is_hex (last_byte w)) (and_false (list_all is_hex_or_colon w) (nat_lt 1 (count_by (λ b. b == 58) w)) none)

digits_not_hexadecimal : (b : ℕ) (w : List ℕ) → list_all is_digit w ≡ true → is_hexadecimal (b ∷ w) ≡ false
unfolding is_hexadecimal
digits_not_hexadecimal b [] h = and_false (b == 48) false refl
digits_not_hexadecimal b (c ∷ w) h = and_false (b == 48) (c == 120) (not_that is_digit 120 c refl (both_pass (is_digit c) (list_all is_digit w) h).0)

pub decimal_atom : (n : ℕ) → n ≤ largest → atom_of (decimal n) ≡ atom.Kept
unfolding atom_of
decimal_atom n le =
    let w = decimal n in
    let d = digits_of n le in
    ap (λ t. cond t (number_or cause.Address (address_of w)) (cond (is_coloned w) (number_or cause.HardwareAddress (hardware_of w)) (cond (is_hexadecimal w) (hexadecimal_of (drop 2 w)) atom.Kept)))
    (not_dotted w (decimal_all (is_other 46) (λ b yes. digit_other 46 b refl yes) n le))
    ∙ ap (λ t. cond t (number_or cause.HardwareAddress (hardware_of w)) (cond (is_hexadecimal w) (hexadecimal_of (drop 2 w)) atom.Kept))
    (not_coloned w (decimal_all (is_other 58) (λ b yes. digit_other 58 b refl yes) n le))
    ∙ ap (λ t. cond t (hexadecimal_of (drop 2 w)) atom.Kept) (ap is_hexadecimal d.are ∙ digits_not_hexadecimal d.first d.rest d.digits)
