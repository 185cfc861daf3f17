-- Hardware addresses, as they are read.
use Rattle.std.proofs.Common.{◌≡◌, ◌<◌, ◌≤◌, ◌+◌, ◌*◌, ◌/◌, ◌%◌, ◌==◌, ◌&&◌, ◌||◌, ℕ, Bool, true, false, cond, List, [], ◌∷◌, ◌++◌, length, take, drop, refl, ap, ◌∙◌, arith}
use Rattle.std.proofs.lemmas.Bool.Decides.{nat_tests}
use Rattle.std.proofs.lemmas.List.Sums.{sum_by-cons}
use Rattle.std.specs.Prelude.{Option, Some, nat_lt, count_by, option_and_then}
use Rattle.std.specs.List.{list_all}
use Rattle.nk_lex.specs.Lex.{largest}
use Rattle.nk_lex.proofs.Digits.{run_is}
use Rattle.nk_number_forms.specs.declared.forms.Atom.TheVariants as atom
use Rattle.nk_number_forms.specs.declared.fault.Cause.TheVariants as cause
use Rattle.nk_number_forms.specs.Forms.{address_of, after_first, atom_of, before_first, combined, first_byte, first_place, hardware_of, hardware_text, hexadecimal_of, is_coloned, is_hex_or_colon, is_hexadecimal, last_byte, number_or, three_pairs}
use Rattle.nk_number_forms.specs.Numbers.{hex_digit, hexadecimal_pair, is_hex, pair_text}
use Rattle.nk_notation.proofs.WrittenForms.{all_cons, is_other, last_after, not_dotted, un_not}
use Rattle.nk_notation.proofs.WrittenHex.{digit_hex, hex_other, last_pair, no_hex, pair_all, pair_back}

-- six bytes in pairs with colons between them
abbrev pub six : (a b c d e f : ℕ) → List ℕ
six a b c d e f = pair_text a ++ 58 ∷ (pair_text b ++ 58 ∷ (pair_text c ++ 58 ∷ (pair_text d ++ 58 ∷ (pair_text e ++ 58 ∷ pair_text f))))

is_six : (n : ℕ) → hardware_text n ≡ six (n / 1099511627776) (n / 4294967296 % 256) (n / 16777216 % 256) (n / 65536 % 256) (n / 256 % 256) (n % 256)
unfolding pair_text
is_six n = refl

-- the parts at a colon
pair_place : (m : ℕ) (r : List ℕ) → m < 256 → first_place 58 (pair_text m ++ 58 ∷ r) ≡ 2
unfolding first_place pair_text
pair_place m r lt = ap length (run_is (is_other 58) (pair_text m) (58 ∷ r) (last_pair (is_other 58) (λ b h. hex_other 58 b no_hex.2 h) m lt) refl)

before_pair : (m : ℕ) (r : List ℕ) → m < 256 → before_first 58 (pair_text m ++ 58 ∷ r) ≡ pair_text m
unfolding before_first pair_text
before_pair m r lt = ap (λ k. take k (pair_text m ++ 58 ∷ r)) (pair_place m r lt)

after_pair : (m : ℕ) (r : List ℕ) → m < 256 → after_first 58 (pair_text m ++ 58 ∷ r) ≡ r
unfolding after_first pair_text
after_pair m r lt = ap (λ k. drop (k + 1) (pair_text m ++ 58 ∷ r)) (pair_place m r lt)

three_back : (a b c : ℕ) → a < 256 → b < 256 → c < 256 → three_pairs (pair_text a) (pair_text b) (pair_text c) ≡ Some (a * 65536 + b * 256 + c)
unfolding three_pairs
three_back a b c la lb lc =
    ap (λ o. option_and_then (λ x. option_and_then (λ y. option_and_then (λ z. Some (x * 65536 + y * 256 + z)) (hexadecimal_pair (pair_text c))) (hexadecimal_pair (pair_text b))) o) (pair_back a la)
    ∙ ap (λ o. option_and_then (λ y. option_and_then (λ z. Some (a * 65536 + y * 256 + z)) (hexadecimal_pair (pair_text c))) o) (pair_back b lb)
    ∙ ap (λ o. option_and_then (λ z. Some (a * 65536 + b * 256 + z)) o) (pair_back c lc)

-- what is read of the parts
of_parts : (w s t u v l : List ℕ) → Option ℕ
of_parts w s t u v l = combined (three_pairs (before_first 58 w) (before_first 58 s) (before_first 58 t)) (three_pairs (before_first 58 u) (before_first 58 v) l)

by_parts : (w : List ℕ) → hardware_of w ≡ of_parts w (after_first 58 w) (after_first 58 (after_first 58 w)) (after_first 58 (after_first 58 (after_first 58 w)))
    (after_first 58 (after_first 58 (after_first 58 (after_first 58 w)))) (after_first 58 (after_first 58 (after_first 58 (after_first 58 (after_first 58 w)))))
unfolding hardware_of of_parts
by_parts w = refl

parts_are : (w s t u v l : List ℕ) → after_first 58 w ≡ s → after_first 58 s ≡ t → after_first 58 t ≡ u → after_first 58 u ≡ v → after_first 58 v ≡ l
    → hardware_of w ≡ of_parts w s t u v l
parts_are w s t u v l es et eu ev el =
    let a : List ℕ → List ℕ = λ x. after_first 58 x in
    by_parts w
    ∙ ap (λ x. of_parts w x (a x) (a (a x)) (a (a (a x))) (a (a (a (a x))))) es
    ∙ ap (λ x. of_parts w s x (a x) (a (a x)) (a (a (a x)))) et
    ∙ ap (λ x. of_parts w s t x (a x) (a (a x))) eu
    ∙ ap (λ x. of_parts w s t u x (a x)) ev
    ∙ ap (λ x. of_parts w s t u v x) el

six_back : (a b c d e f : ℕ) → a < 256 → b < 256 → c < 256 → d < 256 → e < 256 → f < 256
    → hardware_of (six a b c d e f) ≡ Some ((a * 65536 + b * 256 + c) * 16777216 + (d * 65536 + e * 256 + f))
unfolding of_parts combined
six_back a b c d e f la lb lc ld le lf =
    let v = pair_text e ++ 58 ∷ pair_text f in
    let u = pair_text d ++ 58 ∷ v in
    let t = pair_text c ++ 58 ∷ u in
    let s = pair_text b ++ 58 ∷ t in
    let w = pair_text a ++ 58 ∷ s in
    let low = three_pairs (before_first 58 u) (before_first 58 v) (pair_text f) in
    parts_are w s t u v (pair_text f) (after_pair a s la) (after_pair b t lb) (after_pair c u lc) (after_pair d v ld) (after_pair e (pair_text f) le)
    ∙ ap (λ x. combined (three_pairs x (before_first 58 s) (before_first 58 t)) low) (before_pair a s la)
    ∙ ap (λ x. combined (three_pairs (pair_text a) x (before_first 58 t)) low) (before_pair b t lb)
    ∙ ap (λ x. combined (three_pairs (pair_text a) (pair_text b) x) low) (before_pair c u lc)
    ∙ ap (λ x. combined (three_pairs (pair_text a) (pair_text b) (pair_text c)) (three_pairs x (before_first 58 v) (pair_text f))) (before_pair d v ld)
    ∙ ap (λ x. combined (three_pairs (pair_text a) (pair_text b) (pair_text c)) (three_pairs (pair_text d) x (pair_text f))) (before_pair e (pair_text f) le)
    ∙ ap (λ x. combined x (three_pairs (pair_text d) (pair_text e) (pair_text f))) (three_back a b c la lb lc)
    ∙ ap (λ x. combined (Some (a * 65536 + b * 256 + c)) x) (three_back d e f ld le lf)

bytes_make : (n : ℕ) → (n / 1099511627776 * 65536 + n / 4294967296 % 256 * 256 + n / 16777216 % 256) * 16777216 + (n / 65536 % 256 * 65536 + n / 256 % 256 * 256 + n % 256) ≡ n
bytes_make n = omega arith

first_small : (n : ℕ) → n ≤ largest → n / 1099511627776 < 256
first_small n le = omega arith

hardware_back : (n : ℕ) → n ≤ largest → hardware_of (hardware_text n) ≡ Some n
hardware_back n le =
    ap hardware_of (is_six n)
    ∙ six_back (n / 1099511627776) (n / 4294967296 % 256) (n / 16777216 % 256) (n / 65536 % 256) (n / 256 % 256) (n % 256)
    (first_small n le) (omega arith) (omega arith) (omega arith) (omega arith) (omega arith)
    ∙ ap Some (bytes_make n)

-- all bytes
more_all : (q : ℕ → Bool) → ((b : ℕ) → is_hex b ≡ true → q b ≡ true) → q 58 ≡ true → (m : ℕ) → m < 256 → (w : List ℕ) → list_all q w ≡ true
    → list_all q (pair_text m ++ 58 ∷ w) ≡ true
more_all q imp colon m lt w h = pair_all q imp m lt (58 ∷ w) (all_cons q 58 w colon h)

pub hardware_all : (q : ℕ → Bool) → ((b : ℕ) → is_hex b ≡ true → q b ≡ true) → q 58 ≡ true → (n : ℕ) → n ≤ largest → list_all q (hardware_text n) ≡ true
hardware_all q imp colon n le =
    let b = n / 4294967296 % 256 in
    let c = n / 16777216 % 256 in
    let d = n / 65536 % 256 in
    let e = n / 256 % 256 in
    let f = n % 256 in
    let wf = pair_text f in
    let we = pair_text e ++ 58 ∷ wf in
    let wd = pair_text d ++ 58 ∷ we in
    let wc = pair_text c ++ 58 ∷ wd in
    let wb = pair_text b ++ 58 ∷ wc in
    ap (list_all q) (is_six n)
    ∙ more_all q imp colon (n / 1099511627776) (first_small n le) wb
    (more_all q imp colon b (omega arith) wc
    (more_all q imp colon c (omega arith) wd
    (more_all q imp colon d (omega arith) we
    (more_all q imp colon e (omega arith) wf (last_pair q imp f (omega arith))))))

-- its colons
pub colon_counts : (b : ℕ) (w : List ℕ) → (b == 58) ≡ true → count_by (λ x. x == 58) (b ∷ w) ≡ count_by (λ x. x == 58) w + 1
colon_counts b w e = sum_by-cons (λ x. cond (x == 58) 1 0) b w ∙ ap (λ t. cond t 1 0 + count_by (λ x. x == 58) w) e ∙ omega arith

pub other_counts : (b : ℕ) (w : List ℕ) → (b == 58) ≡ false → count_by (λ x. x == 58) (b ∷ w) ≡ count_by (λ x. x == 58) w
other_counts b w e = grind (arith, e)

pair_counts : (m : ℕ) (w : List ℕ) → m < 256 → count_by (λ b. b == 58) (pair_text m ++ 58 ∷ w) ≡ count_by (λ b. b == 58) w + 1
unfolding pair_text
pair_counts m w lt =
    let a = hex_digit (m / 16) in
    let b = hex_digit (m % 16) in
    other_counts a (b ∷ 58 ∷ w) (un_not (a == 58) (hex_other 58 a no_hex.2 (digit_hex (m / 16) (omega arith))))
    ∙ other_counts b (58 ∷ w) (un_not (b == 58) (hex_other 58 b no_hex.2 (digit_hex (m % 16) (omega arith))))
    ∙ colon_counts 58 w refl

two_colons : (a b : ℕ) (w : List ℕ) → a < 256 → b < 256 → nat_lt 1 (count_by (λ x. x == 58) (pair_text a ++ 58 ∷ (pair_text b ++ 58 ∷ w))) ≡ true
two_colons a b w la lb =
    let one : count_by (λ x. x == 58) (pair_text a ++ 58 ∷ (pair_text b ++ 58 ∷ w)) ≡ count_by (λ x. x == 58) (pair_text b ++ 58 ∷ w) + 1 = pair_counts a (pair_text b ++ 58 ∷ w) la in
    let two : count_by (λ x. x == 58) (pair_text b ++ 58 ∷ w) ≡ count_by (λ x. x == 58) w + 1 = pair_counts b w lb in
    grind (arith, nat_tests)

first_hex : (m : ℕ) (w : List ℕ) → m < 256 → is_hex (first_byte (pair_text m ++ w)) ≡ true
unfolding first_byte pair_text
first_hex m w lt = digit_hex (m / 16) (omega arith)

last_hex : (v : List ℕ) (m : ℕ) → m < 256 → is_hex (last_byte (v ++ pair_text m)) ≡ true
unfolding pair_text
last_hex v m lt = last_after is_hex v (hex_digit (m / 16)) (hex_digit (m % 16) ∷ []) (last_pair is_hex (λ b h. h) m lt)

hex_or_colon : (b : ℕ) → is_hex b ≡ true → is_hex_or_colon b ≡ true
unfolding is_hex_or_colon
hex_or_colon b h = ap (λ t. t || b == 58) h

colon_too : is_hex_or_colon 58 ≡ true
unfolding is_hex_or_colon is_hex
colon_too = refl

-- the first five bytes, and the last one
hardware_ends : (n : ℕ) → n ≤ largest → is_hex (last_byte (hardware_text n)) ≡ true
unfolding pair_text
hardware_ends n le =
    last_hex (pair_text (n / 1099511627776) ++ 58 ∷ (pair_text (n / 4294967296 % 256) ++ 58 ∷ (pair_text (n / 16777216 % 256) ++ 58 ∷ (pair_text (n / 65536 % 256) ++ 58 ∷ (pair_text (n / 256 % 256) ++ 58 ∷ [])))))
    (n % 256) (omega arith)

hardware_coloned : (n : ℕ) → n ≤ largest → is_coloned (hardware_text n) ≡ true
unfolding is_coloned
hardware_coloned n le =
    let w = hardware_text n in
    let c = pair_text (n / 16777216 % 256) ++ 58 ∷ (pair_text (n / 65536 % 256) ++ 58 ∷ (pair_text (n / 256 % 256) ++ 58 ∷ pair_text (n % 256))) in
    let b = pair_text (n / 4294967296 % 256) ++ 58 ∷ c in
    let two : nat_lt 1 (count_by (λ x. x == 58) w) ≡ true =
    ap (λ v. nat_lt 1 (count_by (λ x. x == 58) v)) (is_six n) ∙ two_colons (n / 1099511627776) (n / 4294967296 % 256) c (first_small n le) (omega arith) in
    let first : is_hex (first_byte w) ≡ true = ap (λ v. is_hex (first_byte v)) (is_six n) ∙ first_hex (n / 1099511627776) (58 ∷ b) (first_small n le) in
    ap (λ t. t && nat_lt 1 (count_by (λ x. x == 58) w) && is_hex (first_byte w) && is_hex (last_byte w)) (hardware_all is_hex_or_colon hex_or_colon colon_too n le)
    ∙ ap (λ t. t && is_hex (first_byte w) && is_hex (last_byte w)) two
    ∙ ap (λ t. t && is_hex (last_byte w)) first
    ∙ hardware_ends n le

pub hardware_atom : (n : ℕ) → n ≤ largest → atom_of (hardware_text n) ≡ atom.Number n
unfolding atom_of
hardware_atom n le =
    let w = hardware_text n in
    ap (λ t. cond t (number_or cause.Address (address_of w)) (cond (is_coloned w) (number_or cause.HardwareAddress (hardware_of w)) (cond (is_hexadecimal w) (hexadecimal_of (drop 2 w)) atom.Kept)))
    (not_dotted w (hardware_all (is_other 46) (λ b passes. hex_other 46 b no_hex.0 passes) refl n le))
    ∙ ap (λ t. cond t (number_or cause.HardwareAddress (hardware_of w)) (cond (is_hexadecimal w) (hexadecimal_of (drop 2 w)) atom.Kept)) (hardware_coloned n le)
    ∙ ap (number_or cause.HardwareAddress) (hardware_back n le)
