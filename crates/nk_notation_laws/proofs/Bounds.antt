-- How large the numbers are that are read.
use Rattle.std.proofs.Common.{◌≡◌, ◌<◌, ◌≤◌, ◌+◌, ◌*◌, ◌==◌, ◌&&◌, ◌||◌, ℕ, Bool, true, false, not, cond, List, [], ◌∷◌, length, drop, refl, subst, arith}
use Rattle.std.proofs.lemmas.Bool.Decides.{nat_tests}
use Rattle.std.specs.Prelude.{Option, Some, None, bytes_eq, decimal, nat_le, option_and_then}
use Rattle.std.specs.List.{list_all}
use Rattle.nk_lex.specs.Lex.{largest, value_of}
use Rattle.nk_lex.proofs.Digits.{both_pass}
use Rattle.nk_number_forms.specs.declared.forms.Atom.{Atom}
use Rattle.nk_number_forms.specs.declared.forms.Atom.TheVariants as atom
use Rattle.nk_number_forms.specs.declared.fault.Cause.{Cause}
use Rattle.nk_number_forms.specs.declared.fault.Cause.TheVariants as cause
use Rattle.nk_number_forms.specs.Forms.{address_of, after_first, atom_of, before_first, combined, hardware_of, hexadecimal_of, is_coloned, is_dotted, is_hexadecimal, number_or, three_pairs}
use Rattle.nk_number_forms.specs.Numbers.{hex_number, hex_value, hexadecimal_pair, is_hex, number_within}

-- a number below m, where there is one
abbrev pub Below : ℕ → Option ℕ → Type 0
Below m None = Unit {0}
Below m (Some n) = n < m

pub below_is : (m n : ℕ) (o : Option ℕ) → o ≡ Some n → Below m o → n < m
below_is m n o e h = subst (Below m) e h

within_by : (most : ℕ) (w : List ℕ) (t : Bool) → (nat_le (value_of w) most && bytes_eq w (decimal (value_of w))) ≡ t → Below (most + 1) (cond t (Some (value_of w)) None)
within_by most w true e =
    let fits : nat_le (value_of w) most ≡ true = (both_pass (nat_le (value_of w) most) (bytes_eq w (decimal (value_of w))) e).0 in
    grind (arith, nat_tests)
within_by most w false e = tt

pub within_below : (most : ℕ) (w : List ℕ) → Below (most + 1) (number_within most w)
unfolding number_within
within_below most w = within_by most w (nat_le (value_of w) most && bytes_eq w (decimal (value_of w))) refl

-- the number of four bytes
four_below : (a b c d : Option ℕ) → Below 256 a → Below 256 b → Below 256 c → Below 256 d
    → Below 4294967296 (option_and_then (λ x. option_and_then (λ y. option_and_then (λ z. option_and_then (λ u. Some (x * 16777216 + y * 65536 + z * 256 + u)) d) c) b) a)
four_below (Some x) (Some y) (Some z) (Some u) ha hb hc hd = omega (arith, ha, hb, hc, hd)
four_below a b c d ha hb hc hd = tt

pub address_below : (w : List ℕ) → Below 4294967296 (address_of w)
unfolding address_of
address_below w =
    four_below (number_within 255 (before_first 46 w)) (number_within 255 (before_first 46 (after_first 46 w)))
    (number_within 255 (before_first 46 (after_first 46 (after_first 46 w)))) (number_within 255 (after_first 46 (after_first 46 (after_first 46 w))))
    (within_below 255 (before_first 46 w)) (within_below 255 (before_first 46 (after_first 46 w)))
    (within_below 255 (before_first 46 (after_first 46 (after_first 46 w)))) (within_below 255 (after_first 46 (after_first 46 (after_first 46 w))))

value_small : (b : ℕ) → is_hex b ≡ true → hex_value b < 16
unfolding is_hex hex_value
value_small b h = grind (arith, nat_tests)

pair_by : (a b : ℕ) (t : Bool) → (is_hex a && is_hex b) ≡ t → Below 256 (cond t (Some (hex_value a * 16 + hex_value b)) None)
pair_by a b true e =
    let parts = both_pass (is_hex a) (is_hex b) e in
    let first : hex_value a < 16 = value_small a parts.0 in
    let second : hex_value b < 16 = value_small b parts.1 in
    omega (arith, first, second)
pair_by a b false e = tt

pair_below : (w : List ℕ) → Below 256 (hexadecimal_pair w)
unfolding hexadecimal_pair
pair_below (a ∷ b ∷ []) = pair_by a b (is_hex a && is_hex b) refl
pair_below w = tt

three_by : (a b c : Option ℕ) → Below 256 a → Below 256 b → Below 256 c
    → Below 16777216 (option_and_then (λ x. option_and_then (λ y. option_and_then (λ z. Some (x * 65536 + y * 256 + z)) c) b) a)
three_by (Some x) (Some y) (Some z) ha hb hc = omega (arith, ha, hb, hc)
three_by a b c ha hb hc = tt

three_below : (a b c : List ℕ) → Below 16777216 (three_pairs a b c)
unfolding three_pairs
three_below a b c = three_by (hexadecimal_pair a) (hexadecimal_pair b) (hexadecimal_pair c) (pair_below a) (pair_below b) (pair_below c)

six_by : (h l : Option ℕ) → Below 16777216 h → Below 16777216 l → Below 281474976710656 (combined h l)
unfolding combined
six_by None l hh hl = tt
six_by (Some h) None hh hl = tt
six_by (Some h) (Some l) hh hl = omega (arith, hh, hl)

hardware_below : (w : List ℕ) → Below 281474976710656 (hardware_of w)
unfolding hardware_of
hardware_below w =
    let second = after_first 58 w in
    let third = after_first 58 second in
    let fourth = after_first 58 third in
    let fifth = after_first 58 fourth in
    six_by (three_pairs (before_first 58 w) (before_first 58 second) (before_first 58 third)) (three_pairs (before_first 58 fourth) (before_first 58 fifth) (after_first 58 fifth))
    (three_below (before_first 58 w) (before_first 58 second) (before_first 58 third)) (three_below (before_first 58 fourth) (before_first 58 fifth) (after_first 58 fifth))

-- the number of an atom is one of the language
abbrev pub IsSmall : Atom → Type 0
IsSmall (atom.Number n) = n ≤ largest
IsSmall (atom.Faulty c) = Unit {0}
IsSmall atom.Kept = Unit {0}

number_small : (m : ℕ) (c : Cause) (o : Option ℕ) → m ≤ 281474976710656 → Below m o → IsSmall (number_or c o)
number_small m c None le h = tt
number_small m c (Some n) le h = omega (arith, le, h)

digits_by : (n : ℕ) (t : Bool) → nat_le n largest ≡ t → IsSmall (cond t (atom.Number n) (atom.Faulty cause.TooLarge))
digits_by n true e = grind (arith, nat_tests)
digits_by n false e = tt

digits_small : (ds : List ℕ) → IsSmall (hexadecimal_of ds)
unfolding hexadecimal_of
digits_small ds = elim (length ds == 0 || not (list_all is_hex ds))
    as (λ t. IsSmall (cond t (atom.Faulty cause.Hexadecimal) (cond (nat_le (hex_number ds) largest) (atom.Number (hex_number ds)) (atom.Faulty cause.TooLarge)))) [
      | true ↦ tt
      | false ↦ digits_by (hex_number ds) (nat_le (hex_number ds) largest) refl
    ]

pub atom_small : (w : List ℕ) → IsSmall (atom_of w)
unfolding atom_of
atom_small w =
    elim (is_dotted w) as (λ t. IsSmall (cond t (number_or cause.Address (address_of w)) (cond (is_coloned w) (number_or cause.HardwareAddress (hardware_of w)) (cond (is_hexadecimal w) (hexadecimal_of (drop 2 w)) atom.Kept)))) [
      | true ↦ number_small 4294967296 cause.Address (address_of w) (omega arith) (address_below w)
      | false ↦ elim (is_coloned w) as (λ t. IsSmall (cond t (number_or cause.HardwareAddress (hardware_of w)) (cond (is_hexadecimal w) (hexadecimal_of (drop 2 w)) atom.Kept))) [
        | true ↦ number_small 281474976710656 cause.HardwareAddress (hardware_of w) (omega arith) (hardware_below w)
        | false ↦ elim (is_hexadecimal w) as (λ t. IsSmall (cond t (hexadecimal_of (drop 2 w)) atom.Kept)) [
          | true ↦ digits_small (drop 2 w)
          | false ↦ tt
        ]
      ]
    ]
