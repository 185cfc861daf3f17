-- Hexadecimal digits and hardware addresses, as they are read.
use Rattle.std.proofs.Common.{◌≡◌, ◌<◌, ◌≤◌, ◌+◌, ◌-◌, ◌*◌, ◌/◌, ◌%◌, ◌^◌, ◌&&◌, ◌||◌, ℕ, inl, inr, Bool, true, false, not, cond, List, [], ◌∷◌, ◌++◌, refl, ap, ◌∙◌, arith}
use Rattle.std.proofs.lemmas.Bool.{cases_lt}
use Rattle.std.proofs.lemmas.Bool.Decides.{nat_tests}
use Rattle.std.specs.Prelude.{Some, None, nat_le, nat_lt}
use Rattle.std.specs.List.{list_all}
use Rattle.nk_lex.specs.Classes.{is_digit}
use Rattle.nk_lex.specs.Lex.{largest}
use Rattle.nk_number_forms.specs.declared.forms.Atom.TheVariants as atom
use Rattle.nk_number_forms.specs.declared.fault.Cause.TheVariants as cause
use Rattle.nk_number_forms.specs.Forms.{address_of, atom_of, hardware_of, hexadecimal_of, hexadecimal_text, is_coloned, is_hexadecimal, number_or}
use Rattle.nk_number_forms.specs.Numbers.{hex_digit, hex_number, hex_value, hexadecimal_pair, is_hex, pair_text}
use Rattle.nk_notation.proofs.Cuts.{not_that}
use Rattle.nk_notation.proofs.WrittenForms.{all_cons, is_other, not_coloned, not_dotted}

small_digit : (k : ℕ) → k < 10 → hex_digit k ≡ 48 + k
unfolding hex_digit
small_digit k lt = let e : nat_lt k 10 ≡ true = grind (arith, nat_tests) in ap (λ t. cond t (48 + k) (87 + k)) e

large_digit : (k : ℕ) → 10 ≤ k → hex_digit k ≡ 87 + k
unfolding hex_digit
large_digit k le = let e : nat_lt k 10 ≡ false = grind (arith, nat_tests) in ap (λ t. cond t (48 + k) (87 + k)) e

small_hex : (k : ℕ) → k < 10 → is_hex (48 + k) ≡ true
unfolding is_hex
small_hex k lt = grind (arith, nat_tests)

large_hex : (k : ℕ) → 10 ≤ k → k < 16 → is_hex (87 + k) ≡ true
unfolding is_hex
large_hex k le lt = grind (arith, nat_tests)

small_value : (k : ℕ) → k < 10 → hex_value (48 + k) ≡ k
unfolding hex_value
small_value k lt =
    let b = 48 + k in
    let e : is_digit b ≡ true = grind (arith, nat_tests) in
    ap (λ t. cond t (b - 48) (cond (nat_le 97 b) (b - 87) (b - 55))) e ∙ omega arith

large_value : (k : ℕ) → 10 ≤ k → hex_value (87 + k) ≡ k
unfolding hex_value
large_value k le =
    let b = 87 + k in
    let e : is_digit b ≡ false = grind (arith, nat_tests) in
    let f : nat_le 97 b ≡ true = grind (arith, nat_tests) in
    ap (λ t. cond t (b - 48) (cond (nat_le 97 b) (b - 87) (b - 55))) e ∙ ap (λ t. cond t (b - 87) (b - 55)) f ∙ omega arith

pub digit_hex : (k : ℕ) → k < 16 → is_hex (hex_digit k) ≡ true
digit_hex k lt = elim (cases_lt k 10) as (λ c. is_hex (hex_digit k) ≡ true) [
  | inl less ↦ ap is_hex (small_digit k less) ∙ small_hex k less
  | inr more ↦ ap is_hex (large_digit k more) ∙ large_hex k more lt
]

digit_value : (k : ℕ) → k < 16 → hex_value (hex_digit k) ≡ k
digit_value k lt = elim (cases_lt k 10) as (λ c. hex_value (hex_digit k) ≡ k) [
  | inl less ↦ ap hex_value (small_digit k less) ∙ small_value k less
  | inr more ↦ ap hex_value (large_digit k more) ∙ large_value k more
]

pub hex_other : (c b : ℕ) → is_hex c ≡ false → is_hex b ≡ true → is_other c b ≡ true
hex_other c b fails passes = ap not (not_that is_hex c b fails passes)

pub no_hex : (is_hex 46 ≡ false) × (is_hex 47 ≡ false) × (is_hex 58 ≡ false)
unfolding is_hex
no_hex = (refl, refl, refl)

-- a byte is read back from its two digits
pub pair_back : (m : ℕ) → m < 256 → hexadecimal_pair (pair_text m) ≡ Some m
unfolding hexadecimal_pair pair_text
pair_back m lt =
    let a = hex_digit (m / 16) in
    let b = hex_digit (m % 16) in
    ap (λ t. cond (t && is_hex b) (Some (hex_value a * 16 + hex_value b)) None) (digit_hex (m / 16) (omega arith))
    ∙ ap (λ t. cond t (Some (hex_value a * 16 + hex_value b)) None) (digit_hex (m % 16) (omega arith))
    ∙ ap (λ v. Some (v * 16 + hex_value b)) (digit_value (m / 16) (omega arith))
    ∙ ap (λ v. Some (m / 16 * 16 + v)) (digit_value (m % 16) (omega arith))
    ∙ ap Some (omega arith)

pub pair_all : (q : ℕ → Bool) → ((b : ℕ) → is_hex b ≡ true → q b ≡ true) → (m : ℕ) → m < 256 → (w : List ℕ) → list_all q w ≡ true → list_all q (pair_text m ++ w) ≡ true
unfolding pair_text
pair_all q imp m lt w h =
    let a = hex_digit (m / 16) in
    let b = hex_digit (m % 16) in
    all_cons q a (b ∷ w) (imp a (digit_hex (m / 16) (omega arith))) (all_cons q b w (imp b (digit_hex (m % 16) (omega arith))) h)

pub last_pair : (q : ℕ → Bool) → ((b : ℕ) → is_hex b ≡ true → q b ≡ true) → (m : ℕ) → m < 256 → list_all q (pair_text m) ≡ true
unfolding pair_text
last_pair q imp m lt = pair_all q imp m lt [] refl

-- four digits
pub hexadecimal_all : (q : ℕ → Bool) → ((b : ℕ) → is_hex b ≡ true → q b ≡ true) → q 120 ≡ true → (n : ℕ) → n < 2 ^ 16 → list_all q (hexadecimal_text n) ≡ true
unfolding is_hex
hexadecimal_all q imp x n lt =
    all_cons q 48 (120 ∷ pair_text (n / 256) ++ pair_text (n % 256)) (imp 48 refl)
    (all_cons q 120 (pair_text (n / 256) ++ pair_text (n % 256)) x
    (pair_all q imp (n / 256) (omega arith) (pair_text (n % 256)) (last_pair q imp (n % 256) (omega arith))))

number_is_hex : (n : ℕ) → n < 2 ^ 16 → hex_number (pair_text (n / 256) ++ pair_text (n % 256)) ≡ n
unfolding hex_number pair_text
number_is_hex n lt =
    let a = n / 256 / 16 in
    let b = n / 256 % 16 in
    let c = n % 256 / 16 in
    let d = n % 256 % 16 in
    ap (λ v. (((0 * 16 + v) * 16 + hex_value (hex_digit b)) * 16 + hex_value (hex_digit c)) * 16 + hex_value (hex_digit d)) (digit_value a (omega arith))
    ∙ ap (λ v. (((0 * 16 + a) * 16 + v) * 16 + hex_value (hex_digit c)) * 16 + hex_value (hex_digit d)) (digit_value b (omega arith))
    ∙ ap (λ v. (((0 * 16 + a) * 16 + b) * 16 + v) * 16 + hex_value (hex_digit d)) (digit_value c (omega arith))
    ∙ ap (λ v. (((0 * 16 + a) * 16 + b) * 16 + c) * 16 + v) (digit_value d (omega arith))
    ∙ omega arith

four_read : (n : ℕ) → n < 2 ^ 16 → hexadecimal_of (pair_text (n / 256) ++ pair_text (n % 256)) ≡ atom.Number n
unfolding hexadecimal_of pair_text
four_read n lt =
    let w = pair_text (n / 256) ++ pair_text (n % 256) in
    let all : list_all is_hex w ≡ true = pair_all is_hex (λ b h. h) (n / 256) (omega arith) (pair_text (n % 256)) (last_pair is_hex (λ b h. h) (n % 256) (omega arith)) in
    let fits : nat_le n largest ≡ true = grind (arith, nat_tests) in
    ap (λ t. cond (false || not t) (atom.Faulty cause.Hexadecimal) (cond (nat_le (hex_number w) largest) (atom.Number (hex_number w)) (atom.Faulty cause.TooLarge))) all
    ∙ ap (λ v. cond (nat_le v largest) (atom.Number v) (atom.Faulty cause.TooLarge)) (number_is_hex n lt)
    ∙ ap (λ t. cond t (atom.Number n) (atom.Faulty cause.TooLarge)) fits

begins_so : (w : List ℕ) → is_hexadecimal (48 ∷ 120 ∷ w) ≡ true
unfolding is_hexadecimal
begins_so w = refl

pub hexadecimal_atom : (n : ℕ) → n < 2 ^ 16 → atom_of (hexadecimal_text n) ≡ atom.Number n
unfolding atom_of
hexadecimal_atom n lt =
    let ds = pair_text (n / 256) ++ pair_text (n % 256) in
    let w = hexadecimal_text n in
    ap (λ t. cond t (number_or cause.Address (address_of w)) (cond (is_coloned w) (number_or cause.HardwareAddress (hardware_of w)) (cond (is_hexadecimal w) (hexadecimal_of ds) atom.Kept)))
    (not_dotted w (hexadecimal_all (is_other 46) (λ b passes. hex_other 46 b no_hex.0 passes) refl n lt))
    ∙ ap (λ t. cond t (number_or cause.HardwareAddress (hardware_of w)) (cond (is_hexadecimal w) (hexadecimal_of ds) atom.Kept))
    (not_coloned w (hexadecimal_all (is_other 58) (λ b passes. hex_other 58 b no_hex.2 passes) refl n lt))
    ∙ ap (λ t. cond t (hexadecimal_of ds) atom.Kept) (begins_so ds)
    ∙ four_read n lt
