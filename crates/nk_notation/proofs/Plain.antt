-- A word that has none of the bytes that each form has.
use Rattle.std.proofs.Common.{◌≡◌, ◌==◌, ◌&&◌, ℕ, Bool, true, false, not, cond, List, [], ◌∷◌, ◌++◌, length, drop, refl, sym, ap, subst, ◌∙◌, arith, append-nil}
use Rattle.std.proofs.lemmas.Bool.Decides.{nat_tests}
use Rattle.std.specs.Prelude.{Ok, codes, count_by, nat_lt}
use Rattle.std.specs.List.{list_all}
use Rattle.nk_lex.proofs.Digits.{both_pass}
use Rattle.nk_number_forms.specs.declared.fault.Cause.TheVariants as cause
use Rattle.nk_number_forms.specs.declared.forms.Atom.TheVariants as atom
use Rattle.nk_number_forms.specs.Forms.{address_of, atom_of, first_byte, first_place, hardware_of, hexadecimal_of, is_coloned, is_hex_or_colon, is_hexadecimal, last_byte, number_or}
use Rattle.nk_number_forms.specs.Numbers.{is_hex}
use Rattle.nk_notation.specs.declared.inward.Inward.{Inward}
use Rattle.nk_notation.specs.Inward.{both_atoms, is_tables, plain_in, range_in, run_in, slash_in, spelled}
use Rattle.nk_notation.proofs.WrittenForms.{all_weaken, is_other, no_dots, none_counted, no_place, not_dotted, passes_run, un_not}

-- none of `.`, `/` and `x`
abbrev pub is_plain_byte : ℕ → Bool
is_plain_byte b = not (b == 46) && not (b == 47) && not (b == 120)

-- not the two colons of a hardware address
abbrev pub has_few_colons : List ℕ → Bool
has_few_colons w = nat_lt (count_by (λ b. b == 58) w) 2

-- all bytes are other ones than c
others : (c : ℕ) → ((b : ℕ) → is_plain_byte b ≡ true → is_other c b ≡ true) → (w : List ℕ) → list_all is_plain_byte w ≡ true → list_all (is_other c) w ≡ true
others c imp [] h = refl
others c imp (b ∷ w) h =
    let parts = both_pass (is_plain_byte b) (list_all is_plain_byte w) h in
    ap (λ t. t && list_all (is_other c) w) (imp b parts.0) ∙ ap (λ t. true && t) (others c imp w parts.1)

-- the tests of a byte, one by one
record IsPlainByte (b : ℕ) : Type 0 where
  dot : is_other 46 b ≡ true
  slash : is_other 47 b ≡ true
  x : is_other 120 b ≡ true

plain_byte : (b : ℕ) → is_plain_byte b ≡ true → IsPlainByte b
plain_byte b h =
    let two = both_pass (not (b == 46) && not (b == 47)) (not (b == 120)) h in
    let one = both_pass (not (b == 46)) (not (b == 47)) two.0 in
    record { dot = one.0; slash = one.1; x = two.1 }

both_false : (t u : Bool) → u ≡ false → (t && u) ≡ false
both_false true u h = h
both_false false u h = refl

not_hexadecimal : (w : List ℕ) → list_all is_plain_byte w ≡ true → is_hexadecimal w ≡ false
unfolding is_hexadecimal
not_hexadecimal [] h = refl
not_hexadecimal (b ∷ []) h = both_false (b == 48) false refl
not_hexadecimal (b ∷ c ∷ w) h =
    let rest = (both_pass (is_plain_byte b) (list_all is_plain_byte (c ∷ w)) h).1 in
    let byte = plain_byte c (both_pass (is_plain_byte c) (list_all is_plain_byte w) rest).0 in
    both_false (b == 48) (c == 120) (un_not (c == 120) byte.x)

not_coloned : (w : List ℕ) → has_few_colons w ≡ true → is_coloned w ≡ false
unfolding is_coloned
not_coloned w few =
    let none : nat_lt 1 (count_by (λ b. b == 58) w) ≡ false = grind (arith, nat_tests) in
    ap (λ t. t && is_hex (first_byte w) && is_hex (last_byte w)) (both_false (list_all is_hex_or_colon w) (nat_lt 1 (count_by (λ b. b == 58) w)) none)

plain_atom : (w : List ℕ) → list_all is_plain_byte w ≡ true → has_few_colons w ≡ true → atom_of w ≡ atom.Kept
unfolding atom_of
plain_atom w h few =
    ap (λ t. cond t (number_or cause.Address (address_of w)) (cond (is_coloned w) (number_or cause.HardwareAddress (hardware_of w)) (cond (is_hexadecimal w) (hexadecimal_of (drop 2 w)) atom.Kept)))
    (not_dotted w (others 46 (λ b yes. (plain_byte b yes).dot) w h))
    ∙ ap (λ t. cond t (number_or cause.HardwareAddress (hardware_of w)) (cond (is_hexadecimal w) (hexadecimal_of (drop 2 w)) atom.Kept))
    (not_coloned w few)
    ∙ ap (λ t. cond t (hexadecimal_of (drop 2 w)) atom.Kept) (not_hexadecimal w h)

plain_run : (tables tests : Bool) (lead w : List ℕ) → list_all is_plain_byte w ≡ true → has_few_colons w ≡ true
    → run_in tables tests lead w ≡ Ok (lead ++ w)
unfolding run_in both_atoms spelled
plain_run tables tests lead w h few =
    ap (λ t. cond t (range_in lead w) (cond (nat_lt (first_place 47 w) (length w)) (slash_in tables tests lead w) (both_atoms lead (atom_of w) w [] atom.Kept [])))
    (no_dots w (passes_run w (others 46 (λ b yes. (plain_byte b yes).dot) w h)))
    ∙ ap (λ t. cond t (slash_in tables tests lead w) (both_atoms lead (atom_of w) w [] atom.Kept []))
    (no_place 47 w (others 47 (λ b yes. (plain_byte b yes).slash) w h))
    ∙ ap (λ a. both_atoms lead a w [] atom.Kept []) (plain_atom w h few)
    ∙ ap Ok (append-nil (lead ++ w ++ []) ∙ append-nil (lead ++ w))

-- with `=` before it or without
plain_by : (r : Inward) (b : ℕ) (w : List ℕ) → list_all is_plain_byte (b ∷ w) ≡ true → has_few_colons (b ∷ w) ≡ true → (t : Bool) → (b == 61) ≡ t
    → cond t (run_in (is_tables r.kind) (not (r.last == 58)) (codes "=") w) (run_in (is_tables r.kind) false [] (b ∷ w)) ≡ Ok (b ∷ w)
plain_by r b w h few true e =
    let is : 61 ≡ b = grind (arith, nat_tests) in
    plain_run (is_tables r.kind) (not (r.last == 58)) (codes "=") w (both_pass (is_plain_byte b) (list_all is_plain_byte w) h).1
    (subst (λ c. has_few_colons (c ∷ w) ≡ true) (sym is) few)
    ∙ ap (λ c. Ok (c ∷ w)) is
plain_by r b w h few false e = plain_run (is_tables r.kind) false [] (b ∷ w) h few

-- such a word is kept
pub plain_kept : (r : Inward) (w : List ℕ) → (list_all is_plain_byte w && has_few_colons w) ≡ true → plain_in r w ≡ Ok w
unfolding plain_in first_byte
plain_kept r [] h = plain_run (is_tables r.kind) false [] [] refl refl
plain_kept r (b ∷ w) h =
    let parts = both_pass (list_all is_plain_byte (b ∷ w)) (has_few_colons (b ∷ w)) h in
    plain_by r b w parts.0 parts.1 (b == 61) refl

-- none of `.`, `/`, `x` and `:`
abbrev is_form_free : ℕ → Bool
is_form_free b = not (b == 46) && not (b == 47) && not (b == 120) && not (b == 58)

-- a word of such bytes has none of the bytes that each form has
pub form_free : (w : List ℕ) → list_all (λ b. not (b == 46) && not (b == 47) && not (b == 120) && not (b == 58)) w ≡ true
    → (list_all is_plain_byte w && has_few_colons w) ≡ true
form_free w h =
    let plain : list_all is_plain_byte w ≡ true
    = all_weaken is_form_free is_plain_byte (λ b yes. (both_pass (is_plain_byte b) (not (b == 58)) yes).0) w h in
    let none : list_all (is_other 58) w ≡ true
    = all_weaken is_form_free (is_other 58) (λ b yes. (both_pass (is_plain_byte b) (not (b == 58)) yes).1) w h in
    ap (λ t. t && has_few_colons w) plain ∙ ap (λ n. nat_lt n 2) (none_counted 58 w none)
