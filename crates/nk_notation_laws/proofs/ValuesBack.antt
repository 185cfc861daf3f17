-- The values that `out` writes, as `in` reads them.
use Rattle.std.proofs.Common.{◌≡◌, ◌<◌, ◌≤◌, ◌/◌, ◌%◌, ◌==◌, ◌&&◌, ℕ, Bool, true, false, not, cond, List, ◌∷◌, ◌++◌, length, drop, decimal, refl, sym, ap, subst, ◌∙◌, arith, append_assoc, length-append}
use Rattle.std.proofs.lemmas.Bool.{ltb-true}
use Rattle.std.proofs.lemmas.Bool.Decides.{nat_tests}
use Rattle.std.proofs.lemmas.Fmt.{length-decimal-le}
use Rattle.std.specs.Prelude.{Option, None, Some, Ok, codes, nat_lt}
use Rattle.std.specs.List.{list_all}
use Rattle.nk_lex.specs.Lex.{largest}
use Rattle.nk_number_forms.specs.declared.forms.Atom.TheVariants as atom
use Rattle.nk_number_forms.specs.Forms.{address_of, address_text, after_first, atom_of, before_first, first_byte, first_place, has_ones_after, hardware_text, hexadecimal_text, is_dotted}
use Rattle.nk_number_forms.specs.Numbers.{is_hex, number_within, pair_text}
use Rattle.nk_notation.specs.declared.inward.Inward.{Inward}
use Rattle.nk_notation.specs.declared.outward.Form.{Form}
use Rattle.nk_notation.specs.declared.outward.Form.TheVariants as form
use Rattle.nk_notation.specs.Inward.{both_atoms, is_tables, plain_in, prefix_with, run_in, sized_in, spelled, word_in}
use Rattle.nk_notation.specs.Lexemes.{is_run_byte}
use Rattle.nk_notation.specs.Outward.{address_out, form_text, largest_in_form, measured_out, number_out, prefix_out, text_or, value_out}
use Rattle.nk_notation.proofs.ReadBack.{IsSpelled, after_slash, before_slash, in_digits, in_form, prefixes_back, text_of, values_back, within_is}
use Rattle.nk_notation.proofs.WrittenForms.{Passes, address_all, all_cons, decimal_all, digit_other, is_other, no_dots, not_dotted, passes_both, passes_run}
use Rattle.nk_notation.proofs.WrittenHardware.{hardware_all}
use Rattle.nk_notation.proofs.WrittenHex.{hex_other, hexadecimal_all, no_hex}
use Rattle.nk_notation_laws.proofs.Places.{equals_nameless, no_size}
use Rattle.nk_notation_laws.proofs.RunsAgain.{Comes, all_two, changed, decimal_run, digit_run, kept, ranged, run_comes}
use Rattle.nk_notation_laws.proofs.Shapes.{IsStill, joined, run_slashed, split_slash}
use Rattle.nk_notation_laws.proofs.WordsAgain.{decimal_short, plain_equals, range_is}

-- what is written for a value, and read as the value after `=`
pub record ComesBack (tables : Bool) (v w : List ℕ) : Type 0 where
  pub runs : list_all is_run_byte v ≡ true
  pub short : length v ≤ 63
  pub back : (tests : Bool) → run_in tables tests (codes "=") v ≡ Ok (codes "=" ++ w)

-- a value that stays
stays_back : (tables : Bool) (w : List ℕ) → list_all is_run_byte w ≡ true → length w ≤ 63 → IsStill w → ComesBack tables w w
stays_back tables w runs short still = record { runs = runs; short = short; back = λ tests. still tables tests (codes "=") }

-- a form has bytes of runs alone, and few of them
hex_run : (b : ℕ) → is_hex b ≡ true → is_run_byte b ≡ true
unfolding is_hex
hex_run b h = grind (arith, nat_tests)

pub form_runs : (f : Form) (n : ℕ) → n ≤ largest_in_form f → list_all is_run_byte (form_text f n) ≡ true
unfolding largest_in_form form_text
form_runs form.Address n le = address_all is_run_byte digit_run refl n (omega (arith, le))
form_runs form.HardwareAddress n le = hardware_all is_run_byte hex_run refl n le
form_runs form.Hexadecimal n le = hexadecimal_all is_run_byte hex_run refl n (omega (arith, le))
form_runs form.Decimal n le = decimal_run n le

byte_short : (n : ℕ) → n < 256 → length (decimal n) ≤ 3
byte_short n lt = length-decimal-le 3 n (omega arith) (omega (arith, lt)) (omega (arith, lt))

dot_short : (n : ℕ) → n < 256 → length (46 ∷ decimal n) ≤ 4
dot_short n lt = omega (arith, byte_short n lt)

pub address_short : (n : ℕ) → n ≤ 4294967295 → length (address_text n) ≤ 17
address_short n le =
    let a = decimal (n / 16777216) in
    let b = 46 ∷ decimal (n / 65536 % 256) in
    let c = 46 ∷ decimal (n / 256 % 256) in
    let d = 46 ∷ decimal (n % 256) in
    omega (
      arith,
      length-append (a ++ b ++ c) d,
      length-append (a ++ b) c,
      length-append a b,
      byte_short (n / 16777216) (omega (arith, le)),
      dot_short (n / 65536 % 256) (omega arith),
      dot_short (n / 256 % 256) (omega arith),
      dot_short (n % 256) (omega arith),
    )

hardware_short : (n : ℕ) → length (hardware_text n) ≤ 17
unfolding pair_text
hardware_short n = omega arith

hexadecimal_short : (n : ℕ) → length (hexadecimal_text n) ≤ 17
unfolding pair_text
hexadecimal_short n = omega arith

pub form_small : (f : Form) (n : ℕ) → n ≤ largest_in_form f → n ≤ largest
unfolding largest_in_form
form_small form.Address n le = omega (arith, le)
form_small form.HardwareAddress n le = le
form_small form.Hexadecimal n le = omega (arith, le)
form_small form.Decimal n le = le

pub form_short : (f : Form) (n : ℕ) → n ≤ largest_in_form f → length (form_text f n) ≤ 17
unfolding largest_in_form form_text
form_short form.Address n le = address_short n le
form_short form.HardwareAddress n le = hardware_short n
form_short form.Hexadecimal n le = hexadecimal_short n
form_short form.Decimal n le = omega (arith, decimal_short n le)

-- a number in a form
number_by : (tables : Bool) (f : Form) (w : List ℕ) → list_all is_run_byte w ≡ true → length w ≤ 63 → IsStill w → (o : Option ℕ) → number_within (largest_in_form f) w ≡ o
    → ComesBack tables (text_or f w o) w
unfolding text_or
number_by tables f w runs short still None e = stays_back tables w runs short still
number_by tables f w runs short still (Some n) e =
    let is = within_is (largest_in_form f) w n e in record {
      runs = form_runs f n is.1;
      short = omega (arith, form_short f n is.1);
      back = λ tests. values_back f n is.1 tables tests (codes "=") ∙ ap (λ t. Ok (codes "=" ++ t)) (sym is.0);
    }

pub number_back : (tables : Bool) (f : Form) (w : List ℕ) → list_all is_run_byte w ≡ true → length w ≤ 63 → IsStill w → ComesBack tables (number_out f w) w
unfolding number_out
number_back tables f w runs short still = number_by tables f w runs short still (number_within (largest_in_form f) w) refl

-- a prefix of a table text
pub plain_length : (k : ℕ) → k ≤ largest → Passes (47 ∷ decimal k)
plain_length k le = passes_run (47 ∷ decimal k) (all_cons (is_other 46) 47 (decimal k) refl (decimal_all (is_other 46) (λ b yes. digit_other 46 b refl yes) k le))

undotted : (f : Form) (n : ℕ) → n ≤ largest_in_form f → (f ≡ form.Address → ⊥) → is_dotted (form_text f n) ≡ false
unfolding largest_in_form form_text
undotted form.Address n le other = absurd (other refl)
undotted form.HardwareAddress n le other = not_dotted (hardware_text n) (hardware_all (is_other 46) (λ b yes. hex_other 46 b no_hex.0 yes) refl n le)
undotted form.Hexadecimal n le other = not_dotted (hexadecimal_text n) (hexadecimal_all (is_other 46) (λ b yes. hex_other 46 b no_hex.0 yes) refl n (omega (arith, le)))
undotted form.Decimal n le other = not_dotted (decimal n) (decimal_all (is_other 46) (λ b yes. digit_other 46 b refl yes) n le)

spelled_back : (x : List ℕ) (n : ℕ) → IsSpelled x n → (lead l : List ℕ) → both_atoms lead (atom_of x) x (codes "/") atom.Kept l ≡ Ok (lead ++ decimal n ++ codes "/" ++ l)
unfolding both_atoms spelled
spelled_back x n (in_form e) lead l = ap (λ a. both_atoms lead a x (codes "/") atom.Kept l) e
spelled_back x n (in_digits e d) lead l = ap (λ a. both_atoms lead a x (codes "/") atom.Kept l) e ∙ ap (λ t. Ok (lead ++ t ++ codes "/" ++ l)) d

measured_is : (tables : Bool) (f : Form) (n k : ℕ) → n ≤ largest_in_form f → k ≤ 48 → (f ≡ form.Address → ⊥) → ComesBack tables (form_text f n ++ 47 ∷ decimal k) (decimal n ++ 47 ∷ decimal k)
measured_is tables f n k le few other =
    let x = form_text f n in
    let t = text_of f n le in
    let l = decimal k in record {
      runs = all_two is_run_byte x (47 ∷ l) (form_runs f n le) (all_cons is_run_byte 47 l refl (decimal_run k (omega (arith, few))));
      short = omega (arith, length-append x (47 ∷ l), form_short f n le, decimal_short k (omega (arith, few)));
      back = λ tests.
          run_slashed x l t.no_slash (no_dots (x ++ 47 ∷ l) (passes_both x (47 ∷ l) t.passes (plain_length k (omega (arith, few))))) tables tests (codes "=")
          ∙ ap (λ u. cond u (prefix_with tables tests (codes "=") l (address_of x) (number_within 32 l)) (both_atoms (codes "=") (atom_of x) x (codes "/") atom.Kept l)) (undotted f n le other)
          ∙ spelled_back x n t.is (codes "=") l
          ∙ ap Ok (joined (codes "=") (decimal n) (codes "/") l);
    }

-- a front and a length that stay
abbrev pub IsPart : (a l : List ℕ) → Type 0
IsPart a l = (list_all is_run_byte (a ++ 47 ∷ l) ≡ true) × (length (a ++ 47 ∷ l) ≤ 63) × IsStill (a ++ 47 ∷ l)

part_stays : (tables : Bool) (a l : List ℕ) → IsPart a l → ComesBack tables (a ++ 47 ∷ l) (a ++ 47 ∷ l)
part_stays tables a l p = stays_back tables (a ++ 47 ∷ l) p.0 p.1 p.2

measured_by : (tables : Bool) (f : Form) (a l : List ℕ) (k : ℕ) → IsPart a l → (f ≡ form.Address → ⊥) → number_within 48 l ≡ Some k
    → (o : Option ℕ) → number_within (largest_in_form f) a ≡ o → ComesBack tables (text_or f a o ++ 47 ∷ l) (a ++ 47 ∷ l)
unfolding text_or
measured_by tables f a l k part other el None e = part_stays tables a l part
measured_by tables f a l k part other el (Some n) e =
    let is = within_is (largest_in_form f) a n e in
    let len = within_is 48 l k el in
    subst (λ v. ComesBack tables (form_text f n ++ 47 ∷ l) (v ++ 47 ∷ l)) (sym is.0)
    (subst (λ v. ComesBack tables (form_text f n ++ 47 ∷ v) (decimal n ++ 47 ∷ v)) (sym len.0) (measured_is tables f n k is.1 len.1 other))

length_by : (tables : Bool) (f : Form) (a l : List ℕ) → IsPart a l → (f ≡ form.Address → ⊥) → (o : Option ℕ) → number_within 48 l ≡ o
    → ComesBack tables (measured_out f a o ++ 47 ∷ l) (a ++ 47 ∷ l)
unfolding measured_out number_out
length_by tables f a l part other None e = part_stays tables a l part
length_by tables f a l part other (Some k) e = measured_by tables f a l k part other e (number_within (largest_in_form f) a) refl

block_by : (a l : List ℕ) (n k : ℕ) → IsPart a l → n ≤ 4294967295 → k ≤ 32 → a ≡ decimal n → l ≡ decimal k → (ones : Bool) → has_ones_after n k ≡ ones
    → ComesBack true (cond ones a (address_text n) ++ 47 ∷ l) (a ++ 47 ∷ l)
block_by a l n k part le few ea el true e = part_stays true a l part
block_by a l n k part le few ea el false e =
    let x = address_text n in
    let d = decimal k in
    let same : x ++ codes "/" ++ d ≡ x ++ 47 ∷ d = append_assoc x (codes "/") d in
    let back : ComesBack true (x ++ 47 ∷ d) (decimal n ++ 47 ∷ d) = record {
      runs = all_two is_run_byte x (47 ∷ d) (address_all is_run_byte digit_run refl n (omega (arith, le))) (all_cons is_run_byte 47 d refl (decimal_run k (omega (arith, few))));
      short = omega (arith, length-append x (47 ∷ d), address_short n le, decimal_short k (omega (arith, few)));
      back = λ tests.
          ap (run_in true tests (codes "=")) (sym same)
          ∙ (prefixes_back n k (omega (arith, le)) few e tests (codes "=")).1
          ∙ ap Ok (joined (codes "=") (decimal n) (codes "/") d);
    } in
    subst (λ v. ComesBack true (x ++ 47 ∷ l) (v ++ 47 ∷ l)) (sym ea) (subst (λ v. ComesBack true (x ++ 47 ∷ v) (decimal n ++ 47 ∷ v)) (sym el) back)

address_by : (a l : List ℕ) → IsPart a l → (o p : Option ℕ) → number_within 4294967295 a ≡ o → number_within 32 l ≡ p → ComesBack true (address_out a o p ++ 47 ∷ l) (a ++ 47 ∷ l)
unfolding address_out
address_by a l part None None ea el = part_stays true a l part
address_by a l part None (Some k) ea el = part_stays true a l part
address_by a l part (Some n) None ea el = part_stays true a l part
address_by a l part (Some n) (Some k) ea el =
    let is = within_is 4294967295 a n ea in
    let len = within_is 32 l k el in
    block_by a l n k part is.1 len.1 is.0 len.0 (has_ones_after n k) refl

part_back : (f : Form) (a l : List ℕ) → IsPart a l → ComesBack true (prefix_out f a l ++ 47 ∷ l) (a ++ 47 ∷ l)
unfolding prefix_out
part_back form.Address a l part = address_by a l part (number_within 4294967295 a) (number_within 32 l) refl refl
part_back form.HardwareAddress a l part = length_by true form.HardwareAddress a l part (λ e. absurd cc) (number_within 48 l) refl
part_back form.Hexadecimal a l part = length_by true form.Hexadecimal a l part (λ e. absurd cc) (number_within 48 l) refl
part_back form.Decimal a l part = length_by true form.Decimal a l part (λ e. absurd cc) (number_within 48 l) refl

value_by : (tables : Bool) (f : Form) (w : List ℕ) → list_all is_run_byte w ≡ true → length w ≤ 63 → IsStill w → (u : Bool) → nat_lt (first_place 47 w) (length w) ≡ u
    → ComesBack tables (cond (tables && u) (prefix_out f (before_first 47 w) (after_first 47 w) ++ 47 ∷ after_first 47 w) (number_out f w)) w
value_by false f w runs short still u e = number_back false f w runs short still
value_by true f w runs short still false e = number_back true f w runs short still
value_by true f w runs short still true e =
    let s = split_slash w (ltb-true (first_place 47 w) (length w) e) in
    let a : before_first 47 w ≡ s.front = ap (before_first 47) s.are ∙ before_slash s.front s.rest s.other in
    let l : after_first 47 w ≡ s.rest = ap (after_first 47) s.are ∙ after_slash s.front s.rest s.other in
    let part : IsPart s.front s.rest = (
      subst (λ v. list_all is_run_byte v ≡ true) s.are runs,
      subst (λ v. length v ≤ 63) s.are short,
      subst IsStill s.are still,
    ) in
    subst (λ x. ComesBack true (prefix_out f x (after_first 47 w) ++ 47 ∷ after_first 47 w) w) (sym a)
    (subst (λ y. ComesBack true (prefix_out f s.front y ++ 47 ∷ y) w) (sym l)
    (subst (λ v. ComesBack true (prefix_out f s.front s.rest ++ 47 ∷ s.rest) v) (sym s.are) (part_back f s.front s.rest part)))

-- a value that is tested for
pub value_back : (tables : Bool) (f : Form) (w : List ℕ) → list_all is_run_byte w ≡ true → length w ≤ 63 → IsStill w → ComesBack tables (value_out tables f w) w
unfolding value_out
value_back tables f w runs short still = value_by tables f w runs short still (nat_lt (first_place 47 w) (length w)) refl

-- a word with `=` that `in` leaves has a value that it leaves
still_by : (tests : Bool) (w : List ℕ) → Comes tests (codes "=") w (61 ∷ w) → IsStill w
unfolding first_byte
still_by tests w (kept e still) = still
still_by tests w (changed to e still all odd) = subst IsStill (sym (ap (drop 1) e)) still
still_by tests w (ranged n m ln lm t e) = let apart : 61 ≡ 32 = ap first_byte (e ∙ range_is n m) in absurd (omega (arith, apart))

pub value_still : (r : Inward) (w : List ℕ) → list_all is_run_byte w ≡ true → word_in r (61 ∷ w) ≡ Ok (61 ∷ w) → IsStill w
unfolding word_in
value_still r w runs h =
    let plain : plain_in r (61 ∷ w) ≡ Ok (61 ∷ w) = ap (λ o. sized_in o (plain_in r (61 ∷ w))) (sym (no_size r.place (61 ∷ w) (equals_nameless w))) ∙ h in
    still_by (not (r.last == 58)) w (run_comes (is_tables r.kind) (not (r.last == 58)) (codes "=") w (61 ∷ w) runs (sym (plain_equals r w) ∙ plain))
