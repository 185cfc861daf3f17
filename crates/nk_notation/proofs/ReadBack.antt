-- What `out` writes is read by `in`.
use Rattle.std.proofs.Common.{◌≡◌, ◌<◌, ◌≤◌, ◌+◌, ◌-◌, ◌^◌, ◌&&◌, ℕ, suc, Bool, true, false, cond, List, [], ◌∷◌, ◌++◌, length, take, drop, decimal, refl, sym, ap, ◌∙◌, arith, append_assoc, append-nil, length-append}
use Rattle.std.proofs.lemmas.Bool.Decides.{nat_tests}
use Rattle.std.proofs.lemmas.Slice.Eq.{bytes_eq-Decides}
use Rattle.std.specs.Prelude.{Option, Some, None, Ok, Err, bytes_eq, codes, nat_le, nat_lt}
use Rattle.nk_lex.proofs.Digits.{both_pass, run_is}
use Rattle.nk_number_forms.specs.declared.fault.Cause.TheVariants as cause
use Rattle.nk_number_forms.specs.Numbers.{number_within}
use Rattle.nk_notation.proofs.Addresses.{drop_past, number_is, read_back, take_all}
use Rattle.std.specs.List.{list_all}
use Rattle.nk_lex.specs.Lex.{value_of}
use Rattle.nk_number_forms.specs.declared.forms.Atom.TheVariants as atom
use Rattle.nk_number_forms.specs.Forms.{address_block_size, address_of, address_text, after_first, atom_of, before_first, first_place, hardware_text, has_dots, has_ones_after, hexadecimal_text, is_dotted, place_of_dots}
use Rattle.nk_notation.specs.declared.outward.Form.{Form}
use Rattle.nk_notation.specs.declared.outward.Form.TheVariants as form
use Rattle.nk_notation.specs.Inward.{both_atoms, prefix_in, prefix_with, range_in, run_in, slash_in, spelled}
use Rattle.nk_notation.specs.Outward.{form_text, largest_in_form, number_out, text_or}
use Rattle.nk_notation.proofs.WrittenHardware.{hardware_all, hardware_atom}
use Rattle.nk_notation.proofs.WrittenHex.{hexadecimal_all, hexadecimal_atom, hex_other, no_hex}
use Rattle.nk_notation.proofs.WrittenForms.{Passes, address_all, address_atom, address_dotted, address_passes, decimal_all, decimal_atom, decimal_passes, digit_other, is_other, no_dots, no_place, passes_both, passes_run, place_dots}

-- it is a form, or the decimal digits themselves
pub data IsSpelled (w : List ℕ) (n : ℕ) : Type 0 where
  in_form : atom_of w ≡ atom.Number n → IsSpelled w n
  in_digits : atom_of w ≡ atom.Kept → w ≡ decimal n → IsSpelled w n

-- a text that is read as a number
pub record IsText (w : List ℕ) (n : ℕ) : Type 0 where
  pub passes : Passes w
  pub no_slash : list_all (is_other 47) w ≡ true
  pub is : IsSpelled w n

spelled_is : (w : List ℕ) (n : ℕ) → IsSpelled w n → (lead : List ℕ) → both_atoms lead (atom_of w) w [] atom.Kept [] ≡ Ok (lead ++ decimal n)
unfolding both_atoms spelled
spelled_is w n (in_form e) lead = ap (λ a. both_atoms lead a w [] atom.Kept []) e ∙ ap Ok (append-nil (lead ++ decimal n ++ []) ∙ append-nil (lead ++ decimal n))
spelled_is w n (in_digits e d) lead =
    ap (λ a. both_atoms lead a w [] atom.Kept []) e ∙ ap (λ v. both_atoms lead atom.Kept v [] atom.Kept []) d
    ∙ ap Ok (append-nil (lead ++ decimal n ++ []) ∙ append-nil (lead ++ decimal n))

text_back : (w : List ℕ) (n : ℕ) → IsText w n → (tables tests : Bool) (lead : List ℕ) → run_in tables tests lead w ≡ Ok (lead ++ decimal n)
unfolding run_in
text_back w n t tables tests lead =
    let rest = both_atoms lead (atom_of w) w [] atom.Kept [] in
    ap (λ h. cond h (range_in lead w) (cond (nat_lt (first_place 47 w) (length w)) (slash_in tables tests lead w) rest)) (no_dots w t.passes)
    ∙ ap (λ h. cond h (slash_in tables tests lead w) rest) (no_place 47 w t.no_slash)
    ∙ spelled_is w n t.is lead

pub text_of : (f : Form) (n : ℕ) → n ≤ largest_in_form f → IsText (form_text f n) n
unfolding largest_in_form form_text
text_of form.Address n le = record {
  passes = address_passes n (omega arith);
  no_slash = address_all (is_other 47) (λ b yes. digit_other 47 b refl yes) refl n (omega arith);
  is = in_form (address_atom n (omega arith));
}
text_of form.HardwareAddress n le = record {
  passes = passes_run (hardware_text n) (hardware_all (is_other 46) (λ b yes. hex_other 46 b no_hex.0 yes) refl n le);
  no_slash = hardware_all (is_other 47) (λ b yes. hex_other 47 b no_hex.1 yes) refl n le;
  is = in_form (hardware_atom n le);
}
text_of form.Hexadecimal n le = record {
  passes = passes_run (hexadecimal_text n) (hexadecimal_all (is_other 46) (λ b yes. hex_other 46 b no_hex.0 yes) refl n (omega arith));
  no_slash = hexadecimal_all (is_other 47) (λ b yes. hex_other 47 b no_hex.1 yes) refl n (omega arith);
  is = in_form (hexadecimal_atom n (omega arith));
}
text_of form.Decimal n le = record {
  passes = decimal_passes n le;
  no_slash = decimal_all (is_other 47) (λ b yes. digit_other 47 b refl yes) n le;
  is = in_digits (decimal_atom n le) refl;
}

pub values_back : (f : Form) (n : ℕ) → n ≤ largest_in_form f → (tables tests : Bool) (lead : List ℕ) → run_in tables tests lead (form_text f n) ≡ Ok (lead ++ decimal n)
values_back f n le tables tests lead = text_back (form_text f n) n (text_of f n le) tables tests lead

-- two texts that are read as numbers, with bytes between them
both_are : (w v : List ℕ) (n m : ℕ) → IsSpelled w n → IsSpelled v m → (lead between : List ℕ)
    → both_atoms lead (atom_of w) w between (atom_of v) v ≡ Ok (lead ++ decimal n ++ between ++ decimal m)
unfolding both_atoms spelled
both_are w v n m (in_form e) (in_form f) lead between =
    ap (λ a. both_atoms lead a w between (atom_of v) v) e ∙ ap (λ a. both_atoms lead (atom.Number n) w between a v) f
both_are w v n m (in_form e) (in_digits f d) lead between =
    ap (λ a. both_atoms lead a w between (atom_of v) v) e ∙ ap (λ a. both_atoms lead (atom.Number n) w between a v) f
    ∙ ap (λ t. Ok (lead ++ decimal n ++ between ++ t)) d
both_are w v n m (in_digits e c) (in_form f) lead between =
    ap (λ a. both_atoms lead a w between (atom_of v) v) e ∙ ap (λ a. both_atoms lead atom.Kept w between a v) f
    ∙ ap (λ t. Ok (lead ++ t ++ between ++ decimal m)) c
both_are w v n m (in_digits e c) (in_digits f d) lead between =
    ap (λ a. both_atoms lead a w between (atom_of v) v) e ∙ ap (λ a. both_atoms lead atom.Kept w between a v) f
    ∙ ap (λ t. Ok (lead ++ t ++ between ++ v)) c ∙ ap (λ t. Ok (lead ++ decimal n ++ between ++ t)) d

-- the place of `..` between two texts, and what stands before and after it
pub dots_between : (w v : List ℕ) → Passes w → place_of_dots (w ++ 46 ∷ 46 ∷ v) ≡ length w
dots_between w v p = p (46 ∷ 46 ∷ v) ∙ ap (λ k. length w + k) (place_dots v) ∙ omega arith

pub drop_more : (w : List ℕ) (a b : ℕ) (v : List ℕ) → drop (length w + 2) (w ++ a ∷ b ∷ v) ≡ v
drop_more [] a b v = refl
drop_more (x ∷ w) a b v =
    let e : suc (length w) + 2 ≡ suc (length w + 2) = omega arith in
    ap (λ k. drop k (x ∷ w ++ a ∷ b ∷ v)) e ∙ drop_more w a b v

range_back : (w v : List ℕ) (n m : ℕ) → IsText w n → IsText v m → (tables tests : Bool) (lead : List ℕ)
    → run_in tables tests lead (w ++ 46 ∷ 46 ∷ v) ≡ Ok (lead ++ decimal n ++ codes ".." ++ decimal m)
unfolding run_in range_in
range_back w v n m tw tv tables tests lead =
    let run = w ++ 46 ∷ 46 ∷ v in
    let place : place_of_dots run ≡ length w = dots_between w v tw.passes in
    let long : length run ≡ length w + length (46 ∷ 46 ∷ v) = length-append w (46 ∷ 46 ∷ v) in
    let dots : has_dots run ≡ true = grind (arith, nat_tests) in
    let a : take (place_of_dots run) run ≡ w = ap (λ k. take k run) place ∙ take_all w (46 ∷ 46 ∷ v) in
    let b : drop (place_of_dots run + 2) run ≡ v = ap (λ k. drop (k + 2) run) place ∙ drop_more w 46 46 v in
    ap (λ h. cond h (range_in lead run) (cond (nat_lt (first_place 47 run) (length run)) (slash_in tables tests lead run) (both_atoms lead (atom_of run) run [] atom.Kept []))) dots
    ∙ ap (λ x. cond (has_dots (drop (place_of_dots run + 2) run)) (Ok (lead ++ run)) (both_atoms lead (atom_of x) x (codes "..") (atom_of (drop (place_of_dots run + 2) run)) (drop (place_of_dots run + 2) run))) a
    ∙ ap (λ x. cond (has_dots x) (Ok (lead ++ run)) (both_atoms lead (atom_of w) w (codes "..") (atom_of x) x)) b
    ∙ ap (λ h. cond h (Ok (lead ++ run)) (both_atoms lead (atom_of w) w (codes "..") (atom_of v) v)) (no_dots v tv.passes)
    ∙ both_are w v n m tw.is tv.is lead (codes "..")

pub ranges_back : (f : Form) (x y : ℕ) → x ≤ largest_in_form f → y ≤ largest_in_form f → (tables tests : Bool) (lead : List ℕ)
    → run_in tables tests lead (form_text f x ++ codes ".." ++ form_text f y) ≡ Ok (lead ++ decimal x ++ codes ".." ++ decimal y)
ranges_back f x y lx ly tables tests lead =
    ap (run_in tables tests lead) (append_assoc (form_text f x) (codes "..") (form_text f y))
    ∙ range_back (form_text f x) (form_text f y) x y (text_of f x lx) (text_of f y ly) tables tests lead

-- the place of `/` after an address, and what stands before and after it
pub slash_place : (w l : List ℕ) → list_all (is_other 47) w ≡ true → first_place 47 (w ++ 47 ∷ l) ≡ length w
unfolding first_place
slash_place w l h = ap length (run_is (is_other 47) w (47 ∷ l) h refl)

pub before_slash : (w l : List ℕ) → list_all (is_other 47) w ≡ true → before_first 47 (w ++ 47 ∷ l) ≡ w
unfolding before_first
before_slash w l h = ap (λ k. take k (w ++ 47 ∷ l)) (slash_place w l h) ∙ take_all w (47 ∷ l)

pub after_slash : (w l : List ℕ) → list_all (is_other 47) w ≡ true → after_first 47 (w ++ 47 ∷ l) ≡ l
unfolding after_first
after_slash w l h = ap (λ k. drop (k + 1) (w ++ 47 ∷ l)) (slash_place w l h) ∙ drop_past w 47 l

slash_passes : (k : ℕ) → k ≤ 32 → Passes (47 ∷ decimal k)
slash_passes k le = passes_run (47 ∷ decimal k) (decimal_all (is_other 46) (λ b yes. digit_other 46 b refl yes) k (omega arith))

prefix_back : (n k : ℕ) → n < 2 ^ 32 → k ≤ 32 → (tables tests : Bool) (lead : List ℕ)
    → run_in tables tests lead (address_text n ++ 47 ∷ decimal k) ≡ prefix_in tables tests lead (decimal k) n k
unfolding run_in slash_in prefix_with
prefix_back n k lt le tables tests lead =
    let w = address_text n in
    let l = decimal k in
    let run = w ++ 47 ∷ l in
    let other : list_all (is_other 47) w ≡ true = address_all (is_other 47) (λ b yes. digit_other 47 b refl yes) refl n (omega arith) in
    let place : first_place 47 run ≡ length w = slash_place w l other in
    let long : length run ≡ length w + length (47 ∷ l) = length-append w (47 ∷ l) in
    let slash : nat_lt (first_place 47 run) (length run) ≡ true = grind (arith, nat_tests) in
    let rest = both_atoms lead (atom_of run) run [] atom.Kept [] in
    let a : before_first 47 run ≡ w = before_slash w l other in
    let b : after_first 47 run ≡ l = after_slash w l other in
    ap (λ h. cond h (range_in lead run) (cond (nat_lt (first_place 47 run) (length run)) (slash_in tables tests lead run) rest))
    (no_dots run (passes_both w (47 ∷ l) (address_passes n (omega arith)) (slash_passes k le)))
    ∙ ap (λ h. cond h (slash_in tables tests lead run) rest) slash
    ∙ ap (λ x. cond (is_dotted x) (prefix_with tables tests lead (after_first 47 run) (address_of x) (number_within 32 (after_first 47 run))) (both_atoms lead (atom_of x) x (codes "/") atom.Kept (after_first 47 run))) a
    ∙ ap (λ x. cond (is_dotted w) (prefix_with tables tests lead x (address_of w) (number_within 32 x)) (both_atoms lead (atom_of w) w (codes "/") atom.Kept x)) b
    ∙ ap (λ h. cond h (prefix_with tables tests lead l (address_of w) (number_within 32 l)) (both_atoms lead (atom_of w) w (codes "/") atom.Kept l)) (address_dotted n (omega arith))
    ∙ ap (λ o. prefix_with tables tests lead l o (number_within 32 l)) (read_back n lt)
    ∙ ap (λ o. prefix_with tables tests lead l (Some n) o) (number_is 32 k le (omega arith))

pub prefixes_back : (n k : ℕ) → n < 2 ^ 32 → k ≤ 32 → has_ones_after n k ≡ false → (tests : Bool) (lead : List ℕ)
    → (run_in false true lead (address_text n ++ codes "/" ++ decimal k) ≡ Ok (codes " in " ++ decimal n ++ codes ".." ++ decimal (n + (address_block_size k - 1))))
    × (run_in true tests lead (address_text n ++ codes "/" ++ decimal k) ≡ Ok (lead ++ decimal n ++ codes "/" ++ decimal k))
unfolding prefix_in
prefixes_back n k lt le ones tests lead =
    let same : address_text n ++ codes "/" ++ decimal k ≡ address_text n ++ 47 ∷ decimal k = append_assoc (address_text n) (codes "/") (decimal k) in (
      ap (run_in false true lead) same ∙ prefix_back n k lt le false true lead
          ∙ ap (λ t. cond t (Err cause.Ones) (Ok (codes " in " ++ decimal n ++ codes ".." ++ decimal (n + (address_block_size k - 1))))) ones,
      ap (run_in true tests lead) same ∙ prefix_back n k lt le true tests lead
          ∙ ap (λ t. cond t (Err cause.Ones) (Ok (lead ++ decimal n ++ codes "/" ++ decimal k))) ones,
    )

or_none : Option ℕ → ℕ
or_none None = 0
or_none (Some n) = n

within_by : (most : ℕ) (w : List ℕ) (n : ℕ) (t : Bool) → (nat_le (value_of w) most && bytes_eq w (decimal (value_of w))) ≡ t
    → cond t (Some (value_of w)) None ≡ Some n → (w ≡ decimal n) × (n ≤ most)
unfolding or_none
within_by most w n true e s =
    let parts = both_pass (nat_le (value_of w) most) (bytes_eq w (decimal (value_of w))) e in
    let same : value_of w ≡ n = ap or_none s in
    let fits : nat_le (value_of w) most ≡ true = parts.0 in
    ((bytes_eq-Decides w (decimal (value_of w))).0 parts.1 ∙ ap decimal same, grind (arith, nat_tests))
within_by most w n false e s = absurd cc

-- what is read as a number is its decimal text
pub within_is : (most : ℕ) (w : List ℕ) (n : ℕ) → number_within most w ≡ Some n → (w ≡ decimal n) × (n ≤ most)
unfolding number_within
within_is most w n s = within_by most w n (nat_le (value_of w) most && bytes_eq w (decimal (value_of w))) refl s

back_by : (f : Form) (w : List ℕ) (tables tests : Bool) (lead : List ℕ) → run_in tables tests lead w ≡ Ok (lead ++ w)
    → (o : Option ℕ) → number_within (largest_in_form f) w ≡ o → run_in tables tests lead (text_or f w o) ≡ Ok (lead ++ w)
unfolding text_or
back_by f w tables tests lead h None e = h
back_by f w tables tests lead h (Some n) e =
    let is = within_is (largest_in_form f) w n e in
    values_back f n is.1 tables tests lead ∙ ap (λ t. Ok (lead ++ t)) (sym is.0)

pub numbers_back : (f : Form) (w : List ℕ) (tables tests : Bool) (lead : List ℕ) → run_in tables tests lead w ≡ Ok (lead ++ w)
    → run_in tables tests lead (number_out f w) ≡ Ok (lead ++ w)
unfolding number_out
numbers_back f w tables tests lead h = back_by f w tables tests lead h (number_within (largest_in_form f) w) refl
