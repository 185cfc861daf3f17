-- The parts of a run of bytes, and what `in` makes of the run by its parts.
use Rattle.std.proofs.Common.{◌≡◌, ◌<◌, ◌≤◌, ◌+◌, ◌==◌, ◌&&◌, ℕ, suc, Bool, true, false, not, cond, List, [], ◌∷◌, ◌++◌, length, take, drop, refl, sym, ap, ◌∙◌, arith, append_assoc, length-append}
use Rattle.std.proofs.lemmas.Bool.{false≢true, eqb-true, le-ltb, ltb-false}
use Rattle.std.proofs.lemmas.Bool.Decides.{nat_tests}
use Rattle.std.proofs.lemmas.List.Sums.{take_while-cons}
use Rattle.std.specs.Prelude.{Ok, codes, nat_lt, take_while}
use Rattle.std.specs.List.{list_all}
use Rattle.nk_lex.proofs.Digits.{both_pass}
use Rattle.nk_number_forms.specs.declared.forms.Atom.TheVariants as atom
use Rattle.nk_number_forms.specs.Forms.{address_of, after_first, atom_of, first_byte, first_place, has_dots, is_dotted, place_of_dots}
use Rattle.nk_number_forms.specs.Numbers.{number_within}
use Rattle.nk_notation.specs.Inward.{both_atoms, prefix_with, range_in, run_in, slash_in}
use Rattle.nk_notation.proofs.Addresses.{take_all}
use Rattle.nk_notation.proofs.ReadBack.{after_slash, before_slash, drop_more, slash_place}
use Rattle.nk_notation.proofs.WrittenForms.{Passes, all_cons, is_other, place_dots}

-- `in` leaves the run as it is, wherever it stands
abbrev pub IsStill : List ℕ → Type 0
IsStill run = (tables tests : Bool) (lead : List ℕ) → run_in tables tests lead run ≡ Ok (lead ++ run)

-- four texts one after the other
pub joined : (lead x d y : List ℕ) → lead ++ x ++ d ++ y ≡ lead ++ (x ++ (d ++ y))
joined lead x d y = append_assoc (lead ++ x) d y ∙ append_assoc lead x (d ++ y)

-- a run with a `..`, whatever stands after it
abbrev pub IsBeforeDots : List ℕ → Type 0
IsBeforeDots x = (z : List ℕ) → place_of_dots (x ++ 46 ∷ 46 ∷ z) ≡ length x

pub record DotSplit (run : List ℕ) : Type 0 where
  pub front : List ℕ
  pub rest : List ℕ
  pub are : run ≡ front ++ 46 ∷ 46 ∷ rest
  pub dots : IsBeforeDots front

first_same : (x : List ℕ) (b : ℕ) (y z : List ℕ) → first_byte (x ++ b ∷ y) ≡ first_byte (x ++ b ∷ z)
unfolding first_byte
first_same [] b y z = refl
first_same (a ∷ x) b y z = refl

split_by : (c : ℕ) (w : List ℕ) (t : Bool) → (c == 46 && (first_byte w == 46)) ≡ t → cond t 0 (place_of_dots w + 1) < suc (length w)
    → (place_of_dots w < length w → DotSplit w) → DotSplit (c ∷ w)
unfolding place_of_dots first_byte
split_by c [] true e lt s = absurd (false≢true (both_pass (c == 46) false e).1)
split_by c (d ∷ w) true e lt s =
    let parts = both_pass (c == 46) (d == 46) e in record {
      front = [];
      rest = w;
      are = ap (λ x. x ∷ d ∷ w) (eqb-true c 46 parts.0) ∙ ap (λ x. 46 ∷ x ∷ w) (eqb-true d 46 parts.1);
      dots = λ z. place_dots z;
    }
split_by c w false e lt s =
    let p = s (omega (arith, lt)) in record {
      front = c ∷ p.front;
      rest = p.rest;
      are = ap (λ l. c ∷ l) p.are;
      dots = λ z.
          let same : (c == 46 && (first_byte (p.front ++ 46 ∷ 46 ∷ z) == 46)) ≡ false =
          ap (λ b. c == 46 && (b == 46)) (first_same p.front 46 (46 ∷ z) (46 ∷ p.rest)) ∙ ap (λ l. c == 46 && (first_byte l == 46)) (sym p.are) ∙ e in
          let here : place_of_dots (p.front ++ 46 ∷ 46 ∷ z) ≡ length p.front = p.dots z in
          ap (λ t. cond t 0 (place_of_dots (p.front ++ 46 ∷ 46 ∷ z) + 1)) same ∙ omega (arith, here);
    }

pub split_dots : (run : List ℕ) → place_of_dots run < length run → DotSplit run
unfolding place_of_dots
split_dots [] lt = absurd (omega (arith, lt))
split_dots (c ∷ w) lt = split_by c w (c == 46 && (first_byte w == 46)) refl lt (λ less. split_dots w less)

-- what `in` makes of it
pub run_ranged : (x y : List ℕ) → IsBeforeDots x → (tables tests : Bool) (lead : List ℕ)
    → run_in tables tests lead (x ++ 46 ∷ 46 ∷ y) ≡ cond (has_dots y) (Ok (lead ++ (x ++ 46 ∷ 46 ∷ y))) (both_atoms lead (atom_of x) x (codes "..") (atom_of y) y)
unfolding run_in range_in
run_ranged x y p tables tests lead =
    let run = x ++ 46 ∷ 46 ∷ y in
    let place : place_of_dots run ≡ length x = p y in
    let long : length run ≡ length x + length (46 ∷ 46 ∷ y) = length-append x (46 ∷ 46 ∷ y) in
    let dots : has_dots run ≡ true = grind (arith, nat_tests) in
    let a : take (place_of_dots run) run ≡ x = ap (λ k. take k run) place ∙ take_all x (46 ∷ 46 ∷ y) in
    let b : drop (place_of_dots run + 2) run ≡ y = ap (λ k. drop (k + 2) run) place ∙ drop_more x 46 46 y in
    ap (λ h. cond h (range_in lead run) (cond (nat_lt (first_place 47 run) (length run)) (slash_in tables tests lead run) (both_atoms lead (atom_of run) run [] atom.Kept []))) dots
    ∙ ap (λ v. cond (has_dots (drop (place_of_dots run + 2) run)) (Ok (lead ++ run)) (both_atoms lead (atom_of v) v (codes "..") (atom_of (drop (place_of_dots run + 2) run)) (drop (place_of_dots run + 2) run))) a
    ∙ ap (λ v. cond (has_dots v) (Ok (lead ++ run)) (both_atoms lead (atom_of x) x (codes "..") (atom_of v) v)) b

-- a run with a `/`
pub record SlashSplit (run : List ℕ) : Type 0 where
  pub front : List ℕ
  pub rest : List ℕ
  pub are : run ≡ front ++ 47 ∷ rest
  pub other : list_all (is_other 47) front ≡ true

slash_by : (b : ℕ) (w : List ℕ) (t : Bool) → (b == 47) ≡ t → length (cond (not t) (b ∷ take_while (is_other 47) w) []) < suc (length w)
    → (first_place 47 w < length w → SlashSplit w) → SlashSplit (b ∷ w)
unfolding first_place
slash_by b w true e lt s = record { front = []; rest = w; are = ap (λ x. x ∷ w) (eqb-true b 47 e); other = refl }
slash_by b w false e lt s =
    let p = s (omega (arith, lt)) in record {
      front = b ∷ p.front;
      rest = p.rest;
      are = ap (λ l. b ∷ l) p.are;
      other = all_cons (is_other 47) b p.front (ap not e) p.other;
    }

pub split_slash : (run : List ℕ) → first_place 47 run < length run → SlashSplit run
unfolding first_place
split_slash [] lt = absurd (omega (arith, lt))
split_slash (b ∷ w) lt =
    let e : length (take_while (is_other 47) (b ∷ w)) ≡ length (cond (not (b == 47)) (b ∷ take_while (is_other 47) w) []) = ap length (take_while-cons (is_other 47) b w) in
    let less : length (cond (not (b == 47)) (b ∷ take_while (is_other 47) w) []) < suc (length w) = omega (arith, lt, e) in
    slash_by b w (b == 47) refl less (λ more. split_slash w more)

-- what `in` makes of it
pub run_slashed : (a l : List ℕ) → list_all (is_other 47) a ≡ true → has_dots (a ++ 47 ∷ l) ≡ false → (tables tests : Bool) (lead : List ℕ)
    → run_in tables tests lead (a ++ 47 ∷ l) ≡ cond (is_dotted a) (prefix_with tables tests lead l (address_of a) (number_within 32 l)) (both_atoms lead (atom_of a) a (codes "/") atom.Kept l)
unfolding run_in slash_in
run_slashed a l other none tables tests lead =
    let run = a ++ 47 ∷ l in
    let place : first_place 47 run ≡ length a = slash_place a l other in
    let long : length run ≡ length a + length (47 ∷ l) = length-append a (47 ∷ l) in
    let slash : nat_lt (first_place 47 run) (length run) ≡ true = grind (arith, nat_tests) in
    let rest = both_atoms lead (atom_of run) run [] atom.Kept [] in
    ap (λ h. cond h (range_in lead run) (cond (nat_lt (first_place 47 run) (length run)) (slash_in tables tests lead run) rest)) none
    ∙ ap (λ h. cond h (slash_in tables tests lead run) rest) slash
    ∙ ap (λ x. cond (is_dotted x) (prefix_with tables tests lead (after_first 47 run) (address_of x) (number_within 32 (after_first 47 run))) (both_atoms lead (atom_of x) x (codes "/") atom.Kept (after_first 47 run))) (before_slash a l other)
    ∙ ap (λ x. cond (is_dotted a) (prefix_with tables tests lead x (address_of a) (number_within 32 x)) (both_atoms lead (atom_of a) a (codes "/") atom.Kept x)) (after_slash a l other)

-- a run without both
pub run_alone : (w : List ℕ) → has_dots w ≡ false → nat_lt (first_place 47 w) (length w) ≡ false → (tables tests : Bool) (lead : List ℕ)
    → run_in tables tests lead w ≡ both_atoms lead (atom_of w) w [] atom.Kept []
unfolding run_in
run_alone w none slash tables tests lead =
    let rest = both_atoms lead (atom_of w) w [] atom.Kept [] in
    ap (λ h. cond h (range_in lead w) (cond (nat_lt (first_place 47 w) (length w)) (slash_in tables tests lead w) rest)) none
    ∙ ap (λ h. cond h (slash_in tables tests lead w) rest) slash

-- a front adds no more than its length before the first `..`
place_le : (v w : List ℕ) → place_of_dots (v ++ w) ≤ length v + place_of_dots w
unfolding place_of_dots
place_le [] w = omega arith
place_le (c ∷ v) w =
    let more : place_of_dots (v ++ w) ≤ length v + place_of_dots w = place_le v w in
    elim (c == 46 && (first_byte (v ++ w) == 46)) as (λ t. cond t 0 (place_of_dots (v ++ w) + 1) ≤ suc (length v) + place_of_dots w) [
      | true ↦ omega arith
      | false ↦ omega (arith, more)
    ]

-- no `..` comes of another front
pub no_dots_after : (x a s : List ℕ) → Passes x → has_dots (a ++ s) ≡ false → has_dots (x ++ s) ≡ false
no_dots_after x a s p none =
    let here : place_of_dots (x ++ s) ≡ length x + place_of_dots s = p s in
    let there : place_of_dots (a ++ s) ≤ length a + place_of_dots s = place_le a s in
    let past : length (a ++ s) ≤ place_of_dots (a ++ s) = ltb-false (place_of_dots (a ++ s)) (length (a ++ s)) none in
    le-ltb (place_of_dots (x ++ s)) (length (x ++ s)) (omega (arith, here, there, past, length-append a s, length-append x s))
