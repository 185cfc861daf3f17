-- What `in` makes of a run of bytes is left as it is.
use Rattle.std.proofs.Common.{◌≡◌, ◌<◌, ◌≤◌, ◌+◌, ◌-◌, ◌^◌, ◌==◌, ◌&&◌, ◌||◌, inl, inr, ℕ, Bool, true, false, cond, List, [], ◌∷◌, ◌++◌, length, decimal, refl, sym, ap, subst, ◌∙◌, arith, append-nil}
use Rattle.std.proofs.lemmas.Bool.{cases_lt, ltb-true}
use Rattle.std.proofs.lemmas.List.Folds.{list_all-append, list_any-append}
use Rattle.std.proofs.lemmas.Nat.{pow_below}
use Rattle.std.specs.Prelude.{Option, None, Some, Ok, Err, codes, nat_lt}
use Rattle.std.specs.declared.result.Result.{Result}
use Rattle.std.specs.List.{list_all, list_any}
use Rattle.nk_lex.specs.Classes.{is_digit, is_name_start}
use Rattle.nk_lex.specs.Lex.{largest}
use Rattle.nk_lex.proofs.Digits.{both_pass, digits_of}
use Rattle.nk_number_forms.specs.declared.forms.Atom.{Atom}
use Rattle.nk_number_forms.specs.declared.forms.Atom.TheVariants as atom
use Rattle.nk_number_forms.specs.declared.fault.Cause.{Cause}
use Rattle.nk_number_forms.specs.declared.fault.Cause.TheVariants as cause
use Rattle.nk_number_forms.specs.Forms.{address_block_size, address_of, atom_of, first_byte, first_place, has_dots, has_ones_after, is_dotted, place_of_dots}
use Rattle.nk_number_forms.specs.Numbers.{number_within}
use Rattle.nk_notation.specs.declared.outward.Form.TheVariants as form
use Rattle.nk_notation.specs.Inward.{both_atoms, prefix_in, prefix_with, run_in, spelled}
use Rattle.nk_notation.specs.Lexemes.{is_run_byte}
use Rattle.nk_notation.specs.Outward.{form_text, largest_in_form}
use Rattle.nk_notation.proofs.ReadBack.{dots_between, values_back}
use Rattle.nk_notation.proofs.WrittenForms.{all_cons, decimal_all, decimal_atom, decimal_passes, digit_other, is_other, no_dots, not_dotted}
use Rattle.nk_notation_laws.proofs.Bounds.{Below, IsSmall, address_below, atom_small}
use Rattle.nk_notation_laws.proofs.Shapes.{IsBeforeDots, IsStill, joined, no_dots_after, run_alone, run_ranged, run_slashed, split_dots, split_slash}

or_true : (t : Bool) → (t || true) ≡ true
or_true true = refl
or_true false = refl

-- bytes that are no name: they begin with `=` or a digit, or have a dot
abbrev pub is_nameless : List ℕ → Bool
is_nameless w = (first_byte w == 61) || (is_digit (first_byte w) || list_any (λ b. b == 46) w)

pub digit_nameless : (w : List ℕ) → is_digit (first_byte w) ≡ true → is_nameless w ≡ true
digit_nameless w h = ap (λ t. (first_byte w == 61) || (t || list_any (λ b. b == 46) w)) h ∙ or_true (first_byte w == 61)

pub dot_nameless : (v w : List ℕ) → is_nameless (v ++ 46 ∷ w) ≡ true
dot_nameless v w =
    let x = v ++ 46 ∷ w in
    let dot : list_any (λ b. b == 46) x ≡ true = list_any-append (λ b. b == 46) v (46 ∷ w) ∙ or_true (list_any (λ b. b == 46) v) in
    ap (λ t. (first_byte x == 61) || (is_digit (first_byte x) || t)) dot
    ∙ ap (λ t. (first_byte x == 61) || t) (or_true (is_digit (first_byte x))) ∙ or_true (first_byte x == 61)

pub digit_run : (b : ℕ) → is_digit b ≡ true → is_run_byte b ≡ true
digit_run b h = ap (λ t. (is_name_start b || t) || b == 46 || b == 58 || b == 47) h ∙ ap (λ t. t || b == 46 || b == 58 || b == 47) (or_true (is_name_start b))

pub decimal_run : (n : ℕ) → n ≤ largest → list_all is_run_byte (decimal n) ≡ true
decimal_run n le = decimal_all is_run_byte digit_run n le

pub number_nameless : (n : ℕ) → n ≤ largest → (x : List ℕ) → is_nameless (decimal n ++ x) ≡ true
unfolding first_byte
number_nameless n le x =
    let d = digits_of n le in
    digit_nameless (decimal n ++ x) (ap (λ w. is_digit (first_byte (w ++ x))) d.are ∙ d.first_digit)

pub all_two : (p : ℕ → Bool) (v w : List ℕ) → list_all p v ≡ true → list_all p w ≡ true → list_all p (v ++ w) ≡ true
all_two p v w hv hw = list_all-append p v w ∙ ap (λ t. t && list_all p w) hv ∙ hw

pub all_parts : (p : ℕ → Bool) (v : List ℕ) (b : ℕ) (w : List ℕ) → list_all p (v ++ b ∷ w) ≡ true → (list_all p v ≡ true) × (list_all p w ≡ true)
all_parts p v b w h =
    let parts = both_pass (list_all p v) (p b && list_all p w) (sym (list_all-append p v (b ∷ w)) ∙ h) in
    (parts.0, (both_pass (p b) (list_all p w) parts.1).1)

-- what a run becomes: it stays, or becomes another run that stays, or a range stands in its place
pub data Comes (tests : Bool) (lead run t : List ℕ) : Type 0 where
  kept : t ≡ lead ++ run → IsStill run → Comes tests lead run t
  changed : (to : List ℕ) → t ≡ lead ++ to → IsStill to → list_all is_run_byte to ≡ true → is_nameless to ≡ true → Comes tests lead run t
  ranged : (n m : ℕ) → n ≤ largest → m ≤ largest → tests ≡ true → t ≡ codes " in " ++ decimal n ++ codes ".." ++ decimal m → Comes tests lead run t

text_or_none : Result (List ℕ) Cause → List ℕ
text_or_none (Ok t) = t
text_or_none (Err c) = []

-- the word is written so
abbrev pub said_so : List ℕ → Result (List ℕ) Cause
said_so t = Ok t

pub same_text : (v t : List ℕ) → said_so v ≡ said_so t → v ≡ t
unfolding text_or_none
same_text v t e = ap text_or_none e

pub decimal_still : (n : ℕ) → n ≤ largest → IsStill (decimal n)
unfolding form_text largest_in_form
decimal_still n le = λ tables tests lead. values_back form.Decimal n le tables tests lead

-- the two ends of a range, as they are written
record IsFirst (x : List ℕ) : Type 0 where
  dots : IsBeforeDots x
  stays : atom_of x ≡ atom.Kept
  run : list_all is_run_byte x ≡ true

record IsSecond (y : List ℕ) : Type 0 where
  none : has_dots y ≡ false
  stays : atom_of y ≡ atom.Kept
  run : list_all is_run_byte y ≡ true

number_first : (n : ℕ) → n ≤ largest → IsFirst (decimal n)
number_first n le = record { dots = λ z. dots_between (decimal n) z (decimal_passes n le); stays = decimal_atom n le; run = decimal_run n le }

number_second : (n : ℕ) → n ≤ largest → IsSecond (decimal n)
number_second n le = record { none = no_dots (decimal n) (decimal_passes n le); stays = decimal_atom n le; run = decimal_run n le }

dotted_still : (x y : List ℕ) → IsFirst x → IsSecond y → IsStill (x ++ 46 ∷ 46 ∷ y)
unfolding both_atoms spelled
dotted_still x y f s = λ tables tests lead.
    run_ranged x y f.dots tables tests lead
    ∙ ap (λ t. cond t (Ok (lead ++ (x ++ 46 ∷ 46 ∷ y))) (both_atoms lead (atom_of x) x (codes "..") (atom_of y) y)) s.none
    ∙ ap (λ a. both_atoms lead a x (codes "..") (atom_of y) y) f.stays
    ∙ ap (λ a. both_atoms lead atom.Kept x (codes "..") a y) s.stays
    ∙ ap Ok (joined lead x (codes "..") y)

pub range_still : (n m : ℕ) → n ≤ largest → m ≤ largest → IsStill (decimal n ++ 46 ∷ 46 ∷ decimal m)
range_still n m ln lm = dotted_still (decimal n) (decimal m) (number_first n ln) (number_second m lm)

ends_to : (tests : Bool) (lead run x y t : List ℕ) → IsFirst x → IsSecond y → said_so (lead ++ x ++ codes ".." ++ y) ≡ Ok t → Comes tests lead run t
ends_to tests lead run x y t f s e =
    changed (x ++ 46 ∷ 46 ∷ y) (sym (same_text (lead ++ x ++ codes ".." ++ y) t e) ∙ joined lead x (codes "..") y) (dotted_still x y f s)
    (all_two is_run_byte x (46 ∷ 46 ∷ y) f.run (all_cons is_run_byte 46 (46 ∷ y) refl (all_cons is_run_byte 46 y refl s.run)))
    (dot_nameless x (46 ∷ y))

ends_come : (tests : Bool) (lead run a b t : List ℕ) → IsBeforeDots a → has_dots b ≡ false → list_all is_run_byte a ≡ true → list_all is_run_byte b ≡ true
    → (A B : Atom) → atom_of a ≡ A → atom_of b ≡ B → IsSmall A → IsSmall B → both_atoms lead A a (codes "..") B b ≡ Ok t → Comes tests lead run t
unfolding both_atoms spelled
ends_come tests lead run a b t dots none ra rb (atom.Faulty c) B ea eb sa sb h = absurd cc
ends_come tests lead run a b t dots none ra rb atom.Kept (atom.Faulty c) ea eb sa sb h = absurd cc
ends_come tests lead run a b t dots none ra rb (atom.Number n) (atom.Faulty c) ea eb sa sb h = absurd cc
ends_come tests lead run a b t dots none ra rb atom.Kept atom.Kept ea eb sa sb h =
    ends_to tests lead run a b t (record { dots = dots; stays = ea; run = ra }) (record { none = none; stays = eb; run = rb }) h
ends_come tests lead run a b t dots none ra rb atom.Kept (atom.Number m) ea eb sa sb h =
    ends_to tests lead run a (decimal m) t (record { dots = dots; stays = ea; run = ra }) (number_second m sb) h
ends_come tests lead run a b t dots none ra rb (atom.Number n) atom.Kept ea eb sa sb h =
    ends_to tests lead run (decimal n) b t (number_first n sa) (record { none = none; stays = eb; run = rb }) h
ends_come tests lead run a b t dots none ra rb (atom.Number n) (atom.Number m) ea eb sa sb h =
    ends_to tests lead run (decimal n) (decimal m) t (number_first n sa) (number_second m sb) h

dots_by : (tables tests : Bool) (lead a b t : List ℕ) → IsBeforeDots a → list_all is_run_byte a ≡ true → list_all is_run_byte b ≡ true → (u : Bool) → has_dots b ≡ u
    → cond u (Ok (lead ++ (a ++ 46 ∷ 46 ∷ b))) (both_atoms lead (atom_of a) a (codes "..") (atom_of b) b) ≡ Ok t → Comes tests lead (a ++ 46 ∷ 46 ∷ b) t
dots_by tables tests lead a b t dots ra rb true e h =
    kept (sym (same_text (lead ++ (a ++ 46 ∷ 46 ∷ b)) t h))
    (λ ta te le. run_ranged a b dots ta te le ∙ ap (λ u. cond u (Ok (le ++ (a ++ 46 ∷ 46 ∷ b))) (both_atoms le (atom_of a) a (codes "..") (atom_of b) b)) e)
dots_by tables tests lead a b t dots ra rb false e h =
    ends_come tests lead (a ++ 46 ∷ 46 ∷ b) a b t dots e ra rb (atom_of a) (atom_of b) refl refl (atom_small a) (atom_small b) h

dots_come : (tables tests : Bool) (lead a b t : List ℕ) → IsBeforeDots a → list_all is_run_byte (a ++ 46 ∷ 46 ∷ b) ≡ true
    → run_in tables tests lead (a ++ 46 ∷ 46 ∷ b) ≡ Ok t → Comes tests lead (a ++ 46 ∷ 46 ∷ b) t
dots_come tables tests lead a b t dots runs h =
    let parts = all_parts is_run_byte a 46 (46 ∷ b) runs in
    dots_by tables tests lead a b t dots parts.0 (both_pass (is_run_byte 46) (list_all is_run_byte b) parts.1).1 (has_dots b) refl
    (sym (run_ranged a b dots tables tests lead) ∙ h)

-- a run with a `/`
slashed_still : (x l : List ℕ) → list_all (is_other 47) x ≡ true → has_dots (x ++ 47 ∷ l) ≡ false → is_dotted x ≡ false → atom_of x ≡ atom.Kept → IsStill (x ++ 47 ∷ l)
unfolding both_atoms spelled
slashed_still x l other none undotted e = λ tables tests lead.
    run_slashed x l other none tables tests lead
    ∙ ap (λ t. cond t (prefix_with tables tests lead l (address_of x) (number_within 32 l)) (both_atoms lead (atom_of x) x (codes "/") atom.Kept l)) undotted
    ∙ ap (λ a. both_atoms lead a x (codes "/") atom.Kept l) e
    ∙ ap Ok (joined lead x (codes "/") l)

pub number_slashed : (n : ℕ) → n ≤ largest → (a l : List ℕ) → has_dots (a ++ 47 ∷ l) ≡ false → IsStill (decimal n ++ 47 ∷ l)
number_slashed n le a l none =
    slashed_still (decimal n) l (decimal_all (is_other 47) (λ b yes. digit_other 47 b refl yes) n le)
    (no_dots_after (decimal n) a (47 ∷ l) (decimal_passes n le) none)
    (not_dotted (decimal n) (decimal_all (is_other 46) (λ b yes. digit_other 46 b refl yes) n le)) (decimal_atom n le)

slash_to : (tests : Bool) (lead a l t : List ℕ) (n : ℕ) → n ≤ largest → has_dots (a ++ 47 ∷ l) ≡ false → list_all is_run_byte l ≡ true
    → said_so (lead ++ decimal n ++ codes "/" ++ l) ≡ Ok t → Comes tests lead (a ++ 47 ∷ l) t
slash_to tests lead a l t n le none rl e =
    changed (decimal n ++ 47 ∷ l) (sym (same_text (lead ++ decimal n ++ codes "/" ++ l) t e) ∙ joined lead (decimal n) (codes "/") l)
    (number_slashed n le a l none)
    (all_two is_run_byte (decimal n) (47 ∷ l) (decimal_run n le) (all_cons is_run_byte 47 l refl rl))
    (number_nameless n le (47 ∷ l))

slash_come : (tests : Bool) (lead a l t : List ℕ) → list_all (is_other 47) a ≡ true → has_dots (a ++ 47 ∷ l) ≡ false → list_all is_run_byte l ≡ true → is_dotted a ≡ false
    → (A : Atom) → atom_of a ≡ A → IsSmall A → both_atoms lead A a (codes "/") atom.Kept l ≡ Ok t → Comes tests lead (a ++ 47 ∷ l) t
unfolding both_atoms spelled
slash_come tests lead a l t other none rl undotted (atom.Faulty c) e s h = absurd cc
slash_come tests lead a l t other none rl undotted (atom.Number n) e s h = slash_to tests lead a l t n s none rl h
slash_come tests lead a l t other none rl undotted atom.Kept e s h =
    kept (sym (same_text (lead ++ a ++ codes "/" ++ l) t h) ∙ joined lead a (codes "/") l) (slashed_still a l other none undotted e)

block_le : (k : ℕ) → address_block_size k ≤ 4294967296
block_le k = elim (cases_lt 0 k) as (λ c. 2 ^ (32 - k) ≤ 4294967296) [
  | inl more ↦ let lt : 2 ^ (32 - k) < 2 ^ 32 = pow_below (32 - k) 32 (omega (arith, more)) in omega (arith, lt)
  | inr none ↦ let e : 32 - k ≡ 32 = omega (arith, none) in let same : 2 ^ (32 - k) ≡ 2 ^ 32 = ap (λ j. 2 ^ j) e in omega (arith, same)
]

prefix_come : (tables tests : Bool) (lead a l t : List ℕ) (n k : ℕ) → n < 4294967296 → has_dots (a ++ 47 ∷ l) ≡ false → list_all is_run_byte l ≡ true
    → (ones : Bool) → cond ones (Err cause.Ones) (cond tables (Ok (lead ++ decimal n ++ codes "/" ++ l))
    (cond tests (Ok (codes " in " ++ decimal n ++ codes ".." ++ decimal (n + (address_block_size k - 1)))) (Err cause.Untested))) ≡ Ok t
    → Comes tests lead (a ++ 47 ∷ l) t
prefix_come tables tests lead a l t n k lt none rl true h = absurd cc
prefix_come true tests lead a l t n k lt none rl false h = slash_to tests lead a l t n (omega (arith, lt)) none rl h
prefix_come false false lead a l t n k lt none rl false h = absurd cc
prefix_come false true lead a l t n k lt none rl false h =
    let m = n + (address_block_size k - 1) in
    ranged n m (omega (arith, lt)) (omega (arith, lt, block_le k)) refl (sym (same_text (codes " in " ++ decimal n ++ codes ".." ++ decimal m) t h))

prefixes_come : (tables tests : Bool) (lead a l t : List ℕ) → has_dots (a ++ 47 ∷ l) ≡ false → list_all is_run_byte l ≡ true
    → (o p : Option ℕ) → Below 4294967296 o → prefix_with tables tests lead l o p ≡ Ok t → Comes tests lead (a ++ 47 ∷ l) t
unfolding prefix_with prefix_in
prefixes_come tables tests lead a l t none rl None p small h = absurd cc
prefixes_come tables tests lead a l t none rl (Some n) None small h = absurd cc
prefixes_come tables tests lead a l t none rl (Some n) (Some k) small h = prefix_come tables tests lead a l t n k small none rl (has_ones_after n k) h

slashes_by : (tables tests : Bool) (lead a l t : List ℕ) → list_all (is_other 47) a ≡ true → has_dots (a ++ 47 ∷ l) ≡ false → list_all is_run_byte l ≡ true
    → (u : Bool) → is_dotted a ≡ u → cond u (prefix_with tables tests lead l (address_of a) (number_within 32 l)) (both_atoms lead (atom_of a) a (codes "/") atom.Kept l) ≡ Ok t
    → Comes tests lead (a ++ 47 ∷ l) t
slashes_by tables tests lead a l t other none rl true e h = prefixes_come tables tests lead a l t none rl (address_of a) (number_within 32 l) (address_below a) h
slashes_by tables tests lead a l t other none rl false e h = slash_come tests lead a l t other none rl e (atom_of a) refl (atom_small a) h

slashes_come : (tables tests : Bool) (lead a l t : List ℕ) → list_all (is_other 47) a ≡ true → has_dots (a ++ 47 ∷ l) ≡ false → list_all is_run_byte (a ++ 47 ∷ l) ≡ true
    → run_in tables tests lead (a ++ 47 ∷ l) ≡ Ok t → Comes tests lead (a ++ 47 ∷ l) t
slashes_come tables tests lead a l t other none runs h =
    slashes_by tables tests lead a l t other none (all_parts is_run_byte a 47 l runs).1 (is_dotted a) refl (sym (run_slashed a l other none tables tests lead) ∙ h)

-- a run without both
alone_come : (tests : Bool) (lead w t : List ℕ) → has_dots w ≡ false → nat_lt (first_place 47 w) (length w) ≡ false
    → (A : Atom) → atom_of w ≡ A → IsSmall A → both_atoms lead A w [] atom.Kept [] ≡ Ok t → Comes tests lead w t
unfolding both_atoms spelled
alone_come tests lead w t none slash (atom.Faulty c) e s h = absurd cc
alone_come tests lead w t none slash (atom.Number n) e s h =
    changed (decimal n) (sym (same_text (lead ++ decimal n ++ [] ++ []) t h) ∙ append-nil (lead ++ decimal n ++ []) ∙ append-nil (lead ++ decimal n))
    (decimal_still n s) (decimal_run n s) (subst (λ x. is_nameless x ≡ true) (append-nil (decimal n)) (number_nameless n s []))
alone_come tests lead w t none slash atom.Kept e s h =
    kept (sym (same_text (lead ++ w ++ [] ++ []) t h) ∙ append-nil (lead ++ w ++ []) ∙ append-nil (lead ++ w))
    (λ ta te le. run_alone w none slash ta te le ∙ ap (λ a. both_atoms le a w [] atom.Kept []) e ∙ ap Ok (append-nil (le ++ w ++ []) ∙ append-nil (le ++ w)))

undotted_by : (tables tests : Bool) (lead w t : List ℕ) → list_all is_run_byte w ≡ true → has_dots w ≡ false → (u : Bool) → nat_lt (first_place 47 w) (length w) ≡ u
    → run_in tables tests lead w ≡ Ok t → Comes tests lead w t
undotted_by tables tests lead w t runs none true e h =
    let s = split_slash w (ltb-true (first_place 47 w) (length w) e) in
    subst (λ x. Comes tests lead x t) (sym s.are)
    (slashes_come tables tests lead s.front s.rest t s.other (subst (λ x. has_dots x ≡ false) s.are none) (subst (λ x. list_all is_run_byte x ≡ true) s.are runs)
    (subst (λ x. run_in tables tests lead x ≡ Ok t) s.are h))
undotted_by tables tests lead w t runs none false e h =
    alone_come tests lead w t none e (atom_of w) refl (atom_small w) (sym (run_alone w none e tables tests lead) ∙ h)

run_by : (tables tests : Bool) (lead w t : List ℕ) → list_all is_run_byte w ≡ true → (u : Bool) → has_dots w ≡ u → run_in tables tests lead w ≡ Ok t → Comes tests lead w t
run_by tables tests lead w t runs true e h =
    let s = split_dots w (ltb-true (place_of_dots w) (length w) e) in
    subst (λ x. Comes tests lead x t) (sym s.are)
    (dots_come tables tests lead s.front s.rest t s.dots (subst (λ x. list_all is_run_byte x ≡ true) s.are runs) (subst (λ x. run_in tables tests lead x ≡ Ok t) s.are h))
run_by tables tests lead w t runs false e h = undotted_by tables tests lead w t runs e (nat_lt (first_place 47 w) (length w)) refl h

-- what `in` makes of a run of bytes
pub run_comes : (tables tests : Bool) (lead w t : List ℕ) → list_all is_run_byte w ≡ true → run_in tables tests lead w ≡ Ok t → Comes tests lead w t
run_comes tables tests lead w t runs h = run_by tables tests lead w t runs (has_dots w) refl h
