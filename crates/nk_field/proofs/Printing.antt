-- Items one after the other, with something between them.
use Rattle.std.proofs.Common.{◌≡◌, ◌<◌, ◌≤◌, ◌+◌, ◌-◌, ℕ, suc, Bool, true, false, not, cond, Option, None, Some, List, [], ◌∷◌, ◌++◌, length, take, refl, sym, ap, ◌∙◌, arith, append_assoc, codes}
use Rattle.std.specs.Prelude.{◌||◌, filter, if◌then◌else◌}
use Rattle.std.specs.List.{join_by, flat_map, range_with_len}
use Rattle.std.proofs.lemmas.List.{length-take}
use Rattle.std.proofs.lemmas.Bool.Decides.{nat_tests}
use Rattle.nk_field.specs.Packet.{FieldTable, IsFieldTable}
use Rattle.nk_field.specs.Texts.{is_this, is_tag, is_shown, shown, item_text, packet_bytes}

-- a range that isn't empty begins with its first number
pub range_first : (a n : ℕ) → a < n → range_with_len a (n - a) ≡ a ∷ range_with_len (a + 1) (n - (a + 1))
range_first a n lt =
    let one : n - a ≡ suc (n - (a + 1)) = omega arith in
    ap (range_with_len a) one

-- a range without numbers
pub range_done : (a n : ℕ) → n ≤ a → range_with_len a (n - a) ≡ []
range_done a n le =
    let none : n - a ≡ 0 = omega arith in
    ap (range_with_len a) none

-- what the elements that pass give is what all give, where the others give nothing
pub passing : {X Y : Type 0} (p : X → Bool) (g : X → List Y) (xs : List X)
    → flat_map (λ x. if p x then g x else []) xs ≡ flat_map g (filter p xs)
passing p g [] = refl
passing p g (x ∷ xs) = by_test (p x) (passing p g xs)
  where
    by_test : (b : Bool) → flat_map (λ y. if p y then g y else []) xs ≡ flat_map g (filter p xs)
        → cond b (g x) [] ++ flat_map (λ y. if p y then g y else []) xs ≡ flat_map g (cond b (x ∷ filter p xs) (filter p xs))
    by_test true e = ap (λ l. g x ++ l) e
    by_test false e = e

-- the tag is none of the first two fields
this_false : (o : Option ℕ) (k : ℕ) → ((f : ℕ) → o ≡ Some f → 2 ≤ f) → k < 2 → is_this o k ≡ false
this_false None k h lt = refl
this_false (Some f) k h lt = let le : 2 ≤ f = h f refl in grind (arith, nat_tests)

shown_or : (a b : Bool) → b ≡ false → (a || not b) ≡ true
shown_or true b h = refl
shown_or false true h = cc
shown_or false false h = refl

-- the switch and the port are always shown
pub first_shown : (t : FieldTable) (with_tag : Bool) (k : ℕ) → IsFieldTable t → k < 2 → is_shown t with_tag k ≡ true
first_shown t with_tag k is lt =
    shown_or with_tag (is_tag t k) (this_false t.tag k (λ f e. (is.tag_past_port f e).0) lt)

-- the table has at least two fields
pub two_at_least : (t : FieldTable) → IsFieldTable t → 2 ≤ length t.maxima
two_at_least t is =
    let two : length (take 2 t.maxima) ≡ 2 = ap length is.built_in_maxima in
    omega (arith, sym (length-take 2 t.maxima) ∙ two)

-- the switch stands first among the shown fields
pub shown_first : (t : FieldTable) (with_tag : Bool) → IsFieldTable t
    → shown t with_tag ≡ 0 ∷ filter (is_shown t with_tag) (range_with_len 1 (length t.maxima - 1))
shown_first t with_tag is =
    let more : 0 < length t.maxima = omega (arith, two_at_least t is) in
    let whole : range_with_len 0 (length t.maxima) ≡ 0 ∷ range_with_len 1 (length t.maxima - 1) =
    (let same : length t.maxima - 0 ≡ length t.maxima = omega arith in sym (ap (range_with_len 0) same) ∙ range_first 0 (length t.maxima) more) in
    ap (filter (is_shown t with_tag)) whole
    ∙ ap (λ b. cond b (0 ∷ filter (is_shown t with_tag) (range_with_len 1 (length t.maxima - 1))) (filter (is_shown t with_tag) (range_with_len 1 (length t.maxima - 1)))) (first_shown t with_tag 0 is (omega arith))

-- a further field's text: the comma and its item, where it is shown
abbrev pub further : FieldTable → Bool → List ℕ → ℕ → List ℕ
further t with_tag pk f = if is_shown t with_tag f then codes "," ++ item_text t pk f else []

-- the first item and what is further
pub packet_begins : (t : FieldTable) (with_tag : Bool) (pk out before : List ℕ) → IsFieldTable t
    → out ≡ before ++ item_text t pk 0
    → out ++ flat_map (further t with_tag pk) (range_with_len 1 (length t.maxima - 1)) ≡ before ++ packet_bytes t with_tag pk
packet_begins t with_tag pk out before is e =
    let rest = range_with_len 1 (length t.maxima - 1) in
    ap (λ l. l ++ flat_map (further t with_tag pk) rest) e
    ∙ append_assoc before (item_text t pk 0) (flat_map (further t with_tag pk) rest)
    ∙ ap (λ l. before ++ (item_text t pk 0 ++ l)) (passing (is_shown t with_tag) (λ f. codes "," ++ item_text t pk f) rest)
    ∙ ap (λ fs. before ++ join_by (item_text t pk) (codes ",") fs) (sym (shown_first t with_tag is))

-- one field more
pub packet_step : (t : FieldTable) (with_tag : Bool) (pk out more whole : List ℕ) (f n : ℕ) → f < n
    → more ≡ out ++ further t with_tag pk f
    → out ++ flat_map (further t with_tag pk) (range_with_len f (n - f)) ≡ whole
    → more ++ flat_map (further t with_tag pk) (range_with_len (f + 1) (n - (f + 1))) ≡ whole
packet_step t with_tag pk out more whole f n lt e inv =
    let rest = flat_map (further t with_tag pk) (range_with_len (f + 1) (n - (f + 1))) in
    ap (λ l. l ++ rest) e ∙ append_assoc out (further t with_tag pk f) rest
    ∙ ap (λ fs. out ++ flat_map (further t with_tag pk) fs) (sym (range_first f n lt)) ∙ inv
