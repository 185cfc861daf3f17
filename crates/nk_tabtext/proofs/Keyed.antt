-- Elements that have a field: those of the tag and the other ones, and lists in which fields ascend.
use Rattle.std.proofs.Common.{◌≡◌, ◌≤◌, ◌<◌, ◌+◌, ℕ, List, [], ◌∷◌, ◌++◌, Bool, true, false, refl, ap, ◌∙◌, Option, Some, None, arith, ◌||◌}
use Rattle.std.specs.Prelude.{◌==◌}
use Rattle.std.specs.List.{list_any, AllByRecursion}
use Rattle.std.proofs.lemmas.Bool.Decides.{nat_tests}
use Rattle.nk_field.specs.Packet.{FieldTable}
use Rattle.nk_tabtext.specs.Text.{is_tag, is_this}

-- something where two flags agree, else nothing
abbrev pub kept_where : {X : Type 0} → Bool → Bool → X → List X → List X
kept_where true true x rest = x ∷ rest
kept_where true false x rest = rest
kept_where false true x rest = rest
kept_where false false x rest = x ∷ rest

-- the elements of the tag, or the other ones
abbrev pub of_tag : {X : Type 0} → (X → ℕ) → FieldTable → Bool → List X → List X
of_tag field fs flag [] = []
of_tag field fs flag (x ∷ xs) = kept_where (is_tag fs (field x)) flag x (of_tag field fs flag xs)

-- each is below
abbrev pub Below : {X : Type 0} → (X → ℕ) → ℕ → List X → Type 0
Below field k [] = Unit {0}
Below field k (x ∷ xs) = (field x < k) × Below field k xs

-- the fields ascend, from low on
abbrev pub Ascend : {X : Type 0} → (X → ℕ) → ℕ → List X → Type 0
Ascend field low [] = Unit {0}
Ascend field low (x ∷ xs) = (low ≤ field x) × Ascend field (field x + 1) xs

-- the field of an assignment, and that of a match
abbrev pub set_field : ℕ × ℕ → ℕ
set_field s = s.0

abbrev pub match_field : ℕ × ℕ × ℕ → ℕ
match_field m = m.0

abbrev pub sets_where : FieldTable → Bool → List (ℕ × ℕ) → List (ℕ × ℕ)
sets_where fs flag ss = of_tag set_field fs flag ss

abbrev pub matches_where : FieldTable → Bool → List (ℕ × ℕ × ℕ) → List (ℕ × ℕ × ℕ)
matches_where fs flag ms = of_tag match_field fs flag ms

-- there is no second one
abbrev pub AtMostOne : {X : Type 0} → List X → Type 0
AtMostOne [] = Unit {0}
AtMostOne (x ∷ xs) = xs ≡ []

-- neither of two tests
or_no : (a b : Bool) → a ≡ false → b ≡ false → (a || b) ≡ false
or_no a b e f = ap (λ x. x || b) e ∙ f

other_number : (m n : ℕ) → (m ≡ n → ⊥) → (m == n) ≡ false
other_number m n h = grind (arith, nat_tests, h)

-- what a test finds in neither of two lists
pub both_miss : {X : Type 0} (p : X → Bool) (xs ys : List X) → list_any p xs ≡ false → list_any p ys ≡ false → list_any p (xs ++ ys) ≡ false
both_miss p [] ys e f = f
both_miss p (x ∷ xs) ys e f = by (p x) (list_any p xs) e (both_miss p xs ys)
  where
    by : (a b : Bool) → (a || b) ≡ false → (b ≡ false → list_any p ys ≡ false → list_any p (xs ++ ys) ≡ false) → (a || list_any p (xs ++ ys)) ≡ false
    by true b e go = absurd (true_false e)
      where
        true_false : true ≡ false → ⊥
        true_false e = cc
    by false b e go = go e f

module _ {X : Type 0} (field : X → ℕ) where
  -- below a higher bound too
  pub below_more : (k l : ℕ) (xs : List X) → k ≤ l → Below field k xs → Below field l xs
  below_more k l [] le h = tt
  below_more k l (x ∷ xs) le h = (omega (arith, le, h.0), below_more k l xs le h.1)

  pub below_push : (k : ℕ) (xs : List X) (m : X) → Below field k xs → field m < k → Below field k (xs ++ m ∷ [])
  below_push k [] m h lt = (lt, tt)
  below_push k (x ∷ xs) m h lt = (h.0, below_push k xs m h.1 lt)

  pub both_below : (k : ℕ) (xs ys : List X) → Below field k xs → Below field k ys → Below field k (xs ++ ys)
  both_below k [] ys b c = c
  both_below k (x ∷ xs) ys b c = (b.0, both_below k xs ys b.1 c)

  pub ascend_push : (l k : ℕ) (ys : List X) (x : X) → Ascend field l ys → Below field k ys → k ≤ field x → l ≤ field x → Ascend field l (ys ++ x ∷ [])
  ascend_push l k [] x a c le lx = (lx, tt)
  ascend_push l k (y ∷ ys) x a c le lx = (a.0, ascend_push (field y + 1) k ys x a.1 c.1 le (omega (arith, c.0, le)))

  -- from a lower bound on too
  from_lower : (k l : ℕ) (xs : List X) → l ≤ k → Ascend field k xs → Ascend field l xs
  from_lower k l [] le h = tt
  from_lower k l (x ∷ xs) le h = (omega (arith, le, h.0), h.1)

  -- fields below a bound are none from it on, and the other way round
  pub below_misses : (k n : ℕ) (xs : List X) → Below field k xs → k ≤ n → list_any (λ s. field s == n) xs ≡ false
  below_misses k n [] h le = refl
  below_misses k n (x ∷ xs) h le = or_no (field x == n) _ (other_number (field x) n (λ e. omega (arith, e, h.0, le))) (below_misses k n xs h.1 le)

  pub above_misses : (k n : ℕ) (xs : List X) → Ascend field k xs → n < k → list_any (λ s. field s == n) xs ≡ false
  above_misses k n [] h lt = refl
  above_misses k n (x ∷ xs) h lt =
      or_no (field x == n) _ (other_number (field x) n (λ e. omega (arith, e, h.0, lt))) (above_misses (field x + 1) n xs h.1 (omega (arith, h.0, lt)))

  -- some of them ascend too
  pub where_ascends : (fs : FieldTable) (flag : Bool) (k : ℕ) (xs : List X) → Ascend field k xs → Ascend field k (of_tag field fs flag xs)
  where_ascends fs flag k [] h = tt
  where_ascends fs flag k (m ∷ ms) h = by (is_tag fs (field m)) flag (where_ascends fs flag (field m + 1) ms h.1)
    where
      by : (a b : Bool) → Ascend field (field m + 1) (of_tag field fs flag ms) → Ascend field k (kept_where a b m (of_tag field fs flag ms))
      by true true r = (h.0, r)
      by true false r = from_lower (field m + 1) k (of_tag field fs flag ms) (omega (arith, h.0)) r
      by false true r = from_lower (field m + 1) k (of_tag field fs flag ms) (omega (arith, h.0)) r
      by false false r = (h.0, r)

  -- what holds of all holds of some of them
  pub all_where : (P : X → Type 0) (fs : FieldTable) (flag : Bool) (xs : List X) → AllByRecursion P xs → AllByRecursion P (of_tag field fs flag xs)
  all_where P fs flag [] h = tt
  all_where P fs flag (m ∷ ms) h = by (is_tag fs (field m)) flag (all_where P fs flag ms h.1)
    where
      by : (a b : Bool) → AllByRecursion P (of_tag field fs flag ms) → AllByRecursion P (kept_where a b m (of_tag field fs flag ms))
      by true true r = (h.0, r)
      by true false r = r
      by false true r = r
      by false false r = (h.0, r)

  -- after the tag no other is it
  pub no_tag : (fs : FieldTable) (f : ℕ) (ms : List X) → is_tag fs f ≡ true → Ascend field (f + 1) ms
      → (of_tag field fs true ms ≡ []) × (of_tag field fs false ms ≡ ms)
  no_tag fs f ms e a = all fs.tag e f ms e (omega arith) a
    where
      none_at : (o : Option ℕ) (g : ℕ) → is_this o f ≡ true → f < g → is_this o g ≡ false
      none_at None g e lt = absurd (false_true e)
        where
          false_true : false ≡ true → ⊥
          false_true e = cc
      none_at (Some t) g e lt = grind (arith, nat_tests, e, lt)

      all : (o : Option ℕ) → is_tag fs f ≡ true → (k : ℕ) (ms : List X) → is_tag fs f ≡ true → f < k + 1 → Ascend field (k + 1) ms
          → (of_tag field fs true ms ≡ []) × (of_tag field fs false ms ≡ ms)
      all o s k [] e lt a = (refl, refl)
      all o s k (m ∷ ms) e lt a =
          let r = all o s (field m) ms e (omega (arith, lt, a.0)) a.1 in
          let n : is_tag fs (field m) ≡ false = none_at fs.tag (field m) e (omega (arith, lt, a.0)) in (
            ap (λ b. kept_where b true m (of_tag field fs true ms)) n ∙ r.0,
            ap (λ b. kept_where b false m (of_tag field fs false ms)) n ∙ ap (λ l. m ∷ l) r.1,
          )

  -- the tag stands once where the fields ascend
  pub one_tag : (fs : FieldTable) (k : ℕ) (ms : List X) → Ascend field k ms → AtMostOne (of_tag field fs true ms)
  one_tag fs k [] a = tt
  one_tag fs k (m ∷ ms) a = at (is_tag fs (field m)) refl (one_tag fs (field m + 1) ms a.1)
    where
      at : (t : Bool) → is_tag fs (field m) ≡ t → AtMostOne (of_tag field fs true ms) → AtMostOne (kept_where t true m (of_tag field fs true ms))
      at true s r = (no_tag fs (field m) ms s a.1).0
      at false s r = r
