-- Lists in order with one more element put in, doubles, and lists in order with the same elements.
use Rattle.std.proofs.Common.{◌≡◌, ◌≢◌, ℕ, zero, suc, ◌+◌, ◌-◌, ◌<◌, ◌≤◌, inl, inr, ⊎_elim, Bool, true, false, ◌||◌, cond, List, [], ◌∷◌, length, get_or, drop, refl, sym, ap, subst, ◌∙◌, arith}
use Rattle.std.specs.Prelude.{◌==◌, nat_lt, sum_by, AllPairs}
use Rattle.std.specs.List.{list_any, insert, prefix_len}
use Rattle.std.specs.List.Sorted.{IsPermutation, IsNonDecreasingBy}
use Rattle.std.proofs.lemmas.List.Sorted.{sum_by-IsPermutation}
use Rattle.std.proofs.lemmas.List.Recursion.{is_sum_by}
use Rattle.std.proofs.lemmas.Bool.Decides.{nat_tests, eqb_tells}
use Rattle.nk_topo.specs.Topology.{placed, ascending, has_double}
use Rattle.nk_topo.proofs.Members.{In, InOrder, order_from_pairs, pairs_from_order, placed_after, placed_front, in_placed}

-- what comes before x stands to it in R, and x to the others
abbrev pub Fits : {X : Type 0} → (X → X → Type 0) → (X → Bool) → X → X → Type 0
Fits R before x y = (before y ≡ true → R y x) × (before y ≡ false → R x y)

-- a list in order stays so with one more element put in where it fits
pub order_placed : {X : Type 0} (R : X → X → Type 0) → ((x y z : X) → R x y → R y z → R x z) → (before : X → Bool) (x : X) (ys : List X) →
    ((y : X) → In ys y → Fits R before x y) → InOrder R ys → InOrder R (placed before x ys)
order_placed R trans before x [] fits up = ((λ y i. absurd i), tt)
order_placed {X} R trans before x (y ∷ ys) fits up =
    by (before y) refl (order_placed R trans before x ys (λ z i. fits z (inr i)) up.1)
  where
    by : (b : Bool) → before y ≡ b → InOrder R (placed before x ys) → InOrder R (placed before x (y ∷ ys))
    by true e rest =
        subst (InOrder R) (sym (placed_after before x y ys e)) (
          (λ z i. ⊎_elim (λ s. subst (R y) (sym s) ((fits y (inl refl)).0 e)) (λ j. up.0 z j) (in_placed before x ys z i)),
          rest,
        )
    by false e rest =
        let first = (fits y (inl refl)).1 e in
        subst (InOrder R) (sym (placed_front before x y ys e)) (
          (λ z i. ⊎_elim (λ s. subst (R x) (sym s) first) (λ j. trans x y z first (up.0 z j)) i),
          up,
        )

-- a test passes for some element of a list with one more put in where it passes for that one or for some other
pub any_insert : {X : Type 0} (test : X → Bool) (xs : List X) (i : ℕ) (x : X) → list_any test (insert xs i x) ≡ (test x || list_any test xs)
any_insert test [] zero x = refl
any_insert test [] (suc i) x = refl
any_insert test (y ∷ ys) zero x = refl
any_insert test (y ∷ ys) (suc i) x =
    ap (λ b. test y || b) (any_insert test ys i x) ∙ swap (test y) (test x) (list_any test ys)
  where
    swap : (a b c : Bool) → (a || (b || c)) ≡ (b || (a || c))
    swap true true c = refl
    swap true false c = refl
    swap false b c = refl

-- in ascending order a test passes for some number where it did before
any_ascending : (test : ℕ → Bool) (ns : List ℕ) → list_any test (ascending ns) ≡ list_any test ns
any_ascending test [] = refl
any_ascending test (n ∷ ns) =
    any_insert test (ascending ns) (prefix_len (λ m. nat_lt m n) (ascending ns)) n ∙ ap (λ b. test n || b) (any_ascending test ns)

-- a test of equality doesn't ask which number stands first
equal_either : (m n : ℕ) → (m == n) ≡ (n == m)
equal_either m n = grind (arith, nat_tests)

-- one number more stands twice where it is there already
double_insert : (xs : List ℕ) (i n : ℕ) → has_double (insert xs i n) ≡ (list_any (λ m. m == n) xs || has_double xs)
double_insert [] zero n = refl
double_insert [] (suc i) n = refl
double_insert (x ∷ xs) zero n = refl
double_insert (x ∷ xs) (suc i) n =
    ap (λ b. b || has_double (insert xs i n)) (any_insert (λ m. m == x) xs i n)
    ∙ ap (λ b. ((n == x) || list_any (λ m. m == x) xs) || b) (double_insert xs i n)
    ∙ ap (λ b. (b || list_any (λ m. m == x) xs) || (list_any (λ m. m == n) xs || has_double xs)) (equal_either n x)
    ∙ regroup (x == n) (list_any (λ m. m == x) xs) (list_any (λ m. m == n) xs) (has_double xs)
  where
    regroup : (a b c d : Bool) → ((a || b) || (c || d)) ≡ ((a || c) || (b || d))
    regroup true b c d = refl
    regroup false true true d = refl
    regroup false true false d = refl
    regroup false false c d = refl

-- in ascending order a number stands twice where it did before
pub double_ascending : (ns : List ℕ) → has_double (ascending ns) ≡ has_double ns
double_ascending [] = refl
double_ascending (n ∷ ns) =
    double_insert (ascending ns) (prefix_len (λ m. nat_lt m n) (ascending ns)) n
    ∙ ap (λ b. b || has_double (ascending ns)) (any_ascending (λ m. m == n) ns)
    ∙ ap (λ b. list_any (λ m. m == n) ns || b) (double_ascending ns)

-- one where a test passes
abbrev one_if : Bool → ℕ
one_if b = cond b 1 0

-- how often a number stands in a list
abbrev times : ℕ → List ℕ → ℕ
times n [] = 0
times n (m ∷ ms) = one_if (m == n) + times n ms

-- it is std's sum of ones
times_sum : (n : ℕ) (xs : List ℕ) → times n xs ≡ sum_by (λ m. one_if (m == n)) xs
times_sum n xs = is_sum_by (times n) (λ m. one_if (m == n)) refl (λ _ _. refl) xs

-- a list in another order has each number as often
times_same : (n : ℕ) (xs ys : List ℕ) → IsPermutation xs ys → times n ys ≡ times n xs
times_same n xs ys moved =
    times_sum n ys ∙ sum_by-IsPermutation (λ m. one_if (m == n)) xs ys moved ∙ sym (times_sum n xs)

-- one number more stands once more
times_insert : (n : ℕ) (xs : List ℕ) (i x : ℕ) → times n (insert xs i x) ≡ one_if (x == n) + times n xs
times_insert n [] zero x = refl
times_insert n [] (suc i) x = refl
times_insert n (y ∷ ys) zero x = refl
times_insert n (y ∷ ys) (suc i) x = let rest = times_insert n ys i x in omega (arith, rest)

-- in ascending order each number stands as often as before
times_ascending : (n : ℕ) (ns : List ℕ) → times n (ascending ns) ≡ times n ns
times_ascending n [] = refl
times_ascending n (m ∷ ms) =
    let more : times n (ascending (m ∷ ms)) ≡ one_if (m == n) + times n (ascending ms) =
    times_insert n (ascending ms) (prefix_len (λ p. nat_lt p m) (ascending ms)) m in
    more ∙ ap (λ k. one_if (m == n) + k) (times_ascending n ms)

-- the numbers in ascending order climb
ascending_climbs : (ns : List ℕ) → InOrder (λ p q. p ≤ q) (ascending ns)
ascending_climbs [] = tt
ascending_climbs (n ∷ ns) =
    order_placed (λ p q. p ≤ q) (λ x y z a b. omega (arith, a, b)) (λ m. nat_lt m n) n (ascending ns)
    (λ m i. ((λ e. grind (arith, nat_tests, e)), (λ e. grind (arith, nat_tests, e))))
    (ascending_climbs ns)

-- what stands in a list that climbs is not below its first number
not_below : (x n : ℕ) (xs : List ℕ) → ((y : ℕ) → In xs y → x ≤ y) → 0 < times n xs → x ≤ n
not_below x n [] all some = absurd (omega (arith, some))
not_below x n (y ∷ ys) all some =
    ⊎_elim
    (λ s. let at = all y (inl refl) in omega (arith, at, s.1))
    (λ s.
    let rest : 0 < one_if false + times n ys = subst (λ b. 0 < one_if b + times n ys) s.0 some in
    not_below x n ys (λ z i. all z (inr i)) (omega (arith, rest)))
    (eqb_tells y n)

-- nor is it below it where it stands after the first
not_below_first : (x n : ℕ) (xs : List ℕ) → InOrder (λ p q. p ≤ q) (x ∷ xs) → 0 < times n (x ∷ xs) → x ≤ n
not_below_first x n xs up some =
    not_below x n (x ∷ xs) (λ y i. ⊎_elim (λ s. omega (arith, s)) (λ j. up.0 y j) i) some

-- a first number stands in its list
first_stands : (x : ℕ) (xs : List ℕ) → 0 < times x (x ∷ xs)
first_stands x xs =
    ⊎_elim
    (λ s. subst (λ b. 0 < one_if b + times x xs) (sym s.0) (omega arith))
    (λ s. absurd (s.1 refl))
    (eqb_tells x x)

-- two lists that climb and have each number equally often are one
one_climb : (xs ys : List ℕ) → InOrder (λ p q. p ≤ q) xs → InOrder (λ p q. p ≤ q) ys → ((n : ℕ) → times n xs ≡ times n ys) → xs ≡ ys
one_climb [] [] a b h = refl
one_climb [] (y ∷ ys) a b h = let some = first_stands y ys in let none = h y in absurd (omega (arith, some, none))
one_climb (x ∷ xs) [] a b h = let some = first_stands x xs in let none = h x in absurd (omega (arith, some, none))
one_climb (x ∷ xs) (y ∷ ys) a b h =
    let there : y ≤ x = not_below_first y x ys b (subst (λ k. 0 < k) (h x) (first_stands x xs)) in
    let here : x ≤ y = not_below_first x y xs a (subst (λ k. 0 < k) (sym (h y)) (first_stands y ys)) in
    let same : x ≡ y = omega (arith, there, here) in
    ap (λ z. z ∷ xs) same
    ∙ ap (λ zs. y ∷ zs) (one_climb xs ys a.1 b.1 (λ n.
    let both : one_if (x == n) + times n xs ≡ one_if (y == n) + times n ys = h n in
    let flags : one_if (x == n) ≡ one_if (y == n) = ap (λ z. one_if (z == n)) same in
    omega (arith, both, flags)))

-- a list that climbs and is another one in some order is that one in ascending order
sorted_is_ascending : (xs ys : List ℕ) → IsPermutation xs ys → InOrder (λ p q. p ≤ q) ys → ys ≡ ascending xs
sorted_is_ascending xs ys moved up =
    one_climb ys (ascending xs) up (ascending_climbs xs) (λ n. times_same n xs ys moved ∙ sym (times_ascending n xs))

-- neither of two tests passes where neither or the other does
left_false : (a b : Bool) → (a || b) ≡ false → a ≡ false
left_false true b e = e
left_false false b e = refl

right_false : (a b : Bool) → (a || b) ≡ false → b ≡ false
right_false true b e = absurd cc
right_false false b e = e

-- a test that passes for no element fails for each
pub fails_for : {X : Type 0} (test : X → Bool) (xs : List X) (x : X) → list_any test xs ≡ false → In xs x → test x ≡ false
fails_for test [] x e i = absurd i
fails_for test (y ∷ ys) x e i =
    ⊎_elim
    (λ s. subst (λ z. test z ≡ false) (sym s) (left_false (test y) (list_any test ys) e))
    (λ j. fails_for test ys x (right_false (test y) (list_any test ys) e) j)
    i

-- and a test that fails for each passes for none
pub passes_for_none : {X : Type 0} (test : X → Bool) (xs : List X) → ((x : X) → In xs x → test x ≡ false) → list_any test xs ≡ false
passes_for_none test [] all = refl
passes_for_none test (y ∷ ys) all =
    ap (λ b. b || list_any test ys) (all y (inl refl)) ∙ passes_for_none test ys (λ x i. all x (inr i))

-- numbers without doubles in ascending order ascend strictly
pub ascending_rises : (ns : List ℕ) → has_double ns ≡ false → InOrder (λ p q. p < q) (ascending ns)
ascending_rises [] e = tt
ascending_rises (n ∷ ns) e =
    let alone : list_any (λ m. m == n) (ascending ns) ≡ false =
    any_ascending (λ m. m == n) ns ∙ left_false (list_any (λ m. m == n) ns) (has_double ns) e in
    order_placed (λ p q. p < q) (λ x y z a b. omega (arith, a, b)) (λ m. nat_lt m n) n (ascending ns)
    (λ m i. (
      (λ b. grind (arith, nat_tests, b)),
      λ b. let other = fails_for (λ p. p == n) (ascending ns) m alone i in grind (arith, nat_tests, b, other),
    ))
    (ascending_rises ns (right_false (list_any (λ m. m == n) ns) (has_double ns) e))

-- in a list that climbs, a number below the next one stands once
double_after : (xs : List ℕ) (k : ℕ) → InOrder (λ p q. p ≤ q) xs → suc k < length xs → get_or xs k 0 ≢ get_or xs (suc k) 0 →
    has_double (drop k xs) ≡ has_double (drop (suc k) xs)
double_after [] k up lt other = absurd (omega (arith, lt))
double_after (x ∷ []) k up lt other = absurd (omega (arith, lt))
double_after (x ∷ y ∷ ys) zero up lt other =
    let first = up.0 y (inl refl) in
    ap (λ b. b || has_double (y ∷ ys)) (passes_for_none (λ m. m == x) (y ∷ ys) (λ z i.
    let above : y ≤ z = ⊎_elim (λ s. omega (arith, s)) (λ j. up.1.0 z j) i in
    grind (arith, nat_tests, first, above, other)))
double_after (x ∷ y ∷ ys) (suc k) up lt other =
    let less : suc k < length (y ∷ ys) = omega (arith, lt) in
    double_after (y ∷ ys) k up.1 less other

-- no number of a list of at most one stands twice
double_end : (xs : List ℕ) (k : ℕ) → length xs ≤ suc k → has_double (drop k xs) ≡ false
double_end [] zero le = refl
double_end [] (suc k) le = refl
double_end (x ∷ []) zero le = refl
double_end (x ∷ y ∷ ys) zero le = absurd (omega (arith, le))
double_end (x ∷ xs) (suc k) le =
    let less : length xs ≤ suc k = omega (arith, le) in
    double_end xs k less

-- a loop's step: the number before the place is not the one at it
pub double_more : (xs : List ℕ) (i : ℕ) → AllPairs (λ p q. p ≤ q) xs → 1 ≤ i → i < length xs →
    get_or xs (i - 1) 0 ≢ get_or xs i 0 → has_double (drop (i - 1) xs) ≡ has_double xs → has_double (drop (i + 1 - 1) xs) ≡ has_double xs
double_more xs i up some lt other before =
    let next : suc (i - 1) ≡ i = omega arith in
    let place : i + 1 - 1 ≡ i = omega arith in
    let within : suc (i - 1) < length xs = omega arith in
    let differs : get_or xs (i - 1) 0 ≢ get_or xs (suc (i - 1)) 0 = subst (λ k. get_or xs (i - 1) 0 ≢ get_or xs k 0) (sym next) other in
    let step : has_double (drop (i - 1) xs) ≡ has_double (drop (suc (i - 1)) xs) =
    double_after xs (i - 1) (order_from_pairs (λ p q. p ≤ q) xs up) within differs in
    ap (λ k. has_double (drop k xs)) (place ∙ sym next) ∙ sym step ∙ before

-- or at the end
pub double_nowhere : (xs : List ℕ) (i : ℕ) → length xs ≤ i → has_double (drop (i - 1) xs) ≡ has_double xs → has_double xs ≡ false
double_nowhere xs i le before = sym before ∙ double_end xs (i - 1) (omega arith)

-- what a sort gives is in order
pub order_from_sort : (xs : List ℕ) → IsNonDecreasingBy (λ x. x) xs → AllPairs (λ p q. p ≤ q) xs
order_from_sort xs h i j d less lt = h i j d (omega arith) lt

-- and it is the list in ascending order
pub sort_is_ascending : (xs ys : List ℕ) → IsPermutation xs ys → AllPairs (λ p q. p ≤ q) ys → ys ≡ ascending xs
sort_is_ascending xs ys moved up = sorted_is_ascending xs ys moved (order_from_pairs (λ p q. p ≤ q) ys up)

-- a list in ascending order without doubles ascends strictly
pub sorted_rises : (xs ys : List ℕ) → ys ≡ ascending xs → has_double ys ≡ false → AllPairs (λ p q. p < q) ys
sorted_rises xs ys is e =
    subst (λ zs. AllPairs (λ p q. p < q) zs) (sym is) (pairs_from_order (λ p q. p < q) (ascending xs)
    (ascending_rises xs (sym (double_ascending xs) ∙ ap has_double (sym is) ∙ e)))
