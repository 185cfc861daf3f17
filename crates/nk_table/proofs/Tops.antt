-- Of rows the one above all others, found row by row.
use Rattle.std.proofs.Common.{◌≡◌, ℕ, ◌+◌, ◌<◌, ◌≤◌, ◌&&◌, Bool, true, false, inl, inr, ⊎_elim, List, [], ◌∷◌, ◌++◌, refl, sym, ap, subst, ◌∙◌, arith, append_assoc, append-nil, length, get_or, take, cond, Option, None, Some}
use Rattle.std.specs.Prelude.{nat_lt, filter, if◌then◌else◌}
use Rattle.std.specs.List.{list_all}
use Rattle.std.proofs.lemmas.Bool.Decides.{nat_tests}
use Rattle.std.proofs.lemmas.List.Elements.{filter_more}
use Rattle.nk_field.proofs.Lists.{In, in_left, in_right, in_either}
use Rattle.nk_table.specs.declared.Row.{Row}
use Rattle.nk_table.specs.Rules.{highest, is_above_all}

-- a test that passes for each element passes for all
all_pass : {X : Type 0} (test : X → Bool) (xs : List X) → ((x : X) → In xs x → test x ≡ true) → list_all test xs ≡ true
all_pass test [] h = refl
all_pass test (x ∷ xs) h = ap (λ b. b && list_all test xs) (h x (inl refl)) ∙ all_pass test xs (λ y i. h y (inr i))

-- and one that passes for all passes for each
each_passes : {X : Type 0} (test : X → Bool) (xs : List X) (x : X) → list_all test xs ≡ true → In xs x → test x ≡ true
each_passes test [] x e i = absurd i
each_passes test (y ∷ ys) x e i =
    by (test y) refl e i (λ f j. each_passes test ys x f j)
  where
    by : (b : Bool) → test y ≡ b → (b && list_all test ys) ≡ true → In (y ∷ ys) x →
        (list_all test ys ≡ true → In ys x → test x ≡ true) → test x ≡ true
    by true h f i rest = ⊎_elim (λ s. ap test s ∙ h) (λ j. rest f j) i
    by false h f i rest = absurd cc

-- a test that fails for one element fails for all
one_fails : {X : Type 0} (test : X → Bool) (xs : List X) (x : X) → test x ≡ false → In xs x → list_all test xs ≡ false
one_fails test [] x e i = absurd i
one_fails test (y ∷ ys) x e i =
    ⊎_elim
    (λ s. ap (λ b. b && list_all test ys) (ap test (sym s) ∙ e))
    (λ j. by (test y) (one_fails test ys x e j))
    i
  where
    by : (b : Bool) → list_all test ys ≡ false → (b && list_all test ys) ≡ false
    by true f = f
    by false f = refl

-- a row at least as high as each of the others is above all of them but those of its height
abbrev pub IsHighest : List Row → Row → Type 0
IsHighest xs r = (x : Row) → In xs x → x.priority ≤ r.priority

-- a test over two lists joined
all_joined : {X : Type 0} (test : X → Bool) (xs ys : List X) → list_all test (xs ++ ys) ≡ (list_all test xs && list_all test ys)
all_joined test [] ys = refl
all_joined test (x ∷ xs) ys = by (test x) (all_joined test xs ys)
  where
    by : (b : Bool) → list_all test (xs ++ ys) ≡ (list_all test xs && list_all test ys) →
        (b && list_all test (xs ++ ys)) ≡ ((b && list_all test xs) && list_all test ys)
    by true e = e
    by false e = refl

-- one row more after the others
above_with : (priority : ℕ) (before xs : List Row) (r : Row) →
    is_above_all priority (before ++ (xs ++ r ∷ [])) ≡ (is_above_all priority (before ++ xs) && nat_lt r.priority priority)
above_with priority before xs r =
    ap (is_above_all priority) (sym (append_assoc before xs (r ∷ [])))
    ∙ all_joined (λ x. nat_lt x.priority priority) (before ++ xs) (r ∷ [])
    ∙ ap (λ b. is_above_all priority (before ++ xs) && b) (alone (nat_lt r.priority priority))
  where
    alone : (b : Bool) → (b && true) ≡ b
    alone true = refl
    alone false = refl

-- the first row of what is left counts among those before it
shifted : (before xs : List Row) (x y : Row) → In ((before ++ x ∷ []) ++ xs) y → In (before ++ (x ∷ xs)) y
shifted before xs x y i = subst (λ l. In l y) (append_assoc before (x ∷ []) xs) i

-- and the other way
unshifted : (before xs : List Row) (x y : Row) → In (before ++ (x ∷ xs)) y → In ((before ++ x ∷ []) ++ xs) y
unshifted before xs x y i = subst (λ l. In l y) (sym (append_assoc before (x ∷ []) xs)) i

-- the one that isn't above all gives way to the rest
passed_over : (before xs : List Row) (x : Row) → is_above_all x.priority (before ++ xs) ≡ false →
    highest before (x ∷ xs) ≡ highest (before ++ x ∷ []) xs
passed_over before xs x e = ap (λ b. if b then Some x else highest (before ++ x ∷ []) xs) e

-- a row above all others is the one
higher : (before xs : List Row) (r : Row) → ((y : Row) → In (before ++ xs) y → y.priority < r.priority) →
    highest before (xs ++ r ∷ []) ≡ Some r
higher before [] r h =
    let above : is_above_all r.priority (before ++ []) ≡ true =
    all_pass (λ x. nat_lt x.priority r.priority) (before ++ []) (λ y i. let lt = h y i in grind (arith, nat_tests, lt)) in
    ap (λ b. if b then Some r else None) above
higher before (x ∷ xs) r h =
    let lt = h x (in_right before (x ∷ xs) x (inl refl)) in
    let fails : is_above_all x.priority (before ++ (xs ++ r ∷ [])) ≡ false =
    above_with x.priority before xs r ∙ and_false (is_above_all x.priority (before ++ xs)) (nat_lt r.priority x.priority) (grind (arith, nat_tests, lt)) in
    passed_over before (xs ++ r ∷ []) x fails ∙ higher (before ++ x ∷ []) xs r (λ y i. h y (shifted before xs x y i))
  where
    and_false : (a b : Bool) → b ≡ false → (a && b) ≡ false
    and_false true b e = e
    and_false false b e = refl

-- a row below another one changes nothing
lower : (before xs : List Row) (r m : Row) → In (before ++ xs) m → r.priority < m.priority →
    highest before (xs ++ r ∷ []) ≡ highest before xs
lower before [] r m i lt =
    let fails : is_above_all r.priority (before ++ []) ≡ false =
    one_fails (λ x. nat_lt x.priority r.priority) (before ++ []) m (grind (arith, nat_tests, lt)) i in
    ap (λ b. if b then Some r else None) fails
lower before (x ∷ xs) r m i lt =
    let rest = lower (before ++ x ∷ []) xs r m (unshifted before xs x m i) lt in
    by (is_above_all x.priority (before ++ xs)) refl rest
  where
    below : is_above_all x.priority (before ++ xs) ≡ true → nat_lt r.priority x.priority ≡ true
    below e =
        ⊎_elim
        (λ j. let less = each_passes (λ y. nat_lt y.priority x.priority) (before ++ xs) m e (in_left before xs m j) in grind (arith, nat_tests, lt, less))
        (λ j.
        ⊎_elim
        (λ s. let same : m.priority ≡ x.priority = ap (λ y. y.priority) s in grind (arith, nat_tests, lt, same))
        (λ k. let less = each_passes (λ y. nat_lt y.priority x.priority) (before ++ xs) m e (in_right before xs m k) in grind (arith, nat_tests, lt, less))
        j)
        (in_either before (x ∷ xs) m i)

    by : (b : Bool) → is_above_all x.priority (before ++ xs) ≡ b → highest (before ++ x ∷ []) (xs ++ r ∷ []) ≡ highest (before ++ x ∷ []) xs →
        highest before ((x ∷ xs) ++ r ∷ []) ≡ highest before (x ∷ xs)
    by true e rest =
        let still : is_above_all x.priority (before ++ (xs ++ r ∷ [])) ≡ true =
        above_with x.priority before xs r ∙ ap (λ b. b && nat_lt r.priority x.priority) e ∙ below e in
        ap (λ b. if b then Some x else highest (before ++ x ∷ []) (xs ++ r ∷ [])) still
        ∙ sym (ap (λ b. if b then Some x else highest (before ++ x ∷ []) xs) e)
    by false e rest =
        let fails : is_above_all x.priority (before ++ (xs ++ r ∷ [])) ≡ false =
        above_with x.priority before xs r ∙ ap (λ b. b && nat_lt r.priority x.priority) e in
        passed_over before (xs ++ r ∷ []) x fails ∙ rest ∙ sym (passed_over before xs x e)

-- where a row shares the height of another and none is higher, none is above all others
equal : (before xs : List Row) (r m : Row) → In (before ++ xs) m → m.priority ≡ r.priority → IsHighest (before ++ xs) r →
    highest before (xs ++ r ∷ []) ≡ None
equal before [] r m i same top =
    let fails : is_above_all r.priority (before ++ []) ≡ false =
    one_fails (λ x. nat_lt x.priority r.priority) (before ++ []) m (grind (arith, nat_tests, same)) i in
    ap (λ b. if b then Some r else None) fails
equal before (x ∷ xs) r m i same top =
    let le = top x (in_right before (x ∷ xs) x (inl refl)) in
    let fails : is_above_all x.priority (before ++ (xs ++ r ∷ [])) ≡ false =
    one_fails (λ y. nat_lt y.priority x.priority) (before ++ (xs ++ r ∷ [])) r (grind (arith, nat_tests, le))
    (in_right before (xs ++ r ∷ []) r (in_right xs (r ∷ []) r (inl refl))) in
    passed_over before (xs ++ r ∷ []) x fails
    ∙ equal (before ++ x ∷ []) xs r m (unshifted before xs x m i) same (λ y j. top y (shifted before xs x y j))

-- What is known of the rows seen: the first one of the highest, and whether another one shares its height.
abbrev pub IsBest : List Row → Option Row → Bool → Type 0
IsBest seen None tied = seen ≡ []
IsBest seen (Some b) tied = In seen b × IsHighest seen b × (highest [] seen ≡ (if tied then None else Some b))

-- each of the rows seen, or the new one
each_seen : (P : Row → Type 0) (seen : List Row) (r : Row) → ((x : Row) → In seen x → P x) → P r → (x : Row) → In (seen ++ r ∷ []) x → P x
each_seen P seen r h p x i = ⊎_elim (λ j. h x j) (λ j. ⊎_elim (λ s. subst P (sym s) p) (λ k. absurd k) j) (in_either seen (r ∷ []) x i)

-- the first row
pub best_first : (seen : List Row) (r : Row) (tied : Bool) → IsBest seen None tied → IsBest (seen ++ r ∷ []) (Some r) false
best_first seen r tied none = subst (λ l. IsBest (l ++ r ∷ []) (Some r) false) (sym none) (
  inl refl,
  (λ x i. ⊎_elim (λ s. let same : x.priority ≡ r.priority = ap (λ y. y.priority) s in omega (arith, same)) (λ k. absurd k) i),
  refl,
)

-- a higher row
pub best_higher : (seen : List Row) (b r : Row) (tied : Bool) → IsBest seen (Some b) tied → b.priority < r.priority →
    IsBest (seen ++ r ∷ []) (Some r) false
best_higher seen b r tied is lt = (
  in_right seen (r ∷ []) r (inl refl),
  each_seen (λ x. x.priority ≤ r.priority) seen r (λ x i. let le = is.1 x i in omega (arith, le, lt)) (omega arith),
  higher [] seen r (λ x i. let le = is.1 x i in omega (arith, le, lt)),
)

-- a lower row
pub best_lower : (seen : List Row) (b r : Row) (tied : Bool) → IsBest seen (Some b) tied → r.priority < b.priority →
    IsBest (seen ++ r ∷ []) (Some b) tied
best_lower seen b r tied is lt = (
  in_left seen (r ∷ []) b is.0,
  each_seen (λ x. x.priority ≤ b.priority) seen r is.1 (omega (arith, lt)),
  lower [] seen r b is.0 lt ∙ is.2,
)

-- a row as high as the highest
pub best_equal : (seen : List Row) (b r : Row) (tied : Bool) → IsBest seen (Some b) tied → r.priority ≡ b.priority →
    IsBest (seen ++ r ∷ []) (Some b) true
best_equal seen b r tied is same = (
  in_left seen (r ∷ []) b is.0,
  each_seen (λ x. x.priority ≤ b.priority) seen r is.1 (omega (arith, same)),
  equal [] seen r b is.0 (sym same) (λ x i. let le = is.1 x i in omega (arith, le, same)),
)

-- one more row that matches
pub one_more : (test : Row → Bool) (rows : List Row) (i : ℕ) (r : Row) → i < length rows → r ≡ get_or rows i r → test r ≡ true →
    filter test (take (i + 1) rows) ≡ filter test (take i rows) ++ r ∷ []
one_more test rows i r lt at e =
    filter_more test rows i r lt
    ∙ ap (λ x. filter test (take i rows) ++ cond (test x) (x ∷ []) []) (sym at)
    ∙ ap (λ b. filter test (take i rows) ++ cond b (r ∷ []) []) e

-- one that doesn't
pub no_more : (test : Row → Bool) (rows : List Row) (i : ℕ) (r : Row) → i < length rows → r ≡ get_or rows i r → test r ≡ false →
    filter test (take (i + 1) rows) ≡ filter test (take i rows)
no_more test rows i r lt at e =
    filter_more test rows i r lt
    ∙ ap (λ x. filter test (take i rows) ++ cond (test x) (x ∷ []) []) (sym at)
    ∙ ap (λ b. filter test (take i rows) ++ cond b (r ∷ []) []) e
    ∙ append-nil (filter test (take i rows))

-- what is known of the rows seen, by other names
pub known_as : (xs ys : List Row) (best best' : Option Row) (tied tied' : Bool) → xs ≡ ys → best ≡ best' → tied ≡ tied' →
    IsBest ys best' tied' → IsBest xs best tied
known_as xs ys best best' tied tied' e f g is =
    subst (λ l. IsBest l best tied) (sym e) (subst (λ o. IsBest ys o tied) (sym f) (subst (IsBest ys best') (sym g) is))
