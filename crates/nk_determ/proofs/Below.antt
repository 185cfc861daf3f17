-- Acts made exact field by field.
use Rattle.std.proofs.Common.{◌≡◌, ℕ, ◌+◌, ◌<◌, ◌≤◌, min, Bool, true, false, cond, eqb, ltb, ◌&&◌, ◌||◌, List, [], ◌∷◌, refl, sym, ◌∙◌, ap, subst, arith, get_or, ◌⊎◌, inl, inr}
use Rattle.std.proofs.lemmas.Bool.Decides.{eqb_tells, nat_tests}
use Rattle.nk_field.specs.Act.{left_without}
use Rattle.nk_store.specs.declared.node.Out.{Out}
use Rattle.nk_store.specs.Leaves.{Every, Strict, Suits, IsActFrom}
use Rattle.nk_apply.specs.Leaves.{merged, gathered}
use Rattle.nk_apply.proofs.Members.{Has, strict_same, gathered_strict, gathered_has, has_gathered}
use Rattle.nk_determ.specs.Exact.{exact, exact_out, split_leaf}
use Rattle.nk_determ.specs.Unchanged.{assigns, act_without, out_without, leaf_without, exact_below, out_below, split_below}

-- what a test of two values says
pub ltb_tells : (m n : ℕ) → ((ltb m n ≡ true) × (m < n)) ⊎ ((ltb m n ≡ false) × (n ≤ m))
ltb_tells m n = by (ltb m n) refl
  where
    by : (b : Bool) → ltb m n ≡ b → ((ltb m n ≡ true) × (m < n)) ⊎ ((ltb m n ≡ false) × (n ≤ m))
    by true e = inl (e, grind (arith, nat_tests, e))
    by false e = inr (e, grind (arith, nat_tests, e))

-- an act of later fields has no assignment to the field
none_left : (maxes : List ℕ) (low f : ℕ) (g : List (ℕ × ℕ)) → IsActFrom maxes low g → f < low → left_without f g ≡ g
none_left maxes low f [] a l = refl
none_left maxes low f (s ∷ ss) a l =
    elim (eqb_tells s.0 f) [
      | inl same ↦ absurd (omega (arith, same.1, a.0, l))
      | inr other ↦
          ap (λ b. cond b (left_without f ss) (s ∷ left_without f ss)) other.0
          ∙ ap (λ xs. s ∷ xs) (none_left maxes (s.0 + 1) f ss a.3 (omega (arith, a.0, l)))
    ]

-- and so it doesn't assign it a value
none_assigned : (maxes : List ℕ) (low f n : ℕ) (g : List (ℕ × ℕ)) → IsActFrom maxes low g → f < low → assigns f n g ≡ false
none_assigned maxes low f n [] a l = refl
none_assigned maxes low f n (s ∷ ss) a l =
    elim (eqb_tells s.0 f) [
      | inl same ↦ absurd (omega (arith, same.1, a.0, l))
      | inr other ↦
          ap (λ b. (b && eqb s.1 n) || assigns f n ss) other.0
          ∙ none_assigned maxes (s.0 + 1) f n ss a.3 (omega (arith, a.0, l))
    ]

-- an assignment to another field stays
other_stays : (f n : ℕ) (s : ℕ × ℕ) (ss : List (ℕ × ℕ)) → (s.0 ≡ f → ⊥) → act_without f n (s ∷ ss) ≡ s ∷ act_without f n ss
other_stays f n s ss other =
    elim (eqb_tells s.0 f) [
      | inl same ↦ absurd (other same.1)
      | inr apart ↦
          ap (λ b. cond ((b && eqb s.1 n) || assigns f n ss) (cond b (left_without f ss) (s ∷ left_without f ss)) (s ∷ ss)) apart.0
          ∙ by (assigns f n ss)
    ]
  where
    by : (b : Bool) → cond b (s ∷ left_without f ss) (s ∷ ss) ≡ s ∷ cond b (left_without f ss) ss
    by true = refl
    by false = refl

-- an act of later fields stays
later_stays : (maxes : List ℕ) (low f n : ℕ) (g : List (ℕ × ℕ)) → IsActFrom maxes low g → f < low → act_without f n g ≡ g
later_stays maxes low f n g a l = ap (λ b. cond b (left_without f g) g) (none_assigned maxes low f n g a l)

-- the assignment to the field goes exactly where it is of that value
first_goes : (maxes : List ℕ) (f n : ℕ) (s : ℕ × ℕ) (ss : List (ℕ × ℕ)) → IsActFrom maxes (s.0 + 1) ss → s.0 ≡ f →
    act_without f n (s ∷ ss) ≡ cond (eqb s.1 n) ss (s ∷ ss)
first_goes maxes f n s ss a is =
    elim (eqb_tells s.0 f) [
      | inr apart ↦ absurd (apart.1 is)
      | inl same ↦
          ap (λ b. cond ((b && eqb s.1 n) || assigns f n ss) (cond b (left_without f ss) (s ∷ left_without f ss)) (s ∷ ss)) same.0
          ∙ ap (λ b. cond (eqb s.1 n || b) (left_without f ss) (s ∷ ss)) (none_assigned maxes (s.0 + 1) f n ss a (omega (arith, is)))
          ∙ ap (λ xs. cond (eqb s.1 n || false) xs (s ∷ ss)) (none_left maxes (s.0 + 1) f ss a (omega (arith, is)))
          ∙ by (eqb s.1 n)
    ]
  where
    by : (b : Bool) → cond (b || false) ss (s ∷ ss) ≡ cond b ss (s ∷ ss)
    by true = refl
    by false = refl

-- an act of the fields from k on stays whole
all_stay : (maxes pk : List ℕ) (k low : ℕ) (g : List (ℕ × ℕ)) → IsActFrom maxes low g → k ≤ low → exact_below k maxes pk g ≡ g
all_stay maxes pk k low [] a l = refl
all_stay maxes pk k low (s ∷ ss) a l =
    elim (ltb_tells s.0 k) [
      | inl less ↦ absurd (omega (arith, less.1, a.0, l))
      | inr not_less ↦
          ap (λ b. cond (b && eqb (min (get_or pk s.0 0) (get_or maxes s.0 0)) s.1) (exact_below k maxes pk ss) (s ∷ exact_below k maxes pk ss)) not_less.0
          ∙ ap (λ xs. s ∷ xs) (all_stay maxes pk k (s.0 + 1) ss a.3 (omega (arith, a.0, l)))
    ]

-- of a field before k the assignment stays where it changes the packet
below_at : (maxes pk : List ℕ) (k : ℕ) (s : ℕ × ℕ) (ss : List (ℕ × ℕ)) → s.0 < k →
    exact_below k maxes pk (s ∷ ss) ≡ cond (eqb (min (get_or pk s.0 0) (get_or maxes s.0 0)) s.1) (exact_below k maxes pk ss) (s ∷ exact_below k maxes pk ss)
below_at maxes pk k s ss l =
    elim (ltb_tells s.0 k) [
      | inl less ↦ ap (λ b. cond (b && eqb (min (get_or pk s.0 0) (get_or maxes s.0 0)) s.1) (exact_below k maxes pk ss) (s ∷ exact_below k maxes pk ss)) less.0
      | inr not_less ↦ absurd (omega (arith, not_less.1, l))
    ]

-- a test of two values says the same of them turned
eqb_turned : (m n : ℕ) → eqb m n ≡ eqb n m
eqb_turned m n =
    elim (eqb_tells m n) [
      | inl a ↦ elim (eqb_tells n m) [ inl b ↦ a.0 ∙ sym b.0 | inr b ↦ absurd (b.1 (sym a.1)) ]
      | inr a ↦ elim (eqb_tells n m) [ inl b ↦ absurd (a.1 (sym b.1)) | inr b ↦ a.0 ∙ sym b.0 ]
    ]

-- one field more
pub act_step : (maxes pk : List ℕ) (k low : ℕ) (g : List (ℕ × ℕ)) → IsActFrom maxes low g →
    act_without k (min (get_or pk k 0) (get_or maxes k 0)) (exact_below k maxes pk g) ≡ exact_below (k + 1) maxes pk g
act_step maxes pk k low [] a = refl
act_step maxes pk k low (s ∷ ss) a =
    let v = min (get_or pk k 0) (get_or maxes k 0) in
    elim (ltb_tells s.0 k) [
      | inl less ↦
          ap (λ xs. act_without k v xs) (below_at maxes pk k s ss less.1)
          ∙ by less.1 (act_step maxes pk k (s.0 + 1) ss a.3) (eqb (min (get_or pk s.0 0) (get_or maxes s.0 0)) s.1)
          ∙ sym (below_at maxes pk (k + 1) s ss (omega (arith, less.1)))
      | inr not_less ↦
          ap (λ xs. act_without k v xs) (all_stay maxes pk k s.0 (s ∷ ss) (omega arith, a.1, a.2, a.3) (omega (arith, not_less.1)))
          ∙ elim (eqb_tells s.0 k) [
            | inl same ↦
                first_goes maxes k v s ss a.3 same.1
                ∙ ap (λ b. cond b ss (s ∷ ss)) (eqb_turned s.1 v ∙ ap (λ f. eqb (min (get_or pk f 0) (get_or maxes f 0)) s.1) (sym same.1))
                ∙ ap (λ xs. cond (eqb (min (get_or pk s.0 0) (get_or maxes s.0 0)) s.1) xs (s ∷ xs)) (sym (all_stay maxes pk (k + 1) (s.0 + 1) ss a.3 (omega (arith, same.1))))
                ∙ sym (below_at maxes pk (k + 1) s ss (omega (arith, same.1)))
            | inr other ↦
                later_stays maxes s.0 k v (s ∷ ss) (omega arith, a.1, a.2, a.3) (omega (arith, not_less.1, other.1))
                ∙ sym (all_stay maxes pk (k + 1) s.0 (s ∷ ss) (omega arith, a.1, a.2, a.3) (omega (arith, not_less.1, other.1)))
          ]
    ]
  where
    by : s.0 < k → act_without k (min (get_or pk k 0) (get_or maxes k 0)) (exact_below k maxes pk ss) ≡ exact_below (k + 1) maxes pk ss → (b : Bool) →
        act_without k (min (get_or pk k 0) (get_or maxes k 0)) (cond b (exact_below k maxes pk ss) (s ∷ exact_below k maxes pk ss))
        ≡ cond b (exact_below (k + 1) maxes pk ss) (s ∷ exact_below (k + 1) maxes pk ss)
    by less rest true = rest
    by less rest false =
        other_stays k (min (get_or pk k 0) (get_or maxes k 0)) s (exact_below k maxes pk ss) (λ e. absurd (omega (arith, e, less)))
        ∙ ap (λ xs. s ∷ xs) rest

-- over all fields the act is exact
pub act_all : (maxes pk : List ℕ) (low : ℕ) (g : List (ℕ × ℕ)) → IsActFrom maxes low g → exact_below 18 maxes pk g ≡ exact maxes pk g
act_all maxes pk low [] a = refl
act_all maxes pk low (s ∷ ss) a =
    below_at maxes pk 18 s ss a.1
    ∙ ap (λ xs. cond (eqb (min (get_or pk s.0 0) (get_or maxes s.0 0)) s.1) xs (s ∷ xs)) (act_all maxes pk (s.0 + 1) ss a.3)

-- what is gathered of each out alike is the same
pub gathered_alike : (P : Out → Type 0) (F G : Out → Out) (os : List Out) → ((o : Out) → P o → F o ≡ G o) → Every P os →
    gathered (λ o. F o ∷ []) os ≡ gathered (λ o. G o ∷ []) os
gathered_alike P F G [] same e = refl
gathered_alike P F G (o ∷ os) same e =
    ap (λ x. merged (x ∷ []) (gathered (λ o. F o ∷ []) os)) (same o e.0)
    ∙ ap (λ xs. merged (G o ∷ []) xs) (gathered_alike P F G os same e.1)

-- one out alone
only : {a o : Out} → Has (a ∷ []) o → a ≡ o
only (inl e) = e
only (inr k) = absurd k

-- what is gathered of gathered outs
pub gathered_twice : (F G : Out → Out) (os : List Out) →
    gathered (λ o. F o ∷ []) (gathered (λ o. G o ∷ []) os) ≡ gathered (λ o. F (G o) ∷ []) os
gathered_twice F G os =
    let one : Out → List Out = λ o. F o ∷ [] in
    let inner : Out → List Out = λ o. G o ∷ [] in
    let both : Out → List Out = λ o. F (G o) ∷ [] in
    strict_same (gathered one (gathered inner os)) (gathered both os) (gathered_strict one (gathered inner os) (λ o. (tt, tt))) (gathered_strict both os (λ o. (tt, tt)))
    (λ o h.
    let r = has_gathered one (gathered inner os) o h in
    let q = has_gathered inner os r.0 r.1 in
    gathered_has both os q.0 o q.1 (inl (ap F (only q.2) ∙ only r.2)))
    (λ o h.
    let r = has_gathered both os o h in
    gathered_has one (gathered inner os) (G r.0) o (gathered_has inner os r.0 (G r.0) r.1 (inl refl)) (inl (only r.2)))

-- outs that ascend are gathered as they are
pub gathered_same : (os : List Out) → Strict os → gathered (λ o. o ∷ []) os ≡ os
gathered_same os s =
    let one : Out → List Out = λ o. o ∷ [] in
    strict_same (gathered one os) os (gathered_strict one os (λ o. (tt, tt))) s
    (λ o h. let r = has_gathered one os o h in subst (Has os) (only r.2) r.1)
    (λ o h. gathered_has one os o o h (inl refl))

-- the outs with their acts before the first field
pub split_none : (maxes pk : List ℕ) (os : List Out) → Strict os → Every (Suits maxes) os → split_below 0 maxes pk os ≡ os
split_none maxes pk os s e =
    gathered_alike (Suits maxes) (out_below 0 maxes pk) (λ o. o) os
    (λ o a. ap (λ g. record { act = g; target = o.target }) (all_stay maxes pk 0 0 o.act a (omega arith))) e
    ∙ gathered_same os s

-- one field more
pub split_step : (maxes pk : List ℕ) (k : ℕ) (os : List Out) → Every (Suits maxes) os →
    leaf_without k (min (get_or pk k 0) (get_or maxes k 0)) (split_below k maxes pk os) ≡ split_below (k + 1) maxes pk os
split_step maxes pk k os e =
    let v = min (get_or pk k 0) (get_or maxes k 0) in
    gathered_twice (out_without k v) (out_below k maxes pk) os
    ∙ gathered_alike (Suits maxes) (λ o. out_without k v (out_below k maxes pk o)) (out_below (k + 1) maxes pk) os
    (λ o a. ap (λ g. record { act = g; target = o.target }) (act_step maxes pk k 0 o.act a)) e

-- over all fields
pub split_all : (maxes pk : List ℕ) (os : List Out) → Every (Suits maxes) os → split_below 18 maxes pk os ≡ split_leaf maxes pk os
split_all maxes pk os e =
    gathered_alike (Suits maxes) (out_below 18 maxes pk) (exact_out maxes pk) os
    (λ o a. ap (λ g. record { act = g; target = o.target }) (act_all maxes pk 0 o.act a)) e
