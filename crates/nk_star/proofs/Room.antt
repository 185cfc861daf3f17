-- How many outs a leaf can have.
use Rattle.std.proofs.Common.{◌≡◌, ℕ, zero, suc, ◌+◌, ◌≤◌, List, [], ◌∷◌, ◌++◌, length, refl, sym, ◌∙◌, ap, subst, arith, get_or, inl, inr}
use Rattle.std.proofs.lemmas.Bool.Decides.{eqb_tells}
use Rattle.nk_store.specs.declared.node.Out.{Out}
use Rattle.nk_store.specs.Leaves.{out_cmp, Every, Strict, Suits, IsActFrom}
use Rattle.std.specs.declared.cmp.Ordering.TheVariants.{Less}
use Rattle.nk_apply.proofs.Members.{Has, every_has, not_before_itself}

-- the list without that member
abbrev without : {X : Type 0} (ys : List X) (x : X) → Has ys x → List X
without [] x h = absurd h
without (y ∷ ys) x (inl e) = ys
without (y ∷ ys) x (inr h) = y ∷ without ys x h

-- the list without a member is shorter by one
without_length : {X : Type 0} (ys : List X) (x : X) (h : Has ys x) → length ys ≡ suc (length (without ys x h))
without_length [] x h = absurd h
without_length (y ∷ ys) x (inl e) = refl
without_length (y ∷ ys) x (inr h) = ap (λ n. suc n) (without_length ys x h)

-- other members stay
without_has : {X : Type 0} (ys : List X) (x : X) (h : Has ys x) (o : X) → (x ≡ o → ⊥) → Has ys o → Has (without ys x h) o
without_has [] x h o n k = absurd h
without_has (y ∷ ys) x (inl e) o n (inl f) = absurd (n (sym e ∙ f))
without_has (y ∷ ys) x (inl e) o n (inr k) = k
without_has (y ∷ ys) x (inr h) o n (inl f) = inl f
without_has (y ∷ ys) x (inr h) o n (inr k) = inr (without_has ys x h o n k)

-- a strictly ascending list is no longer than a list that has its members
pub strict_fits : (xs ys : List Out) → Strict xs → ((o : Out) → Has xs o → Has ys o) → length xs ≤ length ys
strict_fits [] ys s f = omega arith
strict_fits (x ∷ xs) ys s f =
    let h : Has ys x = f x (inl refl) in
    let rest = strict_fits xs (without ys x h) s.1 (λ o k. without_has ys x h o (λ e. not_before_itself x (subst (λ z. out_cmp x z ≡ Less) (sym e) (every_has (λ z. out_cmp x z ≡ Less) xs o s.0 k))) (f o (inr k))) in
    omega (arith, rest, without_length ys x h)

-- the outs with one assignment more at the front
abbrev put_first : ℕ → ℕ → List Out → List Out
put_first f v [] = []
put_first f v (o ∷ os) = record { act = (f, v) ∷ o.act; target = o.target } ∷ put_first f v os

-- the outs with one assignment more at the front, for each value up to v
abbrev put_values : ℕ → ℕ → List Out → List Out
put_values f zero os = put_first f zero os
put_values f (suc v) os = put_first f (suc v) os ++ put_values f v os

-- each act in range of k fields from low on, to no further state
pub acts_from : List ℕ → ℕ → ℕ → List Out
acts_from maxes zero low = record { act = []; target = 0 } ∷ []
acts_from maxes (suc k) low = acts_from maxes k (low + 1) ++ put_values low (get_or maxes low 0) (acts_from maxes k (low + 1))

-- how many acts in range there are
unfoldable pub room : List ℕ → ℕ
room maxes = length (acts_from maxes 18 0)

-- a member of the first list is one of both
has_left : {X : Type 0} (xs ys : List X) (o : X) → Has xs o → Has (xs ++ ys) o
has_left [] ys o h = absurd h
has_left (x ∷ xs) ys o (inl e) = inl e
has_left (x ∷ xs) ys o (inr h) = inr (has_left xs ys o h)

-- a member of the second list is one of both
has_right : {X : Type 0} (xs ys : List X) (o : X) → Has ys o → Has (xs ++ ys) o
has_right [] ys o h = h
has_right (x ∷ xs) ys o h = inr (has_right xs ys o h)

-- an act with one assignment more at the front
has_put : (f v : ℕ) (os : List Out) (g : List (ℕ × ℕ)) → Has os (record { act = g; target = 0 }) → Has (put_first f v os) (record { act = (f, v) ∷ g; target = 0 })
has_put f v [] g h = absurd h
has_put f v (o ∷ os) g (inl e) = inl (ap (λ (x : Out). record { act = (f, v) ∷ x.act; target = x.target }) e)
has_put f v (o ∷ os) g (inr h) = inr (has_put f v os g h)

-- an act with one assignment more at the front, for each value up to the highest
has_value : (f v w : ℕ) (os : List Out) (g : List (ℕ × ℕ)) → v ≤ w → Has os (record { act = g; target = 0 }) → Has (put_values f w os) (record { act = (f, v) ∷ g; target = 0 })
has_value f v zero os g l h = let e : v ≡ 0 = omega arith in subst (λ u. Has (put_first f zero os) (record { act = (f, u) ∷ g; target = 0 })) (sym e) (has_put f zero os g h)
has_value f v (suc w) os g l h = elim (eqb_tells v (suc w)) [
  | inl same ↦ has_left (put_first f (suc w) os) (put_values f w os) (record { act = (f, v) ∷ g; target = 0 })
      (subst (λ u. Has (put_first f (suc w) os) (record { act = (f, u) ∷ g; target = 0 })) (sym same.1) (has_put f (suc w) os g h))
  | inr other ↦ has_right (put_first f (suc w) os) (put_values f w os) (record { act = (f, v) ∷ g; target = 0 }) (has_value f v w os g (omega (arith, other.1)) h)
]

-- each act in range is among them
acts_have : (maxes : List ℕ) (k low : ℕ) (g : List (ℕ × ℕ)) → low + k ≡ 18 → IsActFrom maxes low g → Has (acts_from maxes k low) (record { act = g; target = 0 })
unfolding acts_from
acts_have maxes zero low [] e a = inl refl
acts_have maxes zero low (s ∷ ss) e a = absurd (omega (arith, a.0, a.1))
acts_have maxes (suc k) low [] e a = has_left (acts_from maxes k (low + 1)) _ _ (acts_have maxes k (low + 1) [] (omega arith) tt)
acts_have maxes (suc k) low (s ∷ ss) e a = elim (eqb_tells low s.0) [
  | inl same ↦ has_right (acts_from maxes k (low + 1)) _ (record { act = s ∷ ss; target = 0 })
      (subst (λ f. Has (put_values f (get_or maxes f 0) (acts_from maxes k (f + 1))) (record { act = s ∷ ss; target = 0 })) (sym same.1)
      (has_value s.0 s.1 (get_or maxes s.0 0) (acts_from maxes k (s.0 + 1)) ss a.2 (acts_have maxes k (s.0 + 1) ss (omega (arith, same.1)) a.3)))
  | inr other ↦ has_left (acts_from maxes k (low + 1)) _ (record { act = s ∷ ss; target = 0 }) (acts_have maxes k (low + 1) (s ∷ ss) (omega arith) (omega (arith, a.0, other.1), a.1, a.2, a.3))
]

-- a leaf with no further state has no more outs than there are acts in range
pub leaf_room : (maxes : List ℕ) (outs : List Out) → Strict outs → Every (Suits maxes) outs → Every (λ o. o.target ≡ 0) outs → length outs ≤ room maxes
unfolding room
leaf_room maxes outs s e z = strict_fits outs (acts_from maxes 18 0) s (λ o h.
    let is : record { act = o.act; target = 0 } ≡ o = ap (λ t. record { act = o.act; target = t }) (sym (every_has (λ (x : Out). x.target ≡ 0) outs o z h)) in
    subst (Has (acts_from maxes 18 0)) is (acts_have maxes 18 0 o.act refl (every_has (Suits maxes) outs o e h)))
