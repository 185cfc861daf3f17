-- The fields that acts assign, collected, and acts that assign nothing to a field.
use Rattle.std.proofs.Common.{◌≡◌, ℕ, ◌+◌, ◌<◌, min, true, false, cond, eqb, ltb, ◌&&◌, ◌||◌, List, [], ◌∷◌, length, take, refl, sym, ◌∙◌, ap, subst, arith, get_or, inl, inr}
use Rattle.std.specs.List.{Contains, list_any}
use Rattle.std.proofs.lemmas.List.{map_more}
use Rattle.std.proofs.lemmas.Bool.Decides.{eqb_tells}
use Rattle.nk_store.specs.declared.node.Out.{Out}
use Rattle.nk_apply.proofs.Members.{Has, has_contains, contains_has, every_from}
use Rattle.nk_determ.specs.Unchanged.{act_fields, leaf_fields, AreAmong, exact_below, out_below, split_below}
use Rattle.nk_determ.proofs.Collected.{among_on, among_both}
use Rattle.nk_determ.proofs.Below.{ltb_tells, gathered_alike}
use Rattle.nk_determ.proofs.Withouts.{front, back}

-- a number that a search finds is one of the list
pub found_contains : (xs : List ℕ) (n : ℕ) → list_any (λ m. eqb m n) xs ≡ true → Contains xs n
found_contains xs n e = has_contains xs n (by xs e)
  where
    by : (ys : List ℕ) → list_any (λ m. eqb m n) ys ≡ true → Has ys n
    by [] e = absurd cc
    by (y ∷ ys) e =
        elim (eqb_tells y n) [
          | inl same ↦ inl same.1
          | inr other ↦ inr (by ys (sym (ap (λ b. b || list_any (λ m. eqb m n) ys) other.0) ∙ e))
        ]

-- and one of the list is found
has_found : (xs : List ℕ) (n : ℕ) → Has xs n → list_any (λ m. eqb m n) xs ≡ true
has_found [] n h = absurd h
has_found (x ∷ xs) n (inl e) =
    elim (eqb_tells x n) [
      | inl same ↦ ap (λ b. b || list_any (λ m. eqb m n) xs) same.0
      | inr other ↦ absurd (other.1 e)
    ]
has_found (x ∷ xs) n (inr h) =
    elim (eqb_tells x n) [
      | inl same ↦ ap (λ b. b || list_any (λ m. eqb m n) xs) same.0
      | inr other ↦ ap (λ b. b || list_any (λ m. eqb m n) xs) other.0 ∙ has_found xs n h
    ]

-- a number that a search doesn't find is none of the list
pub missed_not : (xs : List ℕ) (n : ℕ) → list_any (λ m. eqb m n) xs ≡ false → Contains xs n → ⊥
missed_not xs n e c = let found : list_any (λ m. eqb m n) xs ≡ true = has_found xs n (contains_has xs n c) in absurd cc

-- one item
among_one : (n : ℕ) (ys : List ℕ) → Contains ys n → AreAmong (n ∷ []) ys
among_one n ys c v k = by (contains_has (n ∷ []) v k)
  where
    by : Has (n ∷ []) v → Contains ys v
    by (inl e) = subst (Contains ys) e c
    by (inr h) = absurd h

-- one assignment more
pub field_more : (sets : List (ℕ × ℕ)) (i : ℕ) (s : ℕ × ℕ) (old new : List ℕ) → i < length sets → s ≡ get_or sets i s →
    AreAmong (act_fields (take i sets)) old → AreAmong old new → Contains new s.0 → AreAmong (act_fields (take (i + 1) sets)) new
field_more sets i s old new l is before more here =
    subst (λ ys. AreAmong ys new) (sym (map_more (λ (z : ℕ × ℕ). z.0) sets i s l))
    (among_both (act_fields (take i sets)) ((get_or sets i s).0 ∷ []) new (among_on (act_fields (take i sets)) old new before more)
    (subst (λ (z : ℕ × ℕ). AreAmong (z.0 ∷ []) new) is (among_one s.0 new here)))

-- a field of an out's act is one of the leaf's
leaf_field : (f : ℕ) (os : List Out) (o : Out) → Has os o → Has (act_fields o.act) f → Has (leaf_fields os) f
leaf_field f [] o h k = absurd h
leaf_field f (x ∷ os) o (inl e) k = front (act_fields x.act) (leaf_fields os) f (subst (λ z. Has (act_fields z.act) f) (sym e) k)
leaf_field f (x ∷ os) o (inr h) k = back (act_fields x.act) (leaf_fields os) f (leaf_field f os o h k)

-- a number other than k is below k + 1 where it is below k
ltb_other : (n k : ℕ) → (n ≡ k → ⊥) → ltb n k ≡ ltb n (k + 1)
ltb_other n k other =
    elim (ltb_tells n k) [
      | inl a ↦ elim (ltb_tells n (k + 1)) [ inl b ↦ a.0 ∙ sym b.0 | inr b ↦ absurd (omega (arith, a.1, b.1)) ]
      | inr a ↦ elim (ltb_tells n (k + 1)) [ inl b ↦ absurd (other (omega (arith, a.1, b.1))) | inr b ↦ a.0 ∙ sym b.0 ]
    ]

-- an act that assigns nothing to the field is exact after it where it is so before it
act_skips : (maxes pk : List ℕ) (k : ℕ) (g : List (ℕ × ℕ)) → (Has (act_fields g) k → ⊥) → exact_below k maxes pk g ≡ exact_below (k + 1) maxes pk g
act_skips maxes pk k [] none = refl
act_skips maxes pk k (s ∷ ss) none =
    ap (λ b. cond (b && eqb (min (get_or pk s.0 0) (get_or maxes s.0 0)) s.1) (exact_below k maxes pk ss) (s ∷ exact_below k maxes pk ss)) (ltb_other s.0 k (λ e. none (inl e)))
    ∙ ap (λ xs. cond (ltb s.0 (k + 1) && eqb (min (get_or pk s.0 0) (get_or maxes s.0 0)) s.1) xs (s ∷ xs)) (act_skips maxes pk k ss (λ h. none (inr h)))

-- and so are the outs of a leaf
pub split_skips : (maxes pk : List ℕ) (k : ℕ) (os : List Out) → (Contains (leaf_fields os) k → ⊥) →
    split_below k maxes pk os ≡ split_below (k + 1) maxes pk os
split_skips maxes pk k os none =
    gathered_alike (λ o. Has os o) (out_below k maxes pk) (out_below (k + 1) maxes pk) os
    (λ o h. ap (λ g. record { act = g; target = o.target }) (act_skips maxes pk k o.act (λ a. none (has_contains (leaf_fields os) k (leaf_field k os o h a)))))
    (every_from (λ o. Has os o) os (λ o h. h))
