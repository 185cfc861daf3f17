-- Leaves without an assignment that they don't have stay, and acts without one suit.
use Rattle.std.proofs.Common.{◌≡◌, ℕ, ◌+◌, Bool, true, false, cond, eqb, ◌&&◌, ◌||◌, List, [], ◌∷◌, ◌++◌, refl, sym, ◌∙◌, ap, subst, arith, map, inl, inr}
use Rattle.std.specs.List.{Contains}
use Rattle.std.proofs.lemmas.Bool.Decides.{eqb_tells}
use Rattle.nk_field.specs.Act.{left_without}
use Rattle.nk_store.specs.declared.node.Out.{Out}
use Rattle.nk_store.specs.Leaves.{Every, Strict, Suits, IsActFrom, AreOrdered}
use Rattle.nk_apply.proofs.Members.{Has, has_contains, every_from, gathered_every}
use Rattle.nk_determ.specs.Unchanged.{assigns, act_without, out_without, leaf_without, act_values, leaf_values}
use Rattle.nk_determ.proofs.Exacts.{weaker_from}
use Rattle.nk_determ.proofs.Below.{gathered_alike, gathered_same}
use Rattle.nk_apply.proofs.Gathers.{map_ordered, every_unordered}

-- a member of a list stays one before other items
pub front : {X : Type 0} (xs ys : List X) (o : X) → Has xs o → Has (xs ++ ys) o
front [] ys o h = absurd h
front (x ∷ xs) ys o (inl e) = inl e
front (x ∷ xs) ys o (inr h) = inr (front xs ys o h)

-- and after them
pub back : {X : Type 0} (xs ys : List X) (o : X) → Has ys o → Has (xs ++ ys) o
back [] ys o h = h
back (x ∷ xs) ys o h = inr (back xs ys o h)

-- a value that is assigned is one of the act's
assigned_has : (f n : ℕ) (g : List (ℕ × ℕ)) → assigns f n g ≡ true → Has (act_values f g) n
assigned_has f n [] e = absurd cc
assigned_has f n (s ∷ ss) e =
    elim (eqb_tells s.0 f) [
      | inr other ↦ subst (λ b. Has (cond b (s.1 ∷ []) [] ++ act_values f ss) n) (sym other.0)
          (assigned_has f n ss (sym (ap (λ b. (b && eqb s.1 n) || assigns f n ss) other.0) ∙ e))
      | inl same ↦ subst (λ b. Has (cond b (s.1 ∷ []) [] ++ act_values f ss) n) (sym same.0)
          (elim (eqb_tells s.1 n) [
            | inl is ↦ inl is.1
            | inr apart ↦ inr (assigned_has f n ss (sym (ap (λ b. (b && eqb s.1 n) || assigns f n ss) same.0 ∙ ap (λ b. b || assigns f n ss) apart.0) ∙ e))
          ])
    ]

-- a value of an out's act is one of the leaf's
leaf_value : (f n : ℕ) (os : List Out) (o : Out) → Has os o → Has (act_values f o.act) n → Has (leaf_values f os) n
leaf_value f n [] o h k = absurd h
leaf_value f n (x ∷ os) o (inl e) k = front (act_values f x.act) (leaf_values f os) n (subst (λ z. Has (act_values f z.act) n) (sym e) k)
leaf_value f n (x ∷ os) o (inr h) k = back (act_values f x.act) (leaf_values f os) n (leaf_value f n os o h k)

-- an act that doesn't assign the value stays
act_stays : (f n : ℕ) (g : List (ℕ × ℕ)) → (Has (act_values f g) n → ⊥) → act_without f n g ≡ g
act_stays f n g absent = by (assigns f n g) refl
  where
    by : (b : Bool) → assigns f n g ≡ b → cond b (left_without f g) g ≡ g
    by true e = absurd (absent (assigned_has f n g e))
    by false e = refl

-- a leaf whose acts don't assign the value stays
pub leaf_stays : (f n : ℕ) (os : List Out) → Strict os → (Contains (leaf_values f os) n → ⊥) → leaf_without f n os ≡ os
leaf_stays f n os s absent =
    gathered_alike (λ o. Has os o) (out_without f n) (λ o. o) os
    (λ o h. ap (λ g. record { act = g; target = o.target }) (act_stays f n o.act (λ k. absent (has_contains (leaf_values f os) n (leaf_value f n os o h k)))))
    (every_from (λ o. Has os o) os (λ o h. h))
    ∙ gathered_same os s

-- an act without one field ascends
left_ascends : (maxes : List ℕ) (low f : ℕ) (g : List (ℕ × ℕ)) → IsActFrom maxes low g → IsActFrom maxes low (left_without f g)
left_ascends maxes low f [] a = tt
left_ascends maxes low f (s ∷ ss) a = by (left_ascends maxes (s.0 + 1) f ss a.3) (eqb s.0 f)
  where
    by : IsActFrom maxes (s.0 + 1) (left_without f ss) → (b : Bool) → IsActFrom maxes low (cond b (left_without f ss) (s ∷ left_without f ss))
    by rest true = weaker_from maxes low (s.0 + 1) (left_without f ss) (omega (arith, a.0)) rest
    by rest false = (a.0, a.1, a.2, rest)

-- an out without an assignment suits
without_suits : (maxes : List ℕ) (f n : ℕ) (o : Out) → Suits maxes o → Suits maxes (out_without f n o)
without_suits maxes f n o a = by (assigns f n o.act)
  where
    by : (b : Bool) → IsActFrom maxes 0 (cond b (left_without f o.act) o.act)
    by true = left_ascends maxes 0 f o.act a
    by false = a

-- and so do the outs of a leaf
leaf_suits : (maxes : List ℕ) (f n : ℕ) (os : List Out) → Every (Suits maxes) os → Every (Suits maxes) (leaf_without f n os)
leaf_suits maxes f n os e = gathered_every (Suits maxes) (Suits maxes) (λ o. out_without f n o ∷ []) os (λ o a. (without_suits maxes f n o a, tt)) e

-- the outs without an assignment, one after the other, come in order to the leaf without it
pub without_ordered : (f n : ℕ) (os all : List Out) → all ≡ map (out_without f n) os → AreOrdered all (leaf_without f n os)
without_ordered f n os all e = subst (λ xs. AreOrdered xs (leaf_without f n os)) (sym e) (map_ordered (out_without f n) os)

-- and suit
pub without_suit : (maxes : List ℕ) (f n : ℕ) (os all : List Out) → all ≡ map (out_without f n) os → Every (Suits maxes) os → Every (Suits maxes) all
without_suit maxes f n os all e x = every_unordered (Suits maxes) all (leaf_without f n os) (without_ordered f n os all e) (leaf_suits maxes f n os x)
