-- Membership by recursion on the list, and what holds of each element, or of each two in turn.
use Rattle.std.proofs.Common.{◌≡◌, ℕ, zero, suc, ◌+◌, ◌<◌, ◌⊎◌, inl, inr, ⊎_elim, Bool, true, false, cond, List, [], ◌∷◌, length, refl, sym, ap, subst, ◌∙◌, arith}
use Rattle.std.specs.Prelude.{slice_index_or, Contains, All, AllPairs}
use Rattle.std.specs.List.{prefix_len, insert}
use Rattle.std.proofs.lemmas.List.Kept.{AllPairs-cons}
use Rattle.nk_topo.specs.Topology.{placed}

-- the element stands in the list
abbrev pub In : {X : Type 0} → List X → X → Type 0
In [] x = ⊥
In (y ∷ ys) x = (x ≡ y) ⊎ In ys x

-- an element at a place stands in the list
in_from_place : {X : Type 0} (xs : List X) (x : X) (k : ℕ) → k < length xs → slice_index_or xs k x ≡ x → In xs x
in_from_place [] x k lt e = absurd (omega (arith, lt))
in_from_place (y ∷ ys) x zero lt e = inl (sym e)
in_from_place (y ∷ ys) x (suc k) lt e =
    let less : k < length ys = omega (arith, lt) in
    inr (in_from_place ys x k less e)

-- from std's word for membership
pub in_from_contains : {X : Type 0} (xs : List X) (x : X) → Contains xs x → In xs x
in_from_contains xs x h = in_from_place xs x h.0 h.1 h.2

-- and back to it
pub contains_from_in : {X : Type 0} (xs : List X) (x : X) → In xs x → Contains xs x
contains_from_in [] x h = absurd h
contains_from_in (y ∷ ys) x h =
    ⊎_elim
    (λ e. let lt : 0 < length (y ∷ ys) = omega arith in (0, lt, sym e))
    (λ r. let c = contains_from_in ys x r in let lt : suc c.0 < length (y ∷ ys) = omega (arith, c.1) in (suc c.0, lt, c.2))
    h

-- what holds of each member holds of all
pub all_from_members : {X : Type 0} (P : X → Type 0) (xs : List X) → ((x : X) → In xs x → P x) → All P xs
all_from_members P [] h k d lt = absurd (omega (arith, lt))
all_from_members P (x ∷ xs) h zero d lt = h x (inl refl)
all_from_members P (x ∷ xs) h (suc k) d lt =
    let less : k < length xs = omega (arith, lt) in
    all_from_members P xs (λ y i. h y (inr i)) k d less

-- and the other way
pub members_from_all : {X : Type 0} (P : X → Type 0) (xs : List X) → All P xs → (x : X) → In xs x → P x
members_from_all P xs h x i = let c = contains_from_in xs x i in subst P c.2 (h c.0 x c.1)

-- each element stands to each later one in R
abbrev pub InOrder : {X : Type 0} → (X → X → Type 0) → List X → Type 0
InOrder R [] = Unit {0}
InOrder R (x ∷ xs) = ((y : _) → In xs y → R x y) × InOrder R xs

-- from std's word for it
pub order_from_pairs : {X : Type 0} (R : X → X → Type 0) (xs : List X) → AllPairs R xs → InOrder R xs
order_from_pairs R [] h = tt
order_from_pairs R (x ∷ xs) h = (
  (λ y i.
      let c = contains_from_in xs y i in
      let lt : 0 < suc c.0 = omega arith in
      let less : suc c.0 < length (x ∷ xs) = omega (arith, c.1) in
      subst (R x) c.2 (h 0 (suc c.0) y lt less)),
  order_from_pairs R xs (λ i j d lt less.
      let lt' : suc i < suc j = omega (arith, lt) in
      let less' : suc j < length (x ∷ xs) = omega (arith, less) in
      h (suc i) (suc j) d lt' less'),
)

-- and back to it
pub pairs_from_order : {X : Type 0} (R : X → X → Type 0) (xs : List X) → InOrder R xs → AllPairs R xs
pairs_from_order R [] h = λ i j d lt less. absurd (omega (arith, less))
pairs_from_order R (x ∷ xs) h =
    AllPairs-cons R x xs (all_from_members (R x) xs h.0) (pairs_from_order R xs h.1)

-- what is put after an element that comes before it stands after it
pub placed_after : {X : Type 0} (before : X → Bool) (x y : X) (ys : List X) → before y ≡ true →
    placed before x (y ∷ ys) ≡ y ∷ placed before x ys
placed_after before x y ys e =
    let more : 1 + prefix_len before ys ≡ suc (prefix_len before ys) = omega arith in
    ap (λ b. insert (y ∷ ys) (cond b (1 + prefix_len before ys) 0) x) e ∙ ap (λ k. insert (y ∷ ys) k x) more

-- and in front of one that doesn't
pub placed_front : {X : Type 0} (before : X → Bool) (x y : X) (ys : List X) → before y ≡ false →
    placed before x (y ∷ ys) ≡ x ∷ y ∷ ys
placed_front before x y ys e = ap (λ b. insert (y ∷ ys) (cond b (1 + prefix_len before ys) 0) x) e

-- the elements of a list with one more put in: that one and those that were there
pub in_placed : {X : Type 0} (before : X → Bool) (x : X) (ys : List X) (z : X) → In (placed before x ys) z → (z ≡ x) ⊎ In ys z
in_placed before x [] z h = h
in_placed before x (y ∷ ys) z h =
    in_either (before y) refl (λ i. in_placed before x ys z i)
  where
    in_either : (b : Bool) → before y ≡ b → (In (placed before x ys) z → (z ≡ x) ⊎ In ys z) → (z ≡ x) ⊎ In (y ∷ ys) z
    in_either true e rest =
        ⊎_elim
        (λ s. inr (inl s))
        (λ i. ⊎_elim (λ s. inl s) (λ j. inr (inr j)) (rest i))
        (subst (λ l. In l z) (placed_after before x y ys e) h)
    in_either false e rest = subst (λ l. In l z) (placed_front before x y ys e) h
