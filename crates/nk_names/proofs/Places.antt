-- Places in lists: where the first element stands that passes a test.
use Rattle.std.proofs.Common.{◌≡◌, ℕ, ◌+◌, ◌<◌, Bool, true, false, cond, Option, Some, None, List, [], ◌∷◌, ◌++◌, length, get_or, suc, zero, refl, sym, ap, subst, ◌∙◌, arith, rules, option_map, IfSome}
use Rattle.std.specs.Prelude.{map}
use Rattle.std.specs.Cmp.Lexicographic.{bytes_decides}
use Rattle.std.specs.Option.{option_or}
use Rattle.std.specs.List.{position_from}
use Rattle.std.specs.Str.{bytes_eq}
use Rattle.nk_policy.specs.Policy.{Policy}
use Rattle.nk_names.specs.declared.shape.Shape.{Shape}
use Rattle.nk_names.specs.Shape.{shape_of}
use Rattle.nk_names.specs.Meant.{policy_among}

module _ {A : Type 0} (test : A → Bool) where
  -- one more element after the others
  pub place_after : (xs : List A) (i : ℕ) (y : A)
      → position_from test i (xs ++ y ∷ []) ≡ option_or (position_from test i xs) (cond (test y) (Some (i + length xs)) None)
  place_after [] i y = ap (λ k. cond (test y) (Some k) None) (omega arith)
  place_after (x ∷ xs) i y = later (test x) (place_after xs (i + 1) y)
    where
      later : (b : Bool) → position_from test (i + 1) (xs ++ y ∷ []) ≡ option_or (position_from test (i + 1) xs) (cond (test y) (Some ((i + 1) + length xs)) None)
          → cond b (Some i) (position_from test (i + 1) (xs ++ y ∷ [])) ≡ option_or (cond b (Some i) (position_from test (i + 1) xs)) (cond (test y) (Some (i + suc (length xs))) None)
      later true h = refl
      later false h = h ∙ ap (λ k. option_or (position_from test (i + 1) xs) (cond (test y) (Some k) None)) (omega arith)

-- what is found is one thing
some_is : (i k : ℕ) → Some i ≡ Some k → i ≡ k
some_is i k h = cc

-- what is found at a place has the name's policy
pub policy_there : (name : List ℕ) (ls : List (List ℕ × Policy)) (i k : ℕ) (d : List ℕ × Policy)
    → position_from (λ e. bytes_eq e.0 name) i ls ≡ Some k
    → (j : ℕ) × (k ≡ i + j) × (j < length ls) × (policy_among ls name ≡ Some (get_or ls j d).1)
policy_there name [] i k d h = absurd cc
policy_there name (l ∷ ls) i k d h = at (bytes_eq l.0 name) h (λ g. policy_there name ls (i + 1) k d g)
  where
    at : (b : Bool) → cond b (Some i) (position_from (λ e. bytes_eq e.0 name) (i + 1) ls) ≡ Some k
        → (position_from (λ e. bytes_eq e.0 name) (i + 1) ls ≡ Some k → (j : ℕ) × (k ≡ (i + 1) + j) × (j < length ls) × (policy_among ls name ≡ Some (get_or ls j d).1))
        → (j : ℕ) × (k ≡ i + j) × (j < length (l ∷ ls)) × (cond b (Some l.1) (policy_among ls name) ≡ Some (get_or (l ∷ ls) j d).1)
    at true h later = (0, omega (arith, some_is i k h), omega arith, refl)
    at false h later = let r = later h in (suc r.0, omega (arith, r.1), omega (arith, r.2), r.3)

-- what isn't found has none
pub no_policy : (name : List ℕ) (ls : List (List ℕ × Policy)) (i : ℕ)
    → position_from (λ e. bytes_eq e.0 name) i ls ≡ None → policy_among ls name ≡ None
no_policy name [] i h = refl
no_policy name (l ∷ ls) i h = at (bytes_eq l.0 name) h (λ g. no_policy name ls (i + 1) g)
  where
    at : (b : Bool) → cond b (Some i) (position_from (λ e. bytes_eq e.0 name) (i + 1) ls) ≡ None
        → (position_from (λ e. bytes_eq e.0 name) (i + 1) ls ≡ None → policy_among ls name ≡ None)
        → cond b (Some l.1) (policy_among ls name) ≡ None
    at true h later = absurd cc
    at false h later = later h

-- what has no policy isn't found
pub no_place : (name : List ℕ) (ls : List (List ℕ × Policy)) (i : ℕ)
    → policy_among ls name ≡ None → position_from (λ e. bytes_eq e.0 name) i ls ≡ None
no_place name [] i h = refl
no_place name (l ∷ ls) i h = at (bytes_eq l.0 name) h (λ g. no_place name ls (i + 1) g)
  where
    at : (b : Bool) → cond b (Some l.1) (policy_among ls name) ≡ None
        → (policy_among ls name ≡ None → position_from (λ e. bytes_eq e.0 name) (i + 1) ls ≡ None)
        → cond b (Some i) (position_from (λ e. bytes_eq e.0 name) (i + 1) ls) ≡ None
    at true h later = absurd cc
    at false h later = later h

-- where something is found there is a first policy
first_of_found : (name : List ℕ) (ls : List (List ℕ × Policy)) (i k : ℕ)
    → position_from (λ e. bytes_eq e.0 name) i ls ≡ Some k → List ℕ × Policy
first_of_found name [] i k h = absurd cc
first_of_found name (l ∷ ls) i k h = l

-- a place that is found is one of the list
pub found_within : (name : List ℕ) (ls : List (List ℕ × Policy)) (o : Option ℕ)
    → o ≡ position_from (λ e. bytes_eq e.0 name) 0 ls → IfSome o (λ k. k < length ls)
found_within name ls None h = search rules
found_within name ls (Some k) h = let r = policy_there name ls 0 k (first_of_found name ls 0 k (sym h)) (sym h) in let lt : k < length ls = omega (arith, r.1, r.2) in search rules

-- the policy at the place that is found
pub policy_at : (name : List ℕ) (ls : List (List ℕ × Policy)) (k : ℕ) (x : List ℕ × Policy)
    → position_from (λ e. bytes_eq e.0 name) 0 ls ≡ Some k → x ≡ get_or ls k x
    → Some x.1 ≡ policy_among ls name
policy_at name ls k x h is =
    let r = policy_there name ls 0 k x h in
    let place : k ≡ r.0 = omega (arith, r.1) in
    ap (λ y. Some y.1) is ∙ ap (λ j. Some (get_or ls j x).1) place ∙ sym r.3

-- the image of the element at a place
pub image_at : {A B : Type 0} (f : A → B) (xs : List A) (k : ℕ) (d : A) (s : B) → k < length xs
    → get_or (map f xs) k s ≡ f (get_or xs k d)
image_at f [] k d s lt = absurd (omega arith)
image_at f (x ∷ xs) zero d s lt = refl
image_at f (x ∷ xs) (suc k) d s lt = image_at f xs k d s (omega arith)

-- what is known of the policy at the place that is found
pub shape_at : (name : List ℕ) (ls : List (List ℕ × Policy)) (shapes : List Shape) (k : ℕ) (s : Shape)
    → shapes ≡ map (λ e. shape_of e.1) ls
    → position_from (λ e. bytes_eq e.0 name) 0 ls ≡ Some k → s ≡ get_or shapes k s
    → Some s ≡ option_map shape_of (policy_among ls name)
shape_at name ls shapes k s known h is =
    let first = first_of_found name ls 0 k h in
    let r = policy_there name ls 0 k first h in
    let place : k ≡ r.0 = omega (arith, r.1) in
    let lt : k < length ls = omega (arith, r.1, r.2) in
    ap Some (is ∙ ap (λ l. get_or l k s) known ∙ image_at (λ e. shape_of e.1) ls k first s lt)
    ∙ ap (λ j. Some (shape_of (get_or ls j first).1)) place
    ∙ ap (option_map shape_of) (sym r.3)

-- nothing after what is found
or_none : {A : Type 0} (o : Option A) → option_or o None ≡ o
or_none None = refl
or_none (Some x) = refl

-- the places after one more policy with a new name
pub placed_with : (name : List ℕ) (ls : List (List ℕ × Policy)) (y : List ℕ × Policy) (f g : List ℕ → Option ℕ)
    → g name ≡ Some (length ls) → ((q : List ℕ) → bytes_eq name q ≡ false → g q ≡ f q)
    → ((q : List ℕ) → f q ≡ position_from (λ e. bytes_eq e.0 q) 0 ls) → y.0 ≡ name → policy_among ls name ≡ None
    → (q : List ℕ) → g q ≡ position_from (λ e. bytes_eq e.0 q) 0 (ls ++ y ∷ [])
placed_with name ls y f g here other placed is new q =
    by_test (bytes_eq name q) refl
    ∙ ap (λ n. option_or (position_from (λ e. bytes_eq e.0 q) 0 ls) (cond (bytes_eq n q) (Some (length ls)) None)) (sym is)
    ∙ ap (λ k. option_or (position_from (λ e. bytes_eq e.0 q) 0 ls) (cond (bytes_eq y.0 q) (Some k) None)) (zero-plus (length ls))
    ∙ sym (place_after (λ e. bytes_eq e.0 q) ls 0 y)
  where
    zero-plus : (n : ℕ) → n ≡ 0 + n
    zero-plus n = omega arith

    by_test : (b : Bool) → b ≡ bytes_eq name q → g q ≡ option_or (position_from (λ e. bytes_eq e.0 q) 0 ls) (cond (bytes_eq name q) (Some (length ls)) None)
    by_test true e =
        let same : name ≡ q = (bytes_decides name q).0 (sym e) in
        let none : position_from (λ e. bytes_eq e.0 q) 0 ls ≡ None = subst (λ n. position_from (λ e. bytes_eq e.0 n) 0 ls ≡ None) same (no_place name ls 0 new) in
        let at_q : g q ≡ Some (length ls) = subst (λ n. g n ≡ Some (length ls)) same here in
        at_q ∙ ap (λ b. option_or None (cond b (Some (length ls)) None)) e ∙ ap (λ o. option_or o (cond (bytes_eq name q) (Some (length ls)) None)) (sym none)
    by_test false e =
        other q (sym e) ∙ placed q ∙ sym (or_none (position_from (λ e. bytes_eq e.0 q) 0 ls))
        ∙ ap (λ b. option_or (position_from (λ e. bytes_eq e.0 q) 0 ls) (cond b (Some (length ls)) None)) e
