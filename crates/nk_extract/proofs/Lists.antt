-- Facts on lists: the one element of most weight, elements that differ, and members.
use Rattle.std.proofs.Common.{◌≡◌, ◌≢◌, ℕ, ◌<◌, Bool, true, false, cond, ◌⊎◌, inl, inr, ⊎_elim, List, [], ◌∷◌, ◌++◌, refl, sym, ap, subst, ◌∙◌, append_assoc, append-nil}
use Rattle.std.specs.Prelude.{map, filter, ◌&&◌}
use Rattle.std.specs.List.{flat_map, AllByRecursion}
use Rattle.nk_field.proofs.Lists.{In, NoDup as AreApart}
use Rattle.nk_extract.specs.Chosen.{NoDupBy, IsTop}

-- a weaker property
pub every_weaker :
    {A : Type 0} (P Q : A → Type 0) (xs : List A) → ((x : A) → P x → Q x) → AllByRecursion P xs → AllByRecursion Q xs
every_weaker P Q [] f e = tt
every_weaker P Q (x ∷ xs) f e = (f x e.0, every_weaker P Q xs f e.1)

-- of two lists joined
pub every_append :
    {A : Type 0} (P : A → Type 0) (xs ys : List A) → AllByRecursion P xs → AllByRecursion P ys → AllByRecursion P (xs ++ ys)
every_append P [] ys a b = b
every_append P (x ∷ xs) ys a b = (a.0, every_append P xs ys a.1 b)

-- of images
pub every_map :
    {A B : Type 0} (P : B → Type 0) (g : A → B) (xs : List A) → AllByRecursion (λ x. P (g x)) xs
    → AllByRecursion P (map g xs)
every_map P g [] e = tt
every_map P g (x ∷ xs) e = (e.0, every_map P g xs e.1)

-- of all that is made
pub every_flat_map :
    {A B : Type 0} (Q : A → Type 0) (P : B → Type 0) (g : A → List B) (xs : List A)
    → ((x : A) → Q x → AllByRecursion P (g x)) → AllByRecursion Q xs → AllByRecursion P (flat_map g xs)
every_flat_map Q P g [] f e = tt
every_flat_map Q P g (x ∷ xs) f e = every_append P (g x) (flat_map g xs) (f x e.0) (every_flat_map Q P g xs f e.1)

-- with one more element, or without
every_if :
    {A : Type 0} (P : A → Type 0) (b : Bool) (x : A) (xs : List A) → P x → AllByRecursion P xs
    → AllByRecursion P (cond b (x ∷ xs) xs)
every_if P true x xs p e = (p, e)
every_if P false x xs p e = e

-- of what a filter keeps
pub every_filter :
    {A : Type 0} (P : A → Type 0) (test : A → Bool) (xs : List A) → AllByRecursion P xs
    → AllByRecursion P (filter test xs)
every_filter P test [] e = tt
every_filter P test (x ∷ xs) e = every_if P (test x) x (filter test xs) e.0 (every_filter P test xs e.1)

-- what each element has, an element has
pub every_in : {A : Type 0} (P : A → Type 0) (xs : List A) (x : A) → AllByRecursion P xs → In xs x → P x
every_in P [] x e m = absurd m
every_in P (y ∷ ys) x e m = ⊎_elim (λ s. subst P (sym s) e.0) (λ r. every_in P ys x e.1 r) m

-- of a list, where it holds of anything
pub every_true : {A : Type 0} (P : A → Type 0) (xs : List A) → ((x : A) → P x) → AllByRecursion P xs
every_true P [] f = tt
every_true P (x ∷ xs) f = (f x, every_true P xs f)

-- an element that a filter keeps was there, and passes
in_if :
    {A : Type 0} (x y : A) (xs : List A) (b : Bool) → In (cond b (y ∷ xs) xs) x
    → ((x ≡ y) × (b ≡ true)) ⊎ In xs x
in_if x y xs true m = ⊎_elim (λ s. inl (s, refl)) (λ r. inr r) m
in_if x y xs false m = inr m

-- an element that a filter keeps was there, and passes
pub in_filter :
    {A : Type 0} (test : A → Bool) (xs : List A) (x : A) → In (filter test xs) x
    → In xs x × (test x ≡ true)
in_filter test [] x m = absurd m
in_filter test (y ∷ ys) x m =
    ⊎_elim
    (λ s. (inl s.0, ap test s.0 ∙ s.1))
    (λ r. let h = in_filter test ys x r in (inr h.0, h.1))
    (in_if x y (filter test ys) (test y) m)

-- tests that agree keep the same
pub filter_same :
    {A : Type 0} (p q : A → Bool) (xs : List A) → ((x : A) → p x ≡ q x) → filter p xs ≡ filter q xs
filter_same p q [] e = refl
filter_same p q (x ∷ xs) e = ap (λ b. cond b (x ∷ filter p xs) (filter p xs)) (e x) ∙ ap (λ l. cond (q x) (x ∷ l) l) (filter_same p q xs e)

-- a filter that no element passes keeps nothing
pub filter_none :
    {A : Type 0} (p : A → Bool) (xs : List A) → ((x : A) → In xs x → p x ≡ false) → filter p xs ≡ []
filter_none p [] e = refl
filter_none p (x ∷ xs) e =
    ap (λ b. cond b (x ∷ filter p xs) (filter p xs)) (e x (inl refl)) ∙ filter_none p xs (λ y i. e y (inr i))

-- an image of a choice
map_if :
    {A B : Type 0} (g : A → B) (b : Bool) (x : A) (xs : List A)
    → map g (cond b (x ∷ xs) xs) ≡ cond b (g x ∷ map g xs) (map g xs)
map_if g true x xs = refl
map_if g false x xs = refl

-- a filter of images
pub filter_map_is :
    {A B : Type 0} (p : B → Bool) (g : A → B) (xs : List A)
    → filter p (map g xs) ≡ map g (filter (λ x. p (g x)) xs)
filter_map_is p g [] = refl
filter_map_is p g (x ∷ xs) =
    ap (λ l. cond (p (g x)) (g x ∷ l) l) (filter_map_is p g xs) ∙ sym (map_if g (p (g x)) x (filter (λ z. p (g z)) xs))

-- a filter of two lists joined
pub filter_append_is :
    {A : Type 0} (p : A → Bool) (xs ys : List A) → filter p (xs ++ ys) ≡ filter p xs ++ filter p ys
filter_append_is p [] ys = refl
filter_append_is p (x ∷ xs) ys = ap (λ l. cond (p x) (x ∷ l) l) (filter_append_is p xs ys) ∙ by (p x)
  where
    by :
        (b : Bool)
        → cond b (x ∷ (filter p xs ++ filter p ys)) (filter p xs ++ filter p ys) ≡ cond b (x ∷ filter p xs) (filter p xs) ++ filter p ys
    by true = refl
    by false = refl

-- true changes no test
and_true : {A : Type 0} (a : Bool) (s t : A) → cond a s t ≡ cond (a && true) s t
and_true true s t = refl
and_true false s t = refl

-- false fails any test
and_false : {A : Type 0} (a : Bool) (s t : A) → t ≡ cond (a && false) s t
and_false true s t = refl
and_false false s t = refl

-- two filters are one
pub filter_twice :
    {A : Type 0} (p q : A → Bool) (xs : List A) → filter p (filter q xs) ≡ filter (λ x. p x && q x) xs
filter_twice p q [] = refl
filter_twice p q (x ∷ xs) = by (q x) ∙ ap (λ l. cond (p x && q x) (x ∷ l) l) (filter_twice p q xs)
  where
    by :
        (b : Bool)
        → filter p (cond b (x ∷ filter q xs) (filter q xs)) ≡ cond (p x && b) (x ∷ filter p (filter q xs)) (filter p (filter q xs))
    by true = and_true (p x) (x ∷ filter p (filter q xs)) (filter p (filter q xs))
    by false = and_false (p x) (x ∷ filter p (filter q xs)) (filter p (filter q xs))

-- images of two lists joined
pub map_append_is :
    {A B : Type 0} (g : A → B) (xs ys : List A) → map g (xs ++ ys) ≡ map g xs ++ map g ys
map_append_is g [] ys = refl
map_append_is g (x ∷ xs) ys = ap (λ l. g x ∷ l) (map_append_is g xs ys)

-- values differ in two lists joined
pub no_dup_append :
    {A : Type 0} (value : A → ℕ) (xs ys : List A) → NoDupBy value xs → NoDupBy value ys
    → AllByRecursion (λ x. AllByRecursion (λ y. value x ≢ value y) ys) xs → NoDupBy value (xs ++ ys)
no_dup_append value [] ys a b c = b
no_dup_append value (x ∷ xs) ys a b c = (every_append (λ y. value x ≢ value y) xs ys a.0 c.0, no_dup_append value xs ys a.1 b c.1)

-- values differ in images
pub no_dup_map :
    {A B : Type 0} (low : A → ℕ) (high : B → ℕ) (g : A → B) (xs : List A)
    → ((x y : A) → low x ≢ low y → high (g x) ≢ high (g y)) → NoDupBy low xs → NoDupBy high (map g xs)
no_dup_map low high g [] f a = tt
no_dup_map low high g (x ∷ xs) f a =
    (every_map (λ y. high (g x) ≢ high y) g xs (every_weaker (λ y. low x ≢ low y) (λ y. high (g x) ≢ high (g y)) xs (λ y n. f x y n) a.0), no_dup_map low high g xs f a.1)

-- the highest of images
pub top_map :
    {A B : Type 0} (low : A → ℕ) (high : B → ℕ) (g : A → B) (xs : List A) (x : A)
    → ((y : A) → low y < low x → high (g y) < high (g x)) → IsTop A low xs x
    → IsTop B high (map g xs) (g x)
top_map low high g xs x f t = record {
  before = map g t.before;
  after = map g t.after;
  is = ap (map g) t.is ∙ map_append_is g t.before (x ∷ t.after);
  lower_before = every_map (λ y. high y < high (g x)) g t.before (every_weaker (λ y. low y < low x) (λ y. high (g y) < high (g x)) t.before f t.lower_before);
  lower_after = every_map (λ y. high y < high (g x)) g t.after (every_weaker (λ y. low y < low x) (λ y. high (g y) < high (g x)) t.after f t.lower_after);
}

-- the highest stays so with lower ones after
pub top_append :
    {A : Type 0} (value : A → ℕ) (xs ys : List A) (x : A) → IsTop A value xs x
    → AllByRecursion (λ y. value y < value x) ys → IsTop A value (xs ++ ys) x
top_append value xs ys x t e = record {
  before = t.before;
  after = t.after ++ ys;
  is = ap (λ l. l ++ ys) t.is ∙ append_assoc t.before (x ∷ t.after) ys;
  lower_before = t.lower_before;
  lower_after = every_append (λ y. value y < value x) t.after ys t.lower_after e;
}

-- a filter that passes nothing but what comes of one element
pub filter_one :
    {A B : Type 0} (test : B → Bool) (make : A → List B) (xs : List A) (v : A) → AreApart xs → In xs v
    → ((x : A) → In xs x → x ≢ v → filter test (make x) ≡ [])
    → filter test (flat_map make xs) ≡ filter test (make v)
filter_one test make [] v a i h = absurd i
filter_one test make (x ∷ xs) v a i h =
    filter_append_is test (make x) (flat_map make xs)
    ∙ ⊎_elim
    (λ e.
    ap (λ l. filter test (make x) ++ l) (none xs (λ y j. h y (inr j) (λ f. a.0 (subst (λ z. In xs z) (f ∙ e) j))))
    ∙ append-nil (filter test (make x))
    ∙ ap (λ z. filter test (make z)) (sym e))
    (λ j.
    ap (λ l. l ++ filter test (flat_map make xs)) (h x (inl refl) (λ f. a.0 (subst (λ z. In xs z) (sym f) j)))
    ∙ filter_one test make xs v a.1 j (λ y k. h y (inr k)))
    i
  where
    none :
        (ys : List _) → ((y : _) → In ys y → filter test (make y) ≡ [])
        → filter test (flat_map make ys) ≡ []
    none [] k = refl
    none (y ∷ ys) k =
        filter_append_is test (make y) (flat_map make ys)
        ∙ ap (λ l. l ++ filter test (flat_map make ys)) (k y (inl refl))
        ∙ none ys (λ z j. k z (inr j))
