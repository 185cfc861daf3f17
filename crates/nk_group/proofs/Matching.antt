-- Lists whose elements match one by one.
use Rattle.std.proofs.Common.{◌≡◌, inl, inr, List, [], ◌∷◌, ◌++◌, refl, sym, ap, subst, ◌∙◌}
use Rattle.std.specs.Prelude.{map}
use Rattle.nk_field.proofs.Lists.{In}
use Rattle.nk_group.specs.Matched.{Matched}

-- one more on either side
pub matched_push : {X Y : Type 0} (R : X → Y → Type 0) (xs : List X) (ys : List Y) (x : X) (y : Y) → Matched R xs ys → R x y →
    Matched R (xs ++ x ∷ []) (ys ++ y ∷ [])
matched_push R [] [] x y m r = (r, tt)
matched_push R [] (b ∷ ys) x y m r = absurd m
matched_push R (a ∷ xs) [] x y m r = absurd m
matched_push R (a ∷ xs) (b ∷ ys) x y m r = (m.0, matched_push R xs ys x y m.1 r)

-- what follows of each pair
pub matched_weaker : {X Y : Type 0} (R S : X → Y → Type 0) → ((x : X) (y : Y) → R x y → S x y) → (xs : List X) (ys : List Y) →
    Matched R xs ys → Matched S xs ys
matched_weaker R S h [] [] m = tt
matched_weaker R S h [] (b ∷ ys) m = absurd m
matched_weaker R S h (a ∷ xs) [] m = absurd m
matched_weaker R S h (a ∷ xs) (b ∷ ys) m = (h a b m.0, matched_weaker R S h xs ys m.1)

-- what follows of each pair where something holds of the first
pub matched_with : {X Y : Type 0} (P : X → Type 0) (R S : X → Y → Type 0) → ((x : X) (y : Y) → P x → R x y → S x y) → (xs : List X) (ys : List Y) →
    ((x : X) → In xs x → P x) → Matched R xs ys → Matched S xs ys
matched_with P R S h [] [] p m = tt
matched_with P R S h [] (b ∷ ys) p m = absurd m
matched_with P R S h (a ∷ xs) [] p m = absurd m
matched_with P R S h (a ∷ xs) (b ∷ ys) p m = (h a b (p a (inl refl)) m.0, matched_with P R S h xs ys (λ x i. p x (inr i)) m.1)

-- two matches in turn
pub matched_through : {X Y Z : Type 0} (R : X → Y → Type 0) (S : Y → Z → Type 0) (T : X → Z → Type 0) →
    ((x : X) (y : Y) (z : Z) → R x y → S y z → T x z) → (xs : List X) (ys : List Y) (zs : List Z) → Matched R xs ys → Matched S ys zs → Matched T xs zs
matched_through R S T h [] [] [] m n = tt
matched_through R S T h [] [] (c ∷ zs) m n = absurd n
matched_through R S T h [] (b ∷ ys) zs m n = absurd m
matched_through R S T h (a ∷ xs) [] zs m n = absurd m
matched_through R S T h (a ∷ xs) (b ∷ ys) [] m n = absurd n
matched_through R S T h (a ∷ xs) (b ∷ ys) (c ∷ zs) m n = (h a b c m.0 n.0, matched_through R S T h xs ys zs m.1 n.1)

-- each of the second matches one of the first
pub of_second : {X Y : Type 0} (R : X → Y → Type 0) (xs : List X) (ys : List Y) (y : Y) → Matched R xs ys → In ys y → (x : X) × In xs x × R x y
of_second R [] [] y m i = absurd i
of_second R [] (b ∷ ys) y m i = absurd m
of_second R (a ∷ xs) [] y m i = absurd m
of_second R (a ∷ xs) (b ∷ ys) y m (inl e) = (a, inl refl, subst (R a) (sym e) m.0)
of_second R (a ∷ xs) (b ∷ ys) y m (inr i) = let r = of_second R xs ys y m.1 i in (r.0, inr r.1, r.2)

-- images that match are the same lists
pub matched_maps : {X Y Z : Type 0} (R : X → Y → Type 0) (f : X → Z) (g : Y → Z) → ((x : X) (y : Y) → R x y → g y ≡ f x) → (xs : List X) (ys : List Y) →
    Matched R xs ys → map g ys ≡ map f xs
matched_maps R f g h [] [] m = refl
matched_maps R f g h [] (b ∷ ys) m = absurd m
matched_maps R f g h (a ∷ xs) [] m = absurd m
matched_maps R f g h (a ∷ xs) (b ∷ ys) m = ap (λ z. z ∷ map g ys) (h a b m.0) ∙ ap (λ zs. f a ∷ zs) (matched_maps R f g h xs ys m.1)
