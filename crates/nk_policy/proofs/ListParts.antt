-- Lists in parts: a list cut in two, its middle, its last element, and lists that are empty.
use Rattle.std.proofs.Common.{◌≡◌, ◌⊎◌, inl, inr, ⊎_elim, List, [], ◌∷◌, ◌++◌, refl, sym, ap, ◌∙◌, append_assoc}
use Rattle.std.specs.Prelude.{map}

-- equal lists have equal heads
pub head_is : {A : Type 0} (a : A) (xs : List A) (b : A) (ys : List A) → a ∷ xs ≡ b ∷ ys → a ≡ b
head_is a xs b ys h = cc

-- and equal tails
pub tail_is : {A : Type 0} (a : A) (xs : List A) (b : A) (ys : List A) → a ∷ xs ≡ b ∷ ys → xs ≡ ys
tail_is a xs b ys h = cc

-- a list with an element isn't empty
pub not_none : {A : Type 0} (u : List A) (a : A) → u ≡ [] → u ≡ a ∷ [] → ⊥
not_none u a e f = cc

-- nor is one with an element in its middle
pub no_middle : {A : Type 0} (u : List A) (e : A) (v : List A) → u ++ e ∷ v ≡ [] → ⊥
no_middle [] e v h = cc
no_middle (c ∷ u) e v h = cc

-- of two lists that make the empty list the first is empty
pub none_left : {A : Type 0} (u v : List A) → [] ≡ u ++ v → u ≡ []
none_left [] v e = refl
none_left (a ∷ u) v e = absurd cc

-- and the second
pub none_right : {A : Type 0} (u v : List A) → [] ≡ u ++ v → v ≡ []
none_right [] v e = sym e
none_right (a ∷ u) v e = absurd cc

-- the middle element of a list of one
pub only_middle : {A : Type 0} (u : List A) (e : A) (v : List A) (c : A)
    → u ++ e ∷ v ≡ c ∷ [] → (u ≡ []) × (e ≡ c) × (v ≡ [])
only_middle [] e v c h = (refl, head_is e v c [] h, tail_is e v c [] h)
only_middle (d ∷ u) e v c h = absurd (no_middle u e v (tail_is d (u ++ e ∷ v) c [] h))

-- a list with a middle element that is cut in two has that element in the first part or in the second
pub cut : {A : Type 0} (a b u : List A) (e : A) (v : List A)
    → u ++ e ∷ v ≡ a ++ b
    → ((t : List A) × (a ≡ u ++ e ∷ t) × (v ≡ t ++ b)) ⊎ ((t : List A) × (u ≡ a ++ t) × (b ≡ t ++ e ∷ v))
cut [] b u e v h = inr (u, refl, sym h)
cut (c ∷ a) b [] e v h = inl (a, ap (λ z. z ∷ a) (sym (head_is e v c (a ++ b) h)), tail_is e v c (a ++ b) h)
cut (c ∷ a) b (d ∷ u) e v h =
    let hd = head_is d (u ++ e ∷ v) c (a ++ b) h in
    ⊎_elim
    (λ r. inl (r.0, ap (λ z. z ∷ a) (sym hd) ∙ ap (λ l. d ∷ l) r.1, r.2))
    (λ r. inr (r.0, ap (λ z. z ∷ u) hd ∙ ap (λ l. c ∷ l) r.1, r.2))
    (cut a b u e v (tail_is d (u ++ e ∷ v) c (a ++ b) h))

-- lists with a last element have one front and one last element
pub last_is : {A : Type 0} (u : List A) (x : A) (v : List A) (y : A)
    → u ++ x ∷ [] ≡ v ++ y ∷ [] → (u ≡ v) × (x ≡ y)
last_is [] x [] y e = (refl, head_is x [] y [] e)
last_is [] x (b ∷ []) y e = absurd (let f = tail_is x [] b (y ∷ []) e in cc)
last_is [] x (b ∷ c ∷ v) y e = absurd (let f = tail_is x [] b (c ∷ (v ++ y ∷ [])) e in cc)
last_is (a ∷ []) x [] y e = absurd (let f = tail_is a (x ∷ []) y [] e in cc)
last_is (a ∷ c ∷ u) x [] y e = absurd (let f = tail_is a (c ∷ (u ++ x ∷ [])) y [] e in cc)
last_is (a ∷ u) x (b ∷ v) y e =
    let r = last_is u x v y (tail_is a (u ++ x ∷ []) b (v ++ y ∷ []) e) in
    (ap (λ z. z ∷ u) (head_is a (u ++ x ∷ []) b (v ++ y ∷ []) e) ∙ ap (λ l. b ∷ l) r.0, r.1)

-- a list with an element is a front and a last element
pub last_of_list : {A : Type 0} (a : A) (u : List A) → (v : List A) × (x : A) × (a ∷ u ≡ v ++ x ∷ [])
last_of_list a [] = ([], a, refl)
last_of_list a (b ∷ u) = let r = last_of_list b u in (a ∷ r.0, r.1, ap (λ l. a ∷ l) r.2)

-- only the empty list has no images
pub map_empty : {A B : Type 0} (f : A → B) (xs : List A) → map f xs ≡ [] → xs ≡ []
map_empty f [] e = refl
map_empty f (x ∷ xs) e = cc

-- a run in pieces: the pieces before an element, the element, and the pieces after it
pub in_pieces : {A : Type 0} (u v a b c d e : List A) (x : A)
    → u ≡ a ++ b → v ≡ c ++ (d ++ e) → u ++ x ∷ v ≡ (a ++ ((b ++ x ∷ c) ++ d)) ++ e
in_pieces u v a b c d e x f g =
    ap (λ t. t ++ x ∷ v) f ∙ ap (λ t. (a ++ b) ++ x ∷ t) g ∙ simp append_assoc
