-- Orders in which of two things at most one comes before the other; the lists in such an order, and what is least.
use Rattle.std.proofs.Common.{◌≡◌, ℕ, ◌<◌, ◌⊎◌, inl, inr, ⊎_elim, List, [], ◌∷◌, length, refl, sym, ap, subst, ◌∙◌, arith}
use Rattle.std.specs.Prelude.{AllPairs}
use Rattle.nk_field.specs.Order.{Found, Precedes, AllPrecede, IsLess, IsLeast, IsListedBefore}
use Rattle.nk_field.proofs.Lists.{In}
use Rattle.nk_field.proofs.Ascending.{first_before, rest_in_order}

-- two things in order by their first parts, then by the others, are so one way alone
pub lex_once : {A : Type 0} (P : A → A → Type 0) → ((x y : A) → P x y → P y x → ⊥) → (x y : A) {U V : Type 0} → (U → V → ⊥)
    → P x y ⊎ ((x ≡ y) × U) → P y x ⊎ ((y ≡ x) × V) → ⊥
lex_once P once x y rest h k =
    ⊎_elim
    (λ p. ⊎_elim (λ q. once x y p q) (λ f. let self = subst (P x) f.0 p in once x x self self) k)
    (λ e. ⊎_elim (λ q. let self = subst (P y) e.0 q in once y y self self) (λ f. rest e.1 f.1) k)
    h

pub numbers_once : (m n : ℕ) → m < n → n < m → ⊥
numbers_once m n lt gt = omega (arith, lt, gt)

precedes_once : (xs ys : List ℕ) → Precedes xs ys → Precedes ys xs → ⊥
precedes_once [] ys h k = h
precedes_once (x ∷ xs) [] h k = h
precedes_once (x ∷ xs) (y ∷ ys) h k = lex_once (λ m n. m < n) numbers_once x y (precedes_once xs ys) h k

packets_once : (xs ys : List (List ℕ)) → AllPrecede xs ys → AllPrecede ys xs → ⊥
packets_once [] ys h k = h
packets_once (x ∷ xs) [] h k = h
packets_once (x ∷ xs) (y ∷ ys) h k = lex_once Precedes precedes_once x y (packets_once xs ys) h k

less_once : (a b : Found) → IsLess a b → IsLess b a → ⊥
less_once a b =
    lex_once (λ m n. m < n) numbers_once (length a.records) (length b.records)
    (lex_once Precedes precedes_once a.start b.start (lex_once AllPrecede packets_once a.records b.records (precedes_once a.last b.last)))

-- the least history is one
pub one_least : (P : Found → Type 0) (a b : Found) → IsLeast P a → IsLeast P b → a ≡ b
one_least P a b h k =
    ⊎_elim
    (λ e. e)
    (λ l. ⊎_elim (λ e. sym e) (λ m. absurd (less_once a b l m)) (k.1 a h.0))
    (h.1 b k.0)

-- of two lists at most one comes before the other in dictionary order
pub listed_once : (xs ys : List ℕ) → IsListedBefore xs ys → IsListedBefore ys xs → ⊥
listed_once [] [] h k = h
listed_once [] (y ∷ ys) h k = k
listed_once (x ∷ xs) [] h k = h
listed_once (x ∷ xs) (y ∷ ys) h k = lex_once (λ m n. m < n) numbers_once x y (listed_once xs ys) h k

-- lists in one order with the same members are one
pub same_sorted : {X : Type 0} (R : X → X → Type 0) → ((x y : X) → R x y → R y x → ⊥) → (xs ys : List X) → AllPairs R xs → AllPairs R ys
    → ((x : X) → In xs x → In ys x) → ((x : X) → In ys x → In xs x) → xs ≡ ys
same_sorted R once [] [] a b f g = refl
same_sorted R once [] (y ∷ ys) a b f g = absurd (g y (inl refl))
same_sorted R once (x ∷ xs) [] a b f g = absurd (f x (inl refl))
same_sorted R once (x ∷ xs) (y ∷ ys) a b f g =
    let head : x ≡ y =
    ⊎_elim
    (λ e. e)
    (λ i.
    ⊎_elim
    (λ e. sym e)
    (λ j. absurd (once x y (first_before R x xs a y j) (first_before R y ys b x i)))
    (g y (inl refl)))
    (f x (inl refl)) in
    let tail =
    same_sorted R once xs ys (rest_in_order R x xs a) (rest_in_order R y ys b)
    (λ z i.
    ⊎_elim
    (λ e. let r = subst (λ w. R x w) (e ∙ sym head) (first_before R x xs a z i) in absurd (once x x r r))
    (λ j. j)
    (f z (inr i)))
    (λ z i.
    ⊎_elim
    (λ e. let r = subst (λ w. R y w) (e ∙ head) (first_before R y ys b z i) in absurd (once y y r r))
    (λ j. j)
    (g z (inr i))) in
    ap (λ w. w ∷ xs) head ∙ ap (λ w. y ∷ w) tail
