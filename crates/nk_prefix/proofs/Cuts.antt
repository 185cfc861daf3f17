-- An interval as blocks: what is known of each, and which values are in one.
use Rattle.std.proofs.Common.{◌≡◌, ℕ, zero, suc, ◌+◌, ◌-◌, ◌%◌, ◌^◌, ◌<◌, ◌≤◌, refl, ap, ◌∙◌, sym, subst, arith, inl, inr, ◌⊎◌, List, [], ◌∷◌, ◌++◌, append_assoc}
use Rattle.std.specs.Prelude.{◌==◌, ◌&&◌, nat_lt, nat_le, Bool, true, false, if◌then◌else◌}
use Rattle.std.specs.List.{All}
use Rattle.std.proofs.lemmas.Nat.{pow_pos}
use Rattle.std.proofs.lemmas.List.Elements.{All-nil, All-cons}
use Rattle.std.proofs.lemmas.Bool.Decides.{nat_tests, leb_tells, eqb_tells}
use Rattle.nk_prefix.specs.Prefix.{digits_of}
use Rattle.nk_prefix.specs.Blocks.{largest_fit, end_of, blocks_from}
use Rattle.nk_prefix.proofs.Fitting.{fits_says, largest_most, largest_fits}

-- how many values the block at v has
abbrev pub step : (d e v : ℕ) → ℕ
step d e v = 2 ^ largest_fit v e d

-- the block at v
abbrev pub first : (d e v : ℕ) → ℕ × ℕ
first d e v = (v, d - largest_fit v e d)

both : {A : Type 0} (p q : Bool) (xs ys : List A) → p ≡ true → q ≡ true → (if p && q then xs else ys) ≡ xs
both p q xs ys a b = rw (a, b)

not_both : {A : Type 0} (p q : Bool) (xs ys : List A) → ((p ≡ false) ⊎ (q ≡ false)) → (if p && q then xs else ys) ≡ ys
not_both true true xs ys h = elim h [ inl a ↦ absurd cc | inr b ↦ absurd cc ]
not_both true false xs ys h = refl
not_both false q xs ys h = refl

le_true : (a b : ℕ) → a ≤ b → nat_le a b ≡ true
le_true a b h = grind (arith, nat_tests, h)

le_false : (a b : ℕ) → b < a → nat_le a b ≡ false
le_false a b h = grind (arith, nat_tests, h)

lt_true : (a b : ℕ) → a + 1 ≤ b → nat_lt a b ≡ true
lt_true a b h = grind (arith, nat_tests, h)

lt_false : (a b : ℕ) → b ≤ a → nat_lt a b ≡ false
lt_false a b h = grind (arith, nat_tests, h)

both_number : (p q : Bool) (x y : ℕ) → p ≡ true → q ≡ true → (if p && q then x else y) ≡ x
both_number p q x y a b = rw (a, b)

not_both_number : (p q : Bool) (x y : ℕ) → ((p ≡ false) ⊎ (q ≡ false)) → (if p && q then x else y) ≡ y
not_both_number true true x y h = elim h [ inl a ↦ absurd cc | inr b ↦ absurd cc ]
not_both_number true false x y h = refl
not_both_number false q x y h = refl

-- a block, and what comes after it
pub cut_on :
    (d e m n v : ℕ) → v ≤ e → v ≤ m → blocks_from d e m (suc n) v ≡ first d e v ∷ blocks_from d e m n (v + step d e v)
cut_on d e m n v a b = both (nat_le v e) (nat_le v m) (first d e v ∷ blocks_from d e m n (v + step d e v)) [] (le_true v e a) (le_true v m b)

-- the end
pub cut_past : (d e m n v : ℕ) → e < v → blocks_from d e m n v ≡ []
cut_past d e m zero v h = refl
cut_past d e m (suc n) v h = not_both (nat_le v e) (nat_le v m) (first d e v ∷ blocks_from d e m n (v + step d e v)) [] (inl (le_false v e h))

pub cut_over : (d e m n v : ℕ) → m < v → blocks_from d e m n v ≡ []
cut_over d e m zero v h = refl
cut_over d e m (suc n) v h = not_both (nat_le v e) (nat_le v m) (first d e v ∷ blocks_from d e m n (v + step d e v)) [] (inr (le_false v m h))

-- whether there is a block at v
pub goes_on : (e m v : ℕ) → ((v ≤ e) × (v ≤ m)) ⊎ ((e < v) ⊎ (m < v))
goes_on e m v =
    elim (leb_tells v e) [
      | inl a ↦ elim (leb_tells v m) [ inl b ↦ inl (a.1, b.1) | inr b ↦ inr (inr b.1) ]
      | inr a ↦ inr (inl a.1)
    ]

pub cut_stop : (d e m n v : ℕ) → ((e < v) ⊎ (m < v)) → blocks_from d e m n v ≡ []
cut_stop d e m n v h = elim h [ inl a ↦ cut_past d e m n v a | inr b ↦ cut_over d e m n v b ]

-- the bound on the number of blocks doesn't matter
pub cut_bound :
    (d e m n k v : ℕ) → e + 1 ≤ v + n → e + 1 ≤ v + k → blocks_from d e m n v ≡ blocks_from d e m k v
cut_bound d e m zero k v a b = sym (cut_past d e m k v (omega (arith, a)))
cut_bound d e m (suc n) zero v a b = cut_past d e m (suc n) v (omega (arith, b))
cut_bound d e m (suc n) (suc k) v a b =
    elim (goes_on e m v) [
      | inl on ↦
          let more = pow_pos (largest_fit v e d) in
          cut_on d e m n v on.0 on.1
          ∙ ap (λ bs. first d e v ∷ bs) (cut_bound d e m n k (v + step d e v) (omega (arith, a, more)) (omega (arith, b, more)))
          ∙ sym (cut_on d e m k v on.0 on.1)
      | inr stop ↦ cut_stop d e m (suc n) v stop ∙ sym (cut_stop d e m (suc k) v stop)
    ]

-- what is known of each block of a cut from v on
pub record IsPiece (d e m v : ℕ) (b : ℕ × ℕ) : Type 0 where
  pub low : v ≤ b.0
  pub before_end : b.0 ≤ e
  pub before_max : b.0 ≤ m
  pub shared : b.1 ≤ d
  pub aligned : b.0 % 2 ^ (d - b.1) ≡ 0
  pub inside : b.0 + 2 ^ (d - b.1) ≤ e + 1

-- how many digits of a block are free
free_is : (d k : ℕ) → k ≤ d → d - (d - k) ≡ k
free_is d k h = omega (arith, h)

pub first_free : (d e v : ℕ) → 2 ^ (d - (d - largest_fit v e d)) ≡ step d e v
first_free d e v = ap (λ k. 2 ^ k) (free_is d (largest_fit v e d) (largest_most v e d))

-- the first block is one
first_piece : (d e m v w : ℕ) → w ≤ v → v ≤ e → v ≤ m → IsPiece d e m w (first d e v)
first_piece d e m v w low a b =
    let says = fits_says v e (largest_fit v e d) (largest_fits v e d a) in
    let free = first_free d e v in
    record {
      low = low;
      before_end = a;
      before_max = b;
      shared = omega arith;
      aligned = subst (λ s. v % s ≡ 0) (sym free) says.0;
      inside = subst (λ s. v + s ≤ e + 1) (sym free) says.1;
    }

-- each block is one
pub pieces : (d e m n v w : ℕ) → w ≤ v → All (IsPiece d e m w) (blocks_from d e m n v)
pieces d e m zero v w low = All-nil (IsPiece d e m w)
pieces d e m (suc n) v w low =
    elim (goes_on e m v) [
      | inl on ↦
          subst (All (IsPiece d e m w)) (sym (cut_on d e m n v on.0 on.1))
          (All-cons (IsPiece d e m w) (first d e v) (blocks_from d e m n (v + step d e v))
          (first_piece d e m v w low on.0 on.1)
          (pieces d e m n (v + step d e v) w (omega (arith, low))))
      | inr stop ↦ subst (All (IsPiece d e m w)) (sym (cut_stop d e m (suc n) v stop)) (All-nil (IsPiece d e m w))
    ]

-- an interval's end, by its largest value
pub ends :
    (lo hi max : ℕ) → hi ≤ max → (end_of lo hi max ≡ hi) ⊎ ((hi ≡ max) × (lo < hi) × (end_of lo hi max + 1 ≡ 2 ^ digits_of max))
ends lo hi max h =
    elim (leb_tells (lo + 1) hi) [
      | inl many ↦
          elim (eqb_tells hi max) [
            | inl last ↦
                let is : end_of lo hi max ≡ 2 ^ digits_of max - 1 = both_number (nat_lt lo hi) (hi == max) (2 ^ digits_of max - 1) hi (lt_true lo hi many.1) last.0 in
                inr (last.1, omega (arith, many.1), omega (arith, is, pow_pos (digits_of max)))
            | inr other ↦ inl (not_both_number (nat_lt lo hi) (hi == max) (2 ^ digits_of max - 1) hi (inr other.0))
          ]
      | inr few ↦ inl (not_both_number (nat_lt lo hi) (hi == max) (2 ^ digits_of max - 1) hi (inl (lt_false lo hi (omega (arith, few.1)))))
    ]

-- the blocks from v on are the first and those after it
pub cut_next :
    (d e m v : ℕ) → v ≤ e → v ≤ m → blocks_from d e m (e + 1) v ≡ first d e v ∷ blocks_from d e m (e + 1) (v + step d e v)
cut_next d e m v a b =
    let more = pow_pos (largest_fit v e d) in
    cut_bound d e m (e + 1) (suc e) v (omega arith) (omega arith)
    ∙ cut_on d e m e v a b
    ∙ ap (λ bs. first d e v ∷ bs) (cut_bound d e m e (e + 1) (v + step d e v) (omega (arith, more)) (omega (arith, more)))

-- a loop that writes one more block
pub pushed :
    (d e m v k w : ℕ) (before now all : List (ℕ × ℕ)) → v ≤ e → v ≤ m → k ≡ largest_fit v e d → w ≡ 2 ^ k
    → now ≡ before ++ (v, d - k) ∷ [] → before ++ blocks_from d e m (e + 1) v ≡ all → now ++ blocks_from d e m (e + 1) (v + w) ≡ all
pushed d e m v k w before now all a b free size written made =
    let rest : List (ℕ × ℕ) = blocks_from d e m (e + 1) (v + step d e v) in
    let there : v + w ≡ v + step d e v = ap (λ s. v + s) (size ∙ ap (λ j. 2 ^ j) free) in
    let head : before ++ (v, d - k) ∷ [] ≡ before ++ first d e v ∷ [] = ap (λ j. before ++ (v, d - j) ∷ []) free in
    ap (λ x. now ++ blocks_from d e m (e + 1) x) there
    ∙ ap (λ bs. bs ++ rest) (written ∙ head)
    ∙ append_assoc before (first d e v ∷ []) rest
    ∙ ap (λ bs. before ++ bs) (sym (cut_next d e m v a b))
    ∙ made
