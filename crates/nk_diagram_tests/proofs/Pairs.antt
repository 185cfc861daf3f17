-- Lists of two.
use Rattle.std.proofs.Common.{◌≡◌, ℕ, zero, suc, ◌<◌, List, [], ◌∷◌, sym, subst, arith}
use Rattle.std.specs.Prelude.{All}
use Rattle.std.specs.List.Sorted.{IsStrictlyIncreasing}
use Rattle.nk_store.specs.StoreState.{StoreState, IsId}
use Rattle.nk_apply.specs.Unions.{AreIds}

-- two numbers ascend
pub two_ascend : (xs : List ℕ) (a b : ℕ) → xs ≡ a ∷ b ∷ [] → a < b → IsStrictlyIncreasing xs
two_ascend xs a b e l = subst IsStrictlyIncreasing (sym e) two
  where
    two : IsStrictlyIncreasing (a ∷ b ∷ [])
    two zero m = l
    two (suc k) m = absurd (omega (arith, m))

-- two diagrams of a store
pub two_ids : (st : StoreState) (a b : ℕ) → IsId st a → IsId st b → AreIds st (a ∷ b ∷ [])
two_ids st a b x y zero l = x
two_ids st a b x y (suc zero) l = y
two_ids st a b x y (suc (suc k)) l = absurd (omega (arith, l))

-- two places
pub two_places : (xs : List ℕ) → xs ≡ 0 ∷ 1 ∷ [] → All (λ l. l < 2) xs
two_places xs e = subst (All (λ l. l < 2)) (sym e) two
  where
    two : All (λ l. l < 2) (0 ∷ 1 ∷ [])
    two zero d l = omega arith
    two (suc zero) d l = omega arith
    two (suc (suc k)) d l = absurd (omega (arith, l))
