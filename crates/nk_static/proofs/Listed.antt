-- A link literal is one of listed links exactly where its ends are among theirs.
use Rattle.std.proofs.Common.{◌≡◌, ℕ, ◌&&◌, ◌||◌, List, [], ◌∷◌, refl, arith}
use Rattle.std.specs.Prelude.{◌==◌, map}
use Rattle.std.specs.List.{list_any}
use Rattle.nk_topo.specs.Inside.{link_of}
use Rattle.nk_static.specs.Links.{is_link_of}

-- equality of numbers tells the same either way
turned : (a b : ℕ) → (a == b) ≡ (b == a)
turned a b = grind arith

-- both are one test
pub listed_is :
    (a m b n : ℕ) (ks : List (ℕ × ℕ × ℕ × ℕ))
    → list_any (λ k. (a == k.0) && (m == k.1) && (b == k.2) && (n == k.3)) ks ≡ list_any (is_link_of a m b n) (map link_of ks)
listed_is a m b n [] = refl
listed_is a m b n (k ∷ ks) = λ i.
    (turned a k.0 i && turned m k.1 i && turned b k.2 i && turned n k.3 i) || listed_is a m b n ks i
